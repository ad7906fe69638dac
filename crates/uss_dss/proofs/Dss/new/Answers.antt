-- A new service keeps nothing.
use Rattle.uss_dss.proofs.Keeping.{kept_new}
use Rattle.uss_dss.proofs.Dss.new.Goals as goal

pub invariant_of-result : goal.invariant_of-result
invariant_of-result c =
    rw (c.new.ensures, c.new-3.ensures, c.new-5.ensures, c.new-6.ensures, c.new-7.ensures) (kept_new c.new-2.result c.new-4.result c.new-2.ensures c.new-4.ensures)
