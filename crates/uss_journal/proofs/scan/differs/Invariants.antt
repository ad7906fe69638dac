use Rattle.std.proofs.Common.{◌≡◌, drop}
use Rattle.uss_journal.specs.Format.{mark, first_difference}
use Rattle.uss_journal.proofs.scan.differs.Given as goal

abbrev pub invariant-loop-i : goal.invariant-loop-i
invariant-loop-i l = first_difference 0 mark l.bytes ≡ first_difference l.i (drop l.i mark) (drop l.i l.bytes)
