-- The ticket is in its place.
use Rattle.uss_law_dss.specs.Orderly.{id_of}
use Rattle.uss_dss.proofs.Maps.{put_by, put_new}
use Rattle.uss_dss.proofs.tickets.Tickets.put.Goals as goal

pub invariant_of-self : goal.invariant_of-self
invariant_of-self c = rw c.in-Ok.ensures.entries (put_by id_of c.number.result c.args.new _ c.number.ensures c.self.invariant)

pub returns-in-Ok-clause-ok : goal.returns-in-Ok-clause-ok
returns-in-Ok-clause-ok c =
    rw (← c.self.view_is, c.in-Ok.ensures.entries, c.number.ensures) (put_new c.args.new _ c.self.invariant (rw (← c.self.view_is) at c.requires))
