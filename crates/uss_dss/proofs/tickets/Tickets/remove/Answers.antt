-- The ticket is out.
use Rattle.uss_law_dss.specs.Orderly.{id_of}
use Rattle.uss_dss.proofs.Maps.{removed_by, removed_value}
use Rattle.uss_dss.proofs.tickets.Tickets.remove.Goals as goal

pub invariant_of-self : goal.invariant_of-self
invariant_of-self c = rw c.remove.ensures.entries (removed_by id_of _ _ c.self.invariant)

pub returns : goal.returns
returns c =
    rw (← c.self.view_is, ← c.number.ensures, c.remove.ensures.entries) (removed_value id_of c.number.result _ c.self.invariant (rw (← c.self.view_is) at c.requires))
