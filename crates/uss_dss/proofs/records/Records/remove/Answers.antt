-- The flight's reference is out.
use Rattle.uss_law_dss.specs.Orderly.{flight_recorded}
use Rattle.uss_dss.proofs.Maps.{removed_by, removed_value}
use Rattle.uss_dss.proofs.records.Records.remove.Goals as goal

pub invariant_of-self : goal.invariant_of-self
invariant_of-self c = rw c.remove.ensures.entries (removed_by flight_recorded _ _ c.self.invariant)

pub returns : goal.returns
returns c =
    rw (← c.self.view_is, ← c.number.ensures, c.remove.ensures.entries) (removed_value flight_recorded c.number.result _ c.self.invariant (rw (← c.self.view_is) at c.requires))
