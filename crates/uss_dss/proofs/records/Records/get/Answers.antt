-- The flight's reference is found by its key.
use Rattle.std.proofs.Common.{◌∙◌}
use Rattle.uss_law_dss.specs.Orderly.{flight_recorded}
use Rattle.uss_dss.proofs.Maps.{found_by}
use Rattle.uss_dss.proofs.records.Records.get.Goals as goal

pub returns : goal.returns
returns c = rw (← c.self.view_is, ← c.number.ensures) (c.get.ensures.value ∙ found_by flight_recorded c.number.result _ c.self.invariant)
