-- The ticket is found by its key.
use Rattle.std.proofs.Common.{◌∙◌}
use Rattle.uss_law_dss.specs.Orderly.{id_of}
use Rattle.uss_dss.proofs.Maps.{found_by}
use Rattle.uss_dss.proofs.tickets.Tickets.get.Goals as goal

pub returns : goal.returns
returns c = rw (← c.self.view_is, ← c.number.ensures) (c.get.ensures.value ∙ found_by id_of c.number.result _ c.self.invariant)
