-- The boxes are those of the references.
use Rattle.uss_dss.proofs.Keeping.{shows}
use Rattle.uss_dss.proofs.Dss.grid.Goals as goal

pub returns : goal.returns
returns c = rw (← c.self.view_is) (shows _ c.self.inside.reference_boxes c.self.inside.ticket_boxes c.self.invariant)
