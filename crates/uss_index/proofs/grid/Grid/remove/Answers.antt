use Rattle.std.proofs.Common.{None, sym}
use Rattle.uss_index.proofs.Keeping.{stands_as, grid_same, grid_put, boxes_after}
use Rattle.uss_index.proofs.grid.Grid.remove.Goals as goal

pub invariant_of-self : goal.invariant_of-self
invariant_of-self c = grid_same _ _ _ _ c.in_default.ensures.unchanged c.remove.ensures.ordered c.self.invariant

pub leave-requires : goal.leave-requires
leave-requires c = stands_as _ _ _ _ _ (sym c.in-Some.ensures.value) (c.self.invariant.stands c.args.id)

pub invariant_of-self-2 : goal.invariant_of-self-2
invariant_of-self-2 c = grid_put c.args.id None _ _ _ _ _ _ c.self.invariant c.leave.ensures c.in-Some.ensures.updates.0 c.remove.ensures.ordered

pub returns-clause-found : goal.returns-clause-found
returns-clause-found c = rw (← c.self.view_is) (boxes_after c.args.id None c.self.inside.boxes c.remove.new.self c.remove.ensures.updates.0)
