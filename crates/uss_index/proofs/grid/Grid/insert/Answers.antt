use Rattle.std.proofs.Common.{◌≡◌, Some, None, ◌∙◌}
use Rattle.std.specs.Ordering.{nat_cmp}
use Rattle.std.specs.BTreeMap as tree
use Rattle.uss_index.proofs.Keeping.{stands_as, grid_same, boxes_back, grid_unchanged, boxes_after}
use Rattle.uss_index.proofs.grid.Grid.insert.Goals as goal

pub invariant_of-self : goal.invariant_of-self
invariant_of-self c = grid_same _ _ _ _ c.in_default.ensures.err c.insert.ensures.ordered c.self.invariant

pub enter-requires : goal.enter-requires
enter-requires c =
    let absent : tree.get nat_cmp c.self.inside.boxes c.args.id ≡ None = rw (← c.self.view_is) at c.requires in
    stands_as _ _ _ _ _ absent (c.self.invariant.stands c.args.id)

pub returns-in-Ok-enter-clause-found : goal.returns-in-Ok-enter-clause-found
returns-in-Ok-enter-clause-found c = rw (← c.self.view_is) (boxes_after c.args.id (Some c.args.b) c.self.inside.boxes c.insert.new.self c.in-Ok.ensures.updates.0)

pub returns-in-Err-clause-err : goal.returns-in-Err-clause-err
returns-in-Err-clause-err c =
    let absent : tree.get nat_cmp c.self.inside.boxes c.args.id ≡ None = rw (← c.self.view_is) at c.requires in
    boxes_back c.args.id (Some c.args.b) c.self.inside.boxes c.insert.new.self c.remove.new.self absent c.in-Ok.ensures.updates.0 c.remove.ensures.updates.0 c.self.invariant.ordered c.remove.ensures.ordered ∙ c.self.view_is

pub invariant_of-self-in-Err : goal.invariant_of-self-in-Err
invariant_of-self-in-Err c =
    let absent : tree.get nat_cmp c.self.inside.boxes c.args.id ≡ None = rw (← c.self.view_is) at c.requires in
    grid_unchanged _ _ _ _ _ _ c.self.invariant c.in-Err.ensures.err
    (boxes_back c.args.id (Some c.args.b) c.self.inside.boxes c.insert.new.self c.remove.new.self absent c.in-Ok.ensures.updates.0 c.remove.ensures.updates.0 c.self.invariant.ordered c.remove.ensures.ordered)
    c.remove.ensures.ordered
