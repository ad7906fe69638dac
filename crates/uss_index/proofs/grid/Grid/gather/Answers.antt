use Rattle.std.proofs.Common.{◌≡◌, false, sym, ◌∙◌, ap}
use Rattle.uss_index.specs.Cells.{is_wide, are_many}
use Rattle.uss_index.proofs.Found.{found_sorted, found_wide, candidates_are}
use Rattle.uss_index.proofs.grid.Grid.gather.Goals as goal

pub returns-then-are_many-clause-value : goal.returns-then-are_many-clause-value
returns-then-are_many-clause-value c = rw (← c.self.view_is) (found_wide _ _ _ _ _ c.requires c.sift.ensures.found)

pub returns-then-are_many-clause-points : goal.returns-then-are_many-clause-points
returns-then-are_many-clause-points c = rw (← c.self.view_is) (candidates_are c.self.inside.boxes c.args.q.now c.self.invariant.ordered)

pub returns-clause-value : goal.returns-clause-value
returns-clause-value c =
    let narrow : is_wide c.args.q.now ≡ false = ap are_many (sym c.of-cells.ensures.value) ∙ sym c.are_many.ensures ∙ c.if-are_many.false in
    rw (← c.self.view_is)
    (found_sorted c.self.inside.boxes c.self.inside.places.wide c.self.inside.places.slots.boxes c.args.q.now c.of-cells.result c.args.found.now.items c.gather.new.found.items c.sort_unstable.new.self.items c.self.invariant c.in_ok-gather.ensures.slots c.in_ok-gather.ensures.wide narrow c.requires c.of-cells.ensures.value c.in_ok-gather.ensures.found c.sort_unstable.ensures.permutation c.sort_unstable.ensures.sorted)

pub returns-clause-points : goal.returns-clause-points
returns-clause-points c = rw (← c.self.view_is) (candidates_are c.self.inside.boxes c.args.q.now c.self.invariant.ordered)

pub returns-in_err-gather-clause-points : goal.returns-in_err-gather-clause-points
returns-in_err-gather-clause-points c = rw (← c.self.view_is) (candidates_are c.self.inside.boxes c.args.q.now c.self.invariant.ordered)
