use Rattle.std.proofs.Common.{◌≡◌, true, false, sym, ◌∙◌, ap, ◌+◌, length}
use Rattle.std.specs.List.{count_by}
use Rattle.uss_index.specs.declared.cells.Cells.{Cells}
use Rattle.uss_index.specs.Cells.{is_wide, are_many}
use Rattle.uss_index.specs.Slots.{is_counted}
use Rattle.uss_index.proofs.Found.{looked_wide, looked_narrow}
use Rattle.uss_index.proofs.grid.Grid.looked.Goals as goal

pub returns-then-are_many : goal.returns-then-are_many
returns-then-are_many c =
    let wide : is_wide c.args.q.now ≡ true = ap are_many (sym c.of-cells.ensures.value) ∙ sym c.are_many.ensures ∙ c.if-are_many.true in
    rw (← c.self.view_is) (c.len.ensures.len ∙ looked_wide c.self.inside.boxes.entries c.args.q.now wide)

pub returns : goal.returns
returns c =
    let narrow : is_wide c.args.q.now ≡ false = ap are_many (sym c.of-cells.ensures.value) ∙ sym c.are_many.ensures ∙ c.if-are_many.false in
    rw (← c.self.view_is)
    (c.count.ensures.value
    ∙ ap (λ (d : Cells). count_by (is_counted d) c.self.inside.places.slots.boxes.entries + length c.self.inside.places.wide.entries) c.of-cells.ensures.value
    ∙ looked_narrow c.self.inside.boxes c.self.inside.places.wide c.self.inside.places.slots.boxes c.args.q.now c.self.invariant c.count.ensures.slots c.count.ensures.wide narrow)
