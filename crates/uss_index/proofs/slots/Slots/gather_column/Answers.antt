use Rattle.std.proofs.Common.{ℤ}
use Rattle.uss_index.specs.Points.{have_common_point}
use Rattle.uss_index.proofs.Columns.{column_start, found_start}
use Rattle.uss_index.proofs.slots.Slots.gather_column.Goals as goal
use mir.Syntax.{w64}
use mir.Val.{to_z, of_z}

pub loop-slot-init : goal.loop-slot-init
loop-slot-init c =
    let x : ℤ = to_z w64 (of_z w64 c.args.x) in
    let it = column_start c.args.cells x c.args.self.now.boxes.entries _ _ _ _ (c.range-slot-items.ensures.between tt) c.first_slot.ensures c.last_slot.ensures c.into_iter-slot-iterator.ensures.into_iter_gives in
    found_start c.args.cells x (λ e. have_common_point c.args.q.now e.1) c.args.self.now.boxes.entries _ _ it
