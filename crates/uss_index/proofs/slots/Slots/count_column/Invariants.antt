use Rattle.std.proofs.Common.{◌≡◌, ◌+◌, ◌<◌, ◌^◌, length}
use Rattle.std.specs.List.{count_by}
use Rattle.uss_index.specs.Slots.{is_first_common, is_counted_in}
use Rattle.uss_index.proofs.slots.Slots.count_column.Given as goal

abbrev pub invariant-loop-slot : goal.invariant-loop-slot
invariant-loop-slot l =
    (l.all + count_by (is_first_common l.cells) l.slot-iterator ≡ count_by (is_counted_in l.cells l.x) l.self.boxes.entries) ×
    (l.all + length l.slot-iterator < 2 ^ 63)
