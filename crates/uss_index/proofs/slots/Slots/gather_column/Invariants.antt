use Rattle.std.proofs.Common.{◌≡◌, ◌++◌, ◌&&◌}
use Rattle.std.specs.List.{filter}
use Rattle.uss_index.specs.Points.{have_common_point}
use Rattle.uss_index.specs.Slots.{is_first_common, is_counted_in, ids_of}
use Rattle.uss_index.proofs.slots.Slots.gather_column.Given as goal

abbrev pub invariant-loop-slot : goal.invariant-loop-slot
invariant-loop-slot l =
    l.found.items ++ ids_of (filter (λ e. is_first_common l.cells e && have_common_point l.q e.1) l.slot-iterator) ≡
    l.fn.found.items ++ ids_of (filter (λ e. is_counted_in l.cells l.x e && have_common_point l.q e.1) l.self.boxes.entries)
