use Rattle.std.proofs.Common.{◌≡◌, ◌++◌}
use Rattle.std.specs.List.{filter}
use Rattle.std.specs.Map.{keys_of}
use Rattle.uss_index.specs.Points.{have_common_point}
use Rattle.uss_index.proofs.places.sift.Given as goal

abbrev pub invariant-loop-id : goal.invariant-loop-id
invariant-loop-id l =
    l.found.items ++ keys_of (filter (λ e. have_common_point l.q e.1) l.id-iterator) ≡
    l.fn.found.items ++ keys_of (filter (λ e. have_common_point l.q e.1) l.boxes.entries)
