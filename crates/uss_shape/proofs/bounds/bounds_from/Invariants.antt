use Rattle.std.proofs.Common.{◌≡◌, take}
use Rattle.std.specs.List.{fold}
use Rattle.uss_shape.specs.Shape.{grown, spot}
use Rattle.uss_shape.proofs.bounds.bounds_from.Given as goal

abbrev pub invariant-loop-v : goal.invariant-loop-v
invariant-loop-v l = l.r ≡ fold grown (spot l.fn.first) (take l.v-index l.places)
