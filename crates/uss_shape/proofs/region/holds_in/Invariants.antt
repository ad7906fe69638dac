use Rattle.std.proofs.Common.{drop}
use Rattle.uss_shape.specs.Plane.{InPlane, InRegion}
use Rattle.uss_shape.proofs.Walk.{Rest, Both}
use Rattle.uss_shape.proofs.region.holds_in.Given as goal

abbrev pub invariant-loop-v : goal.invariant-loop-v
invariant-loop-v l = record {
  before_in : InPlane l.before;
  rest : Both (Rest l.p l.before l.odd (drop l.v-index l.vertices)) (InRegion l.vertices l.p);
}
