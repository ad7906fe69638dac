use Rattle.uss_shape.specs.Words.{SomeEdge}
use Rattle.std.proofs.Common.{drop}
use Rattle.uss_shape.specs.Plane.{InPlane, edge, edges_from, Common}
use Rattle.uss_shape.proofs.Walk.{Both}
use Rattle.uss_shape.proofs.region.meets_edge.Given as goal

abbrev pub invariant-loop-v : goal.invariant-loop-v
invariant-loop-v l = record {
  before_in : InPlane l.before;
  rest : Both (SomeEdge (Common (edge l.a l.b)) (edges_from l.before (drop l.v-index l.places))) (SomeEdge (Common (edge l.a l.b)) (edges_from l.fn.before l.places));
}
