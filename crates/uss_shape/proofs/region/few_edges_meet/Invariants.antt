use Rattle.uss_shape.specs.Words.{SomeEdge}
use Rattle.std.proofs.Common.{drop}
use Rattle.uss_shape.specs.Plane.{InPlane, edges_from, Common}
use Rattle.uss_shape.proofs.Walk.{Both}
use Rattle.uss_shape.proofs.region.few_edges_meet.Given as goal

abbrev pub invariant-loop-v : goal.invariant-loop-v
invariant-loop-v l = record {
  before_in : InPlane l.before;
  rest : Both (SomeEdge (λ e. SomeEdge (Common e) (edges_from l.q l.vs)) (edges_from l.before (drop l.v-index l.us))) (SomeEdge (λ e. SomeEdge (Common e) (edges_from l.q l.vs)) (edges_from l.fn.p l.us));
}
