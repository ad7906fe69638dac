use Rattle.uss_shape.specs.Words.{SomeEdge}
use Rattle.std.proofs.Common.{◌+◌, get_or, drop, refl}
use Rattle.uss_shape.specs.Plane.{edge, edges_from, Common}
use Rattle.uss_shape.proofs.Meeting.{common_of_touches}
use Rattle.uss_shape.proofs.Converse.{touches_of_common}
use Rattle.uss_shape.proofs.Walk.{origin, some_here, some_step, drop_more, false_is}
use Rattle.uss_shape.proofs.region.meets_edge.Goals as goal

pub returns-then-edges_touch : goal.returns-then-edges_touch
returns-then-edges_touch c =
    let at = get_or c.args.places.now c.loop-v.v-index origin in
    let m : Common (edge c.args.a c.args.b) (edge c.loop-v.before at) = common_of_touches c.args.a c.args.b c.loop-v.before at (c.edges_touch.ensures.0 c.if-edges_touch.true) in
    let i : SomeEdge (Common (edge c.args.a c.args.b)) (edges_from c.args.before c.args.places.now) = some_here (Common (edge c.args.a c.args.b)) c.loop-v.before at (drop c.loop-v.v-index c.args.places.now) (drop (c.loop-v.v-index + 1) c.args.places.now) _ (drop_more c.args.places.now c.loop-v.v-index origin c.loop-v-test.true) m c.loop-v.invariant.rest in
    (λ _. i, λ _. refl)

pub loop-v-preserved : goal.loop-v-preserved
loop-v-preserved c =
    let at = get_or c.args.places.now c.loop-v.v-index origin in
    record {
      before_in = c.requires.plane c.loop-v.v-index origin c.loop-v-test.true;
      rest = some_step (Common (edge c.args.a c.args.b)) c.loop-v.before at (drop c.loop-v.v-index c.args.places.now) (drop (c.loop-v.v-index + 1) c.args.places.now) _ (drop_more c.args.places.now c.loop-v.v-index origin c.loop-v-test.true) (λ m. false_is c.if-edges_touch.false (c.edges_touch.ensures.1 (touches_of_common c.args.a c.args.b c.loop-v.before at m))) c.loop-v.invariant.rest;
    }
