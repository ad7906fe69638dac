use Rattle.std.proofs.Common.{◌-◌, ◌+◌, length, get_or, drop, refl, arith}
use Rattle.uss_shape.specs.Plane.{edge, IsOn, InRegion}
use Rattle.uss_shape.proofs.Walk.{origin, rest_start, rest_on, rest_step, drop_more, false_is}
use Rattle.uss_shape.proofs.region.holds_in.Goals as goal

pub loop-v-init : goal.loop-v-init
loop-v-init c = record {
  before_in = c.requires.plane (length c.args.vertices.now - 1) origin (omega (arith, c.requires.some));
  rest = rest_start c.args.p (get_or c.args.vertices.now (length c.args.vertices.now - 1) origin) origin c.args.vertices.now c.requires.some refl;
}

pub returns-then-lies_on : goal.returns-then-lies_on
returns-then-lies_on c =
    let at = get_or c.args.vertices.now c.loop-v.v-index origin in
    let on : IsOn c.args.p (edge c.loop-v.before at) = c.lies_on.ensures.0 c.if-lies_on.true in
    let i : InRegion c.args.vertices.now c.args.p = rest_on c.args.p c.loop-v.before at c.loop-v.odd (drop c.loop-v.v-index c.args.vertices.now) (drop (c.loop-v.v-index + 1) c.args.vertices.now) _ (drop_more c.args.vertices.now c.loop-v.v-index origin c.loop-v-test.true) on c.loop-v.invariant.rest in
    (λ _. i, λ _. refl)

pub loop-v-preserved : goal.loop-v-preserved
loop-v-preserved c =
    let at = get_or c.args.vertices.now c.loop-v.v-index origin in
    record {
      before_in = c.requires.plane c.loop-v.v-index origin c.loop-v-test.true;
      rest = rw (c.flipped-odd.ensures, c.passes_above.ensures) (rest_step c.args.p c.loop-v.before at c.loop-v.odd (drop c.loop-v.v-index c.args.vertices.now) (drop (c.loop-v.v-index + 1) c.args.vertices.now) _ (drop_more c.args.vertices.now c.loop-v.v-index origin c.loop-v-test.true) (λ on. false_is c.if-lies_on.false (c.lies_on.ensures.1 on)) c.loop-v.invariant.rest);
    }
