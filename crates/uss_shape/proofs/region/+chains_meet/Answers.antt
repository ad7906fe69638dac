use Rattle.std.proofs.Common.{◌-◌, ◌/◌, ◌<◌, inl, inr, refl, arith, length, get_or}
use Rattle.std.proofs.lemmas.Grind.{common_steps}
use Rattle.uss_shape.specs.Plane.{InPlane, edges_from}
use Rattle.uss_shape.proofs.Walk.{origin, false_is}
use Rattle.uss_shape.proofs.Within.{false_true}
use Rattle.uss_shape.proofs.Apart.{chains_touch}
use Rattle.uss_shape.proofs.Chains.{first_halves, second_halves}
use Rattle.uss_shape.proofs.region.+chains_meet.Goals as goal
use Rattle.uss_shape.proofs.region.+chains_meet.Goals.{else-us-le-FEW-via-then-us-le-FEW+else-vs-le-FEW, else-us-le-FEW-via-else-us-le-FEW}

pub returns-then-not-boxes_touch : goal.returns-then-not-boxes_touch
returns-then-not-boxes_touch t c = (
  λ h. absurd (false_true h),
  λ s. absurd (false_is c.if-not-boxes_touch.true (c.boxes_touch.ensures.1 (chains_touch c.args.in_us c.args.in_vs c.args.p c.args.q c.args.us.now c.args.vs.now c.requires.covers c.requires.covers_vs s))),
)

pub returns-then-chains_meet : goal.returns-then-chains_meet
returns-then-chains_meet t c =
    let big : 8 < length c.args.vs.now = elim c.else-us-le-FEW.branch [ else-us-le-FEW-via-then-us-le-FEW+else-vs-le-FEW w ↦ omega arith | else-us-le-FEW-via-else-us-le-FEW w ↦ omega arith ] in
    let k = second_halves c.args.q origin (edges_from c.args.p c.args.us.now) c.args.vs.now (length c.args.vs.now / 2) (omega arith) (omega arith) in
    (λ _. k.1 (inl (c.chains_meet.ensures.0 c.if-chains_meet.true)), λ _. refl)

pub chains_meet-requires-then-us-vs : goal.chains_meet-requires-then-us-vs
chains_meet-requires-then-us-vs t c =
    let big : 8 < length c.args.vs.now = elim c.else-us-le-FEW.branch [ else-us-le-FEW-via-then-us-le-FEW+else-vs-le-FEW w ↦ omega arith | else-us-le-FEW-via-else-us-le-FEW w ↦ omega arith ] in
    let turn : InPlane (get_or c.args.vs.now (length c.args.vs.now / 2 - 1) origin) = c.requires.plane_vs (length c.args.vs.now / 2 - 1) origin (omega arith) in
    grind (arith, common_steps)

pub returns-then-us-vs : goal.returns-then-us-vs
returns-then-us-vs t c =
    let big : 8 < length c.args.vs.now = elim c.else-us-le-FEW.branch [ else-us-le-FEW-via-then-us-le-FEW+else-vs-le-FEW w ↦ omega arith | else-us-le-FEW-via-else-us-le-FEW w ↦ omega arith ] in
    let k = second_halves c.args.q origin (edges_from c.args.p c.args.us.now) c.args.vs.now (length c.args.vs.now / 2) (omega arith) (omega arith) in (
      λ h. k.1 (inr (c.chains_meet-then-us-vs.ensures.0 h)),
      λ s. elim (k.0 s) [
        | inl i ↦ absurd (false_is c.if-chains_meet.false (c.chains_meet.ensures.1 i))
        | inr i ↦ c.chains_meet-then-us-vs.ensures.1 i
      ],
    )

pub returns-then-chains_meet-2 : goal.returns-then-chains_meet-2
returns-then-chains_meet-2 t c =
    let big : 8 < length c.args.us.now = elim c.else-us-le-FEW.branch [ else-us-le-FEW-via-then-us-le-FEW+else-vs-le-FEW w ↦ omega arith | else-us-le-FEW-via-else-us-le-FEW w ↦ omega arith ] in
    let k = first_halves c.args.p origin c.args.us.now (edges_from c.args.q c.args.vs.now) (length c.args.us.now / 2) (omega arith) (omega arith) in
    (λ _. k.1 (inl (c.chains_meet-2.ensures.0 c.if-chains_meet-2.true)), λ _. refl)

pub chains_meet-requires-3 : goal.chains_meet-requires-3
chains_meet-requires-3 t c =
    let big : 8 < length c.args.us.now = elim c.else-us-le-FEW.branch [ else-us-le-FEW-via-then-us-le-FEW+else-vs-le-FEW w ↦ omega arith | else-us-le-FEW-via-else-us-le-FEW w ↦ omega arith ] in
    let turn : InPlane (get_or c.args.us.now (length c.args.us.now / 2 - 1) origin) = c.requires.plane (length c.args.us.now / 2 - 1) origin (omega arith) in
    grind (arith, common_steps)

pub returns : goal.returns
returns t c =
    let big : 8 < length c.args.us.now = elim c.else-us-le-FEW.branch [ else-us-le-FEW-via-then-us-le-FEW+else-vs-le-FEW w ↦ omega arith | else-us-le-FEW-via-else-us-le-FEW w ↦ omega arith ] in
    let k = first_halves c.args.p origin c.args.us.now (edges_from c.args.q c.args.vs.now) (length c.args.us.now / 2) (omega arith) (omega arith) in (
      λ h. k.1 (inr (c.chains_meet-3.ensures.0 h)),
      λ s. elim (k.0 s) [
        | inl i ↦ absurd (false_is c.if-chains_meet-2.false (c.chains_meet-2.ensures.1 i))
        | inr i ↦ c.chains_meet-3.ensures.1 i
      ],
    )
