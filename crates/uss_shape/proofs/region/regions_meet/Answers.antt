use Rattle.std.proofs.Common.{◌↔◌, ◌-◌, inl, inr, refl, length, get_or, IsTrue}
use Rattle.uss_shape.specs.Plane.{edges}
use Rattle.uss_shape.specs.Words.{SomeCommon}
use Rattle.uss_shape.proofs.Walk.{origin, false_is, edges_is}
use Rattle.uss_shape.proofs.First.{first_is, meet_is_found}
use Rattle.uss_shape.proofs.region.regions_meet.Goals as goal

pub returns-then-chains_meet : goal.returns-then-chains_meet
returns-then-chains_meet c =
    let e = edges_is c.args.us.now (get_or c.args.us.now (length c.args.us.now - 1) origin) origin c.requires.some refl in
    let f = edges_is c.args.vs.now (get_or c.args.vs.now (length c.args.vs.now - 1) origin) origin c.requires.some_vs refl in
    let k : IsTrue c.chains_meet.result ↔ SomeCommon (edges c.args.us.now) (edges c.args.vs.now) = rw (e, f) at c.chains_meet.ensures in
    (λ _. (meet_is_found c.args.us.now c.args.vs.now).1 (inl (k.0 c.if-chains_meet.true)), λ _. refl)

pub returns-then-holds_in : goal.returns-then-holds_in
returns-then-holds_in c =
    (λ _. (meet_is_found c.args.us.now c.args.vs.now).1 (inr (inl ((first_is c.args.us.now c.args.vs.now origin c.requires.some).1 (c.holds_in.ensures.0 c.if-holds_in.true)))), λ _. refl)

pub returns : goal.returns
returns c =
    let e = edges_is c.args.us.now (get_or c.args.us.now (length c.args.us.now - 1) origin) origin c.requires.some refl in
    let f = edges_is c.args.vs.now (get_or c.args.vs.now (length c.args.vs.now - 1) origin) origin c.requires.some_vs refl in
    let k : IsTrue c.chains_meet.result ↔ SomeCommon (edges c.args.us.now) (edges c.args.vs.now) = rw (e, f) at c.chains_meet.ensures in (
      λ h. (meet_is_found c.args.us.now c.args.vs.now).1 (inr (inr ((first_is c.args.vs.now c.args.us.now origin c.requires.some_vs).1 (c.holds_in-2.ensures.0 h)))),
      λ m. elim ((meet_is_found c.args.us.now c.args.vs.now).0 m) [
        | inl s ↦ absurd (false_is c.if-chains_meet.false (k.1 s))
        | inr s ↦ elim s [
          | inl i ↦ absurd (false_is c.if-holds_in.false (c.holds_in.ensures.1 ((first_is c.args.us.now c.args.vs.now origin c.requires.some).0 i)))
          | inr i ↦ c.holds_in-2.ensures.1 ((first_is c.args.vs.now c.args.us.now origin c.requires.some_vs).0 i)
        ]
      ],
    )
