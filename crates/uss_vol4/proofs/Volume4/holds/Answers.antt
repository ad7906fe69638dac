use Rattle.std.proofs.Common.{◌≡◌, ◌↔◌, ap, IsTrue, pos}
use Rattle.std.proofs.lemmas.Int.{to_z-of_z}
use Rattle.uss_shape.specs.Plane.{InRegion}
use Rattle.uss_shape.proofs.Walk.{false_is}
use Rattle.uss_shape.proofs.Within.{false_true}
use Rattle.uss_shape.proofs.Answer.{same_test}
use Rattle.uss_vol4.specs.Volume.{Volume4D, Holds, InRange}
use Rattle.uss_vol4.proofs.Share.{bool_no, holds_whole, volume_holds_tells}
use Rattle.uss_vol4.proofs.Volume4.holds.Goals as goal
use Rattle.uss_vol4.proofs.Volume4.holds.Goals.{Then-not-reaches_altitude, Then-not-lasts_at, After-holds}

too_low : (c : Then-not-reaches_altitude) → Holds c.args.self.now c.args.p (pos 1) c.args.altitude c.args.moment → ⊥
too_low c s =
    let f = c.ranges.altitude in
    let k : IsTrue c.reaches_altitude.result ↔ InRange c.args.self.now.low c.args.self.now.high c.args.altitude = simp to_z-of_z at c.reaches_altitude.ensures in
    false_is c.if-not-reaches_altitude.true (k.1 s.height)

too_late : (c : Then-not-lasts_at) → Holds c.args.self.now c.args.p (pos 1) c.args.altitude c.args.moment → ⊥
too_late c s =
    let f = c.ranges.moment in
    let k : IsTrue c.lasts_at.result ↔ InRange c.args.self.now.start c.args.self.now.end c.args.moment = simp to_z-of_z at c.lasts_at.ensures in
    false_is c.if-not-lasts_at.true (k.1 s.time)

pub returns-then-not-reaches_altitude-clause-point : goal.returns-then-not-reaches_altitude-clause-point
returns-then-not-reaches_altitude-clause-point c = (λ h. absurd (false_true h), λ s. absurd (too_low c s))

pub returns-then-not-reaches_altitude-clause-test : goal.returns-then-not-reaches_altitude-clause-test
returns-then-not-reaches_altitude-clause-test c = bool_no _ (volume_holds_tells c.args.self.now c.args.p c.args.altitude c.args.moment) (too_low c)

pub returns-then-not-lasts_at-clause-point : goal.returns-then-not-lasts_at-clause-point
returns-then-not-lasts_at-clause-point c = (λ h. absurd (false_true h), λ s. absurd (too_late c s))

pub returns-then-not-lasts_at-clause-test : goal.returns-then-not-lasts_at-clause-test
returns-then-not-lasts_at-clause-test c = bool_no _ (volume_holds_tells c.args.self.now c.args.p c.args.altitude c.args.moment) (too_late c)

pub returns-clause-point : goal.returns-clause-point
returns-clause-point c =
    let f = c.ranges.altitude in
    let g = c.ranges.moment in
    let e : c.self.inside.outline ≡ c.args.self.now.outline = ap (λ (v : Volume4D). v.outline) c.self.view_is in
    let r : IsTrue c.holds.result ↔ InRegion c.args.self.now.outline c.args.p = rw e at c.holds.ensures.region in
    let h : InRange c.args.self.now.low c.args.self.now.high c.args.altitude = simp to_z-of_z at (c.reaches_altitude.ensures.0 c.if-not-reaches_altitude.false) in
    let t : InRange c.args.self.now.start c.args.self.now.end c.args.moment = simp to_z-of_z at (c.lasts_at.ensures.0 c.if-not-lasts_at.false) in
    let w = holds_whole c.args.self.now.outline c.args.p in
    (λ b. record { place = w.1 (r.0 b); height = h; time = t }, λ s. r.1 (w.0 s.place))

pub returns-clause-test : goal.returns-clause-test
returns-clause-test c = same_test _ _ (returns-clause-point c) (volume_holds_tells c.args.self.now c.args.p c.args.altitude c.args.moment)
