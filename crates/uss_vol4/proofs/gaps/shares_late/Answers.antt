use Rattle.std.proofs.Common.{◌≡◌, ◌↔◌, ap, IsTrue}
use Rattle.uss_shape.specs.Plane.{Meet}
use Rattle.uss_shape.proofs.Walk.{false_is}
use Rattle.uss_shape.proofs.Within.{false_true}
use Rattle.uss_shape.proofs.Answer.{same_test}
use Rattle.uss_vol4.specs.Volume.{Volume4D, Shares, IsVolume}
use Rattle.uss_vol4.specs.Gaps.{later}
use Rattle.uss_vol4.proofs.Share.{bool_no, shares_are, altitudes_are, times_are, shares_tells}
use Rattle.uss_vol4.proofs.Gapped.{later_is_volume, gap_told}
use Rattle.uss_vol4.proofs.gaps.shares_late.Goals as goal
use Rattle.uss_vol4.proofs.gaps.shares_late.Goals.{Then-not-overlap_in_time, Then-not-overlaps_in_altitude}

apart_in_time : (c : Then-not-overlap_in_time) → Shares (later c.args.later_a c.args.a.now) (later c.args.later_b c.args.b.now) → ⊥
apart_in_time c s = false_is c.if-not-overlap_in_time.true (c.overlap_in_time.ensures.overlap.1 (times_are _ _ s))

apart_in_altitude : (c : Then-not-overlaps_in_altitude) → Shares (later c.args.later_a c.args.a.now) (later c.args.later_b c.args.b.now) → ⊥
apart_in_altitude c s = false_is c.if-not-overlaps_in_altitude.true (c.overlaps_in_altitude.ensures.1 (altitudes_are _ _ s))

pub returns-then-not-overlap_in_time-clause-claim : goal.returns-then-not-overlap_in_time-clause-claim
returns-then-not-overlap_in_time-clause-claim c = (λ h. absurd (false_true h), λ s. absurd (apart_in_time c s))

pub returns-then-not-overlap_in_time-clause-test : goal.returns-then-not-overlap_in_time-clause-test
returns-then-not-overlap_in_time-clause-test c = bool_no _ (shares_tells (later c.args.later_a c.args.a.now) (later c.args.later_b c.args.b.now)) (apart_in_time c)

pub returns-then-not-overlaps_in_altitude-clause-claim : goal.returns-then-not-overlaps_in_altitude-clause-claim
returns-then-not-overlaps_in_altitude-clause-claim c = (λ h. absurd (false_true h), λ s. absurd (apart_in_altitude c s))

pub returns-then-not-overlaps_in_altitude-clause-test : goal.returns-then-not-overlaps_in_altitude-clause-test
returns-then-not-overlaps_in_altitude-clause-test c = bool_no _ (shares_tells (later c.args.later_a c.args.a.now) (later c.args.later_b c.args.b.now)) (apart_in_altitude c)

pub returns-clause-claim : goal.returns-clause-claim
returns-clause-claim c =
    let e : c.a.inside.outline ≡ c.args.a.now.outline = ap (λ (v : Volume4D). v.outline) c.a.view_is in
    let f : c.b.inside.outline ≡ c.args.b.now.outline = ap (λ (v : Volume4D). v.outline) c.b.view_is in
    let v : IsVolume c.args.a.now = rw c.a.view_is at c.a.invariant in
    let w : IsVolume c.args.b.now = rw c.b.view_is at c.b.invariant in
    let m : IsTrue c.meets.result ↔ Meet c.args.a.now.outline c.args.b.now.outline = rw (e, f) at c.meets.ensures.meet in
    let k = shares_are (later c.args.later_a c.args.a.now) (later c.args.later_b c.args.b.now) (later_is_volume c.args.later_a _ v) (later_is_volume c.args.later_b _ w) (c.overlap_in_time.ensures.overlap.0 c.if-not-overlap_in_time.false) (c.overlaps_in_altitude.ensures.0 c.if-not-overlaps_in_altitude.false) in
    (λ h. k.0 (m.0 h), λ s. m.1 (k.1 s))

pub returns-clause-test : goal.returns-clause-test
returns-clause-test c = same_test _ _ (returns-clause-claim c) (shares_tells (later c.args.later_a c.args.a.now) (later c.args.later_b c.args.b.now))

pub returns-then-not-overlap_in_time-clause-gap : goal.returns-then-not-overlap_in_time-clause-gap
returns-then-not-overlap_in_time-clause-gap c = gap_told _ c.args.later_a c.args.later_b c.args.a.now c.args.b.now c.overlap_in_time.ensures.first c.overlap_in_time.ensures.second (returns-then-not-overlap_in_time-clause-claim c)

pub returns-then-not-overlaps_in_altitude-clause-gap : goal.returns-then-not-overlaps_in_altitude-clause-gap
returns-then-not-overlaps_in_altitude-clause-gap c = gap_told _ c.args.later_a c.args.later_b c.args.a.now c.args.b.now c.overlap_in_time.ensures.first c.overlap_in_time.ensures.second (returns-then-not-overlaps_in_altitude-clause-claim c)

pub returns-clause-gap : goal.returns-clause-gap
returns-clause-gap c = gap_told _ c.args.later_a c.args.later_b c.args.a.now c.args.b.now c.overlap_in_time.ensures.first c.overlap_in_time.ensures.second (returns-clause-claim c)
