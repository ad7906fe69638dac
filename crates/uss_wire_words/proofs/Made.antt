-- When an outline and a volume are refused: the tests of the definition, from what the outline and the volume say.
use Rattle.std.proofs.Common.{◌≡◌, ℕ, zero, suc, ◌+◌, ◌<◌, ◌≤◌, Bool, true, false, not, List, [], ◌∷◌, length, Some, None, Ok, Err, ℤ, ◌≤ℤ◌, ◌<ℤ◌, refl, sym, ap, ◌∙◌, arith}
use Rattle.std.proofs.lemmas.Int.{ints}
use Rattle.std.specs.Prelude.{◌&&◌, nat_lt, int_lt, All}
use Rattle.std.specs.List.{position_from}
use Rattle.std.proofs.lemmas.Bool.{cond-true, cond-false}
use Rattle.std.proofs.lemmas.Bool.Decides.{nat_tests}
use Rattle.uss_shape.specs.declared.Place.{Place}
use Rattle.uss_shape.specs.Plane.{InPlane}
use Rattle.uss_shape.specs.Shape.{IsOutline, IsFirstOut, Refused}
use Rattle.uss_shape.specs.declared.ShapeRefusal.{ShapeRefusal}
use Rattle.uss_shape.specs.declared.ShapeRefusal.TheVariants as Shape
use Rattle.uss_vol4.specs.Volume.{Volume4D, IsVolume, InAltitude, InTime}
use Rattle.uss_vol4.specs.Refusal as vol
use Rattle.uss_vol4.specs.declared.VolRefusal.{VolRefusal}
use Rattle.uss_vol4.specs.declared.VolRefusal.TheVariants as Vol
use Rattle.uss_wire_words.specs.declared.volumes.Space.{Space}
use Rattle.uss_vol4.specs.Ranges.{is_in_plane, is_altitude, is_instant}
use Rattle.uss_wire_words.specs.Volumes.{outline_of, unless_out, outline_refusal, volume_of, volume_refusal}

lt_true : (m n : ℕ) → m < n → nat_lt m n ≡ true
lt_true m n h = grind (arith, nat_tests)

lt_false : (m n : ℕ) → n ≤ m → nat_lt m n ≡ false
lt_false m n h = grind (arith, nat_tests)

below_true : (a b : ℤ) → a <ℤ b → int_lt a b ≡ true
below_true a b h = grind (arith, ints)

below_false : (a b : ℤ) → b ≤ℤ a → int_lt a b ≡ false
below_false a b h = grind (arith, ints)

in_plane_true : (p : Place) → InPlane p → is_in_plane p ≡ true
in_plane_true p h = grind (arith, ints)

in_plane_from : (p : Place) → is_in_plane p ≡ true → InPlane p
in_plane_from p h = grind (arith, ints)

altitudes_true : (a b : ℤ) → InAltitude a → InAltitude b → (is_altitude a && is_altitude b) ≡ true
altitudes_true a b h k = grind (arith, ints)

altitude_from : (a b : ℤ) → (is_altitude a && is_altitude b) ≡ true → InAltitude a × InAltitude b
altitude_from a b h = grind (arith, ints)

moments_true : (a b : ℤ) → InTime a → InTime b → (is_instant a && is_instant b) ≡ true
moments_true a b h k = grind (arith, ints)

moments_from : (a b : ℤ) → (is_instant a && is_instant b) ≡ true → InTime a × InTime b
moments_from a b h = grind (arith, ints)

refused_true : (P : Type 0) (t : Bool) → (t ≡ true → P) → (P → ⊥) → not t ≡ true
refused_true P true from out = absurd (out (from refl))
refused_true P false from out = refl

passed_false : (t : Bool) → t ≡ true → not t ≡ false
passed_false t is = rw is refl

-- ---- outlines
abbrev is_out : Place → Bool
is_out p = not (is_in_plane p)

out_true : (p : Place) → (InPlane p → ⊥) → is_out p ≡ true
out_true p out = refused_true (InPlane p) (is_in_plane p) (in_plane_from p) out

first_from : (k i : ℕ) (vs : List Place) → IsFirstOut vs i → position_from is_out k vs ≡ Some (k + i)
first_from k i [] h = absurd (let w = h.within in omega arith)
first_from k zero (v ∷ vs) h = cond-true (is_out v) (Some k) (position_from is_out (k + 1) vs) (out_true v (h.out v)) ∙ ap Some (omega arith)
first_from k (suc i) (v ∷ vs) h =
    cond-false (is_out v) (Some k) (position_from is_out (k + 1) vs) (passed_false (is_in_plane v) (in_plane_true v (h.before 0 v (omega arith))))
    ∙ first_from (k + 1) i vs (record { within = (let w = h.within in omega arith); before = λ j d lt. h.before (suc j) d (omega arith); out = h.out })
    ∙ ap Some (omega arith)

none_from : (k : ℕ) (vs : List Place) → All InPlane vs → position_from is_out k vs ≡ None
none_from k [] h = refl
none_from k (v ∷ vs) h =
    cond-false (is_out v) (Some k) (position_from is_out (k + 1) vs) (passed_false (is_in_plane v) (in_plane_true v (h 0 v (omega arith))))
    ∙ none_from (k + 1) vs (λ j d lt. h (suc j) d (omega arith))

pub outline_refused : (vs : List Place) (e : ShapeRefusal) → Refused vs e → outline_of vs ≡ Err (outline_refusal e)
unfolding outline_of
outline_refused vs Shape.TooFewVertices h = rw (lt_true (length vs) 3 h) refl
outline_refused vs Shape.TooManyVertices h = rw (lt_false (length vs) 3 (omega arith), lt_true 1000 (length vs) h) refl
outline_refused vs (Shape.OutOfRange i) h = rw (lt_false (length vs) 3 h.0, lt_false 1000 (length vs) h.1) (ap (unless_out vs) (first_from 0 i vs h.2 ∙ ap Some (omega arith)))
outline_refused vs Shape.Memory h = absurd h

pub outline_made : (vs : List Place) → IsOutline vs → outline_of vs ≡ Ok vs
unfolding outline_of
outline_made vs h = rw (lt_false (length vs) 3 h.enough, lt_false 1000 (length vs) h.few) (ap (unless_out vs) (none_from 0 vs h.in_plane))

-- ---- volumes
pub volume_refused : (s : Space) (start end : ℤ) (e : VolRefusal) → vol.Refused s.low s.high start end e → volume_of s start end ≡ Err (volume_refusal e)
unfolding volume_of
volume_refused s start end Vol.LowAboveHigh h = rw (below_true s.high s.low h) refl
volume_refused s start end Vol.StartAfterEnd h = rw (below_false s.high s.low h.0, below_true end start h.1) refl
volume_refused s start end Vol.AltitudeRange h = rw (below_false s.high s.low h.0, below_false end start h.1, refused_true (InAltitude s.low × InAltitude s.high) (is_altitude s.low && is_altitude s.high) (altitude_from s.low s.high) h.2) refl
volume_refused s start end Vol.TimeRange h = rw (below_false s.high s.low h.0, below_false end start h.1, altitudes_true s.low s.high h.2.0 h.2.1, refused_true (InTime start × InTime end) (is_instant start && is_instant end) (moments_from start end) h.3) refl
volume_refused s start end Vol.Memory h = absurd h

abbrev pub space_in : Volume4D → Space
space_in v = record { outline = v.outline; low = v.low; high = v.high }

pub volume_made : (v : Volume4D) → IsVolume v → volume_of (space_in v) v.start v.end ≡ Ok v
unfolding volume_of
volume_made v h = rw (below_false v.high v.low h.altitudes, below_false v.end v.start h.times, altitudes_true v.low v.high h.low h.high, moments_true v.start v.end h.start h.end) refl

pub volume_made_of : (s : Space) (start end : ℤ) (v : Volume4D) → v ≡ record { outline = s.outline; low = s.low; high = s.high; start = start; end = end } → IsVolume v → volume_of s start end ≡ Ok v
volume_made_of s start end v is h = ap (λ (w : Volume4D). volume_of (space_in w) w.start w.end) (sym is) ∙ volume_made v h
