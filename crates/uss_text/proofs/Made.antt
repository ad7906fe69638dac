-- When the parts of a volume are refused: the tests of the definition, from what the outline and the volume say.
use Rattle.std.proofs.Common.{◌≡◌, ℕ, ◌<◌, ◌≤◌, Bool, true, false, not, List, length, get_or, Ok, Err, ℤ, pos, ◌≤ℤ◌, ◌<ℤ◌, refl, sym, ap, ◌∙◌, arith}
use Rattle.std.proofs.lemmas.Int.{ints}
use Rattle.std.specs.Prelude.{◌&&◌, nat_lt, int_lt, int_le, All}
use Rattle.std.specs.List.{list_all}
use Rattle.std.proofs.lemmas.Bool.Decides.{nat_tests}
use Rattle.std.proofs.lemmas.List.Sums.{list_all-from_AllPass}
use Rattle.std.proofs.lemmas.List.Folds.{list_all_at}
use Rattle.uss_shape.specs.declared.Place.{Place}
use Rattle.uss_shape.specs.Plane.{InPlane}
use Rattle.uss_shape.specs.Shape.{IsOutline, IsFirstOut, Refused}
use Rattle.uss_shape.specs.declared.ShapeRefusal.{ShapeRefusal}
use Rattle.uss_shape.specs.declared.ShapeRefusal.TheVariants as Shape
use Rattle.uss_vol4.specs.Volume.{Volume4D, IsVolume, InAltitude, InTime}
use Rattle.uss_vol4.specs.Refusal as vol
use Rattle.uss_vol4.specs.declared.VolRefusal.{VolRefusal}
use Rattle.uss_vol4.specs.declared.VolRefusal.TheVariants as Vol
use Rattle.uss_text.specs.Volumes.{volume_of, outline_refusal, volume_refusal}
use Rattle.uss_vol4.specs.Ranges.{is_in_plane, is_altitude, is_instant}

-- ---- tests on numbers
pub lt_true : (m n : ℕ) → m < n → nat_lt m n ≡ true
lt_true m n h = grind (arith, nat_tests)

pub lt_false : (m n : ℕ) → n ≤ m → nat_lt m n ≡ false
lt_false m n h = grind (arith, nat_tests)

le_true : (a b : ℤ) → a ≤ℤ b → int_le a b ≡ true
le_true a b h = grind (arith, ints)

le_from : (a b : ℤ) → int_le a b ≡ true → a ≤ℤ b
le_from a b h = grind (arith, ints)

below_true : (a b : ℤ) → a <ℤ b → int_lt a b ≡ true
below_true a b h = grind (arith, ints)

below_false : (a b : ℤ) → b ≤ℤ a → int_lt a b ≡ false
below_false a b h = grind (arith, ints)

-- ---- places in the plane
in_plane_true : (p : Place) → InPlane p → is_in_plane p ≡ true
in_plane_true p h = grind (arith, ints)

in_plane_from : (p : Place) → is_in_plane p ≡ true → InPlane p
in_plane_from p h = grind (arith, ints)

-- ---- the ranges
altitudes_true : (a b : ℤ) → InAltitude a → InAltitude b → (is_altitude a && is_altitude b) ≡ true
altitudes_true a b h k = grind (arith, ints)

altitude_from : (a b : ℤ) → (is_altitude a && is_altitude b) ≡ true → InAltitude a × InAltitude b
altitude_from a b h = grind (arith, ints)

times_true : (a b : ℤ) → InTime a → InTime b → (is_instant a && is_instant b) ≡ true
times_true a b h k = grind (arith, ints)

times_from : (a b : ℤ) → (is_instant a && is_instant b) ≡ true → InTime a × InTime b
times_from a b h = grind (arith, ints)

refused_true : (P : Type 0) (t : Bool) → (t ≡ true → P) → (P → ⊥) → not t ≡ true
refused_true P true from out = absurd (out (from refl))
refused_true P false from out = refl

passed_false : (t : Bool) → t ≡ true → not t ≡ false
passed_false t is = rw is refl

-- ---- outlines
all_in_plane : (vs : List Place) → All InPlane vs → list_all is_in_plane vs ≡ true
all_in_plane vs h = list_all-from_AllPass is_in_plane vs (λ k d lt. in_plane_true (get_or vs k d) (h k d lt))

out_of_plane : (vs : List Place) (i : ℕ) → IsFirstOut vs i → not (list_all is_in_plane vs) ≡ true
out_of_plane vs i out = rw (list_all_at is_in_plane vs i origin out.within (is_out (is_in_plane (get_or vs i origin)) (λ is. out.out origin (in_plane_from (get_or vs i origin) is)))) refl
  where
    origin : Place
    origin = record { x = pos 0; y = pos 0 }

    is_out : (t : Bool) → (t ≡ true → ⊥) → t ≡ false
    is_out true h = absurd (h refl)
    is_out false h = refl

-- ---- what is refused
pub outline_refused : (vs : List Place) (low high start end : ℤ) (e : ShapeRefusal) → Refused vs e → volume_of vs low high start end ≡ Err (outline_refusal e)
unfolding volume_of
outline_refused vs low high start end Shape.TooFewVertices h = rw (lt_true (length vs) 3 h) refl
outline_refused vs low high start end Shape.TooManyVertices h = rw (lt_false (length vs) 3 (omega arith), lt_true 1000 (length vs) h) refl
outline_refused vs low high start end (Shape.OutOfRange i) h = rw (lt_false (length vs) 3 h.0, lt_false 1000 (length vs) h.1, out_of_plane vs i h.2) refl
outline_refused vs low high start end Shape.Memory h = absurd h

pub volume_refused : (vs : List Place) (low high start end : ℤ) (e : VolRefusal) → IsOutline vs → vol.Refused low high start end e → volume_of vs low high start end ≡ Err (volume_refusal e)
unfolding volume_of
volume_refused vs low high start end Vol.LowAboveHigh o h = rw (lt_false (length vs) 3 o.enough, lt_false 1000 (length vs) o.few, all_in_plane vs o.in_plane, below_true high low h) refl
volume_refused vs low high start end Vol.StartAfterEnd o h = rw (lt_false (length vs) 3 o.enough, lt_false 1000 (length vs) o.few, all_in_plane vs o.in_plane, below_false high low h.0, below_true end start h.1) refl
volume_refused vs low high start end Vol.AltitudeRange o h = rw (lt_false (length vs) 3 o.enough, lt_false 1000 (length vs) o.few, all_in_plane vs o.in_plane, below_false high low h.0, below_false end start h.1, refused_true (InAltitude low × InAltitude high) (is_altitude low && is_altitude high) (altitude_from low high) h.2) refl
volume_refused vs low high start end Vol.TimeRange o h = rw (lt_false (length vs) 3 o.enough, lt_false 1000 (length vs) o.few, all_in_plane vs o.in_plane, below_false high low h.0, below_false end start h.1, altitudes_true low high h.2.0 h.2.1, refused_true (InTime start × InTime end) (is_instant start && is_instant end) (times_from start end) h.3) refl
volume_refused vs low high start end Vol.Memory o h = absurd h

pub volume_made : (v : Volume4D) → IsVolume v → volume_of v.outline v.low v.high v.start v.end ≡ Ok v
unfolding volume_of
volume_made v h = rw (lt_false (length v.outline) 3 h.outline.enough, lt_false 1000 (length v.outline) h.outline.few, all_in_plane v.outline h.outline.in_plane, below_false v.high v.low h.altitudes, below_false v.end v.start h.times, altitudes_true v.low v.high h.low h.high, times_true v.start v.end h.start h.end) refl

pub volume_made_of : (vs o : List Place) (low high start end : ℤ) (v : Volume4D) → o ≡ vs → v ≡ record { outline = o; low = low; high = high; start = start; end = end } → IsVolume v → Ok v ≡ volume_of vs low high start end
volume_made_of vs o low high start end v is_outline is_volume h =
    sym (volume_made v h) ∙ ap (λ (w : Volume4D). volume_of w.outline w.low w.high w.start w.end) is_volume ∙ ap (λ (w : List Place). volume_of w low high start end) is_outline
