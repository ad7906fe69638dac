-- Places and volumes are coded.
use Rattle.std.proofs.Common.{◌≡◌, ℕ, ◌≤◌, ℤ, pos, negsuc, neg_ℤ, ◌≤ℤ◌, true, List, ◌++◌, length, get_or, All, refl, arith}
use Rattle.std.specs.Prelude.{◌&&◌, int_le, nat_le}
use Rattle.std.specs.List.{list_all}
use Rattle.std.specs.Int.{w64}
use Rattle.std.specs.Int.RustNames.{FitsSigned}
use Rattle.std.proofs.lemmas.Int.{ints}
use Rattle.std.proofs.lemmas.Bool.{and_parts, and_from, leb-true, le-leb}
use Rattle.std.proofs.lemmas.List.Sums.{list_all-from_AllPass, AllPass-from_list_all}
use Rattle.uss_shape.specs.Limits.{most_outline_vertices}
use Rattle.uss_shape.specs.declared.Place.{Place}
use Rattle.uss_shape.specs.Plane.{InPlane}
use Rattle.uss_shape.specs.Shape.{IsOutline}
use Rattle.uss_vol4.specs.Volume.{Volume4D, IsVolume, InAltitude, InTime}
use Rattle.uss_codec.specs.Spelling.{signed_in_8_bytes, list, place, volume}
use Rattle.uss_codec.specs.Reading.{Reading, both_at, made_at, list_at, signed_in_8_bytes_at}
use Rattle.uss_codec.specs.Coded.{IsCoded}
use Rattle.uss_vol4.specs.Ranges.{is_in_plane, is_altitude, is_instant}
use Rattle.uss_codec.specs.Volumes.{is_outline, is_volume, place_at, volume_of, volume_at}
use Rattle.uss_codec.specs.Laws.{coded_both, coded_made, coded_only, coded_signed}
use Rattle.uss_codec.specs.ListLaws.{coded_list}

-- both coordinates have 64 bits
abbrev pub FitsPlace : Place → Type 0
FitsPlace p = FitsSigned w64 p.x × FitsSigned w64 p.y

pub coded_place : IsCoded FitsPlace place place_at
unfolding place_at
coded_place =
    coded_made (λ (p : ℤ × ℤ). FitsSigned w64 p.0 × FitsSigned w64 p.1) (λ p. signed_in_8_bytes p.0 ++ signed_in_8_bytes p.1) (both_at signed_in_8_bytes_at signed_in_8_bytes_at)
    (λ p. record { x = p.0; y = p.1 }) (λ p. (p.x, p.y)) (λ p. refl) (λ p. refl)
    (coded_both (λ z. FitsSigned w64 z) signed_in_8_bytes signed_in_8_bytes_at (λ z. FitsSigned w64 z) signed_in_8_bytes signed_in_8_bytes_at coded_signed coded_signed)

-- ---- what the tests tell

in_plane_from : (p : Place) → is_in_plane p ≡ true → InPlane p
in_plane_from p h = grind (arith, ints)

in_plane_true : (p : Place) → InPlane p → is_in_plane p ≡ true
in_plane_true p h = grind (arith, ints)

-- far within 64 bits
fits_between : (z : ℤ) → neg_ℤ (pos 9000000000000000000) ≤ℤ z → z ≤ℤ pos 9000000000000000000 → FitsSigned w64 z
fits_between (pos n) h k = record { sfits = omega (arith, ints) }
fits_between (negsuc n) h k = record { sfits = omega (arith, ints) }

in_plane_fits : (p : Place) → InPlane p → FitsPlace p
in_plane_fits p h = (fits_between p.x (omega (arith, ints, h.0)) (omega (arith, ints, h.1)), fits_between p.y (omega (arith, ints, h.2)) (omega (arith, ints, h.3)))

pub outline_from : (vs : List Place) → is_outline vs ≡ true → IsOutline vs
unfolding is_outline
outline_from vs h =
    let a = and_parts (nat_le 3 (length vs)) _ h in
    let b = and_parts (nat_le (length vs) 1000) (list_all is_in_plane vs) a.1 in
    record {
      enough = leb-true 3 (length vs) a.0;
      few = leb-true (length vs) 1000 b.0;
      in_plane = λ k d lt. in_plane_from (get_or vs k d) (AllPass-from_list_all is_in_plane vs b.1 k d lt);
    }

pub outline_true : (vs : List Place) → IsOutline vs → is_outline vs ≡ true
unfolding is_outline
outline_true vs h =
    and_from (nat_le 3 (length vs)) _ (le-leb 3 (length vs) h.enough)
    (and_from (nat_le (length vs) 1000) (list_all is_in_plane vs) (le-leb (length vs) 1000 h.few) (list_all-from_AllPass is_in_plane vs (λ k d lt. in_plane_true (get_or vs k d) (h.in_plane k d lt))))

pub instant_from : (z : ℤ) → is_instant z ≡ true → InTime z
instant_from z h = grind (arith, ints)

pub instant_true : (z : ℤ) → InTime z → is_instant z ≡ true
instant_true z h = grind (arith, ints)

altitude_from : (z : ℤ) → is_altitude z ≡ true → InAltitude z
altitude_from z h = grind (arith, ints)

altitude_true : (z : ℤ) → InAltitude z → is_altitude z ≡ true
altitude_true z h = grind (arith, ints)

le_from : (a b : ℤ) → int_le a b ≡ true → a ≤ℤ b
le_from a b h = grind (arith, ints)

le_true : (a b : ℤ) → a ≤ℤ b → int_le a b ≡ true
le_true a b h = grind (arith, ints)

pub instant_fits : (z : ℤ) → InTime z → FitsSigned w64 z
instant_fits z h = fits_between z (omega (arith, ints, h.0)) (omega (arith, ints, h.1))

pub altitude_fits : (z : ℤ) → InAltitude z → FitsSigned w64 z
altitude_fits z h = fits_between z (omega (arith, ints, h.0)) (omega (arith, ints, h.1))

pub volume_from : (v : Volume4D) → is_volume v ≡ true → IsVolume v
unfolding is_volume
volume_from v h =
    let a = and_parts (is_outline v.outline) _ h in
    let b = and_parts (int_le v.low v.high) _ a.1 in
    let c = and_parts (int_le v.start v.end) _ b.1 in
    let d = and_parts (is_altitude v.low && is_altitude v.high) (is_instant v.start && is_instant v.end) c.1 in
    let e = and_parts (is_altitude v.low) (is_altitude v.high) d.0 in
    let f = and_parts (is_instant v.start) (is_instant v.end) d.1 in
    record {
      outline = outline_from v.outline a.0;
      altitudes = le_from v.low v.high b.0;
      times = le_from v.start v.end c.0;
      low = altitude_from v.low e.0;
      high = altitude_from v.high e.1;
      start = instant_from v.start f.0;
      end = instant_from v.end f.1;
    }

pub volume_true : (v : Volume4D) → IsVolume v → is_volume v ≡ true
unfolding is_volume
volume_true v h =
    and_from (is_outline v.outline) _ (outline_true v.outline h.outline)
    (and_from (int_le v.low v.high) _ (le_true v.low v.high h.altitudes)
    (and_from (int_le v.start v.end) _ (le_true v.start v.end h.times)
    (and_from (is_altitude v.low && is_altitude v.high) (is_instant v.start && is_instant v.end)
    (and_from (is_altitude v.low) (is_altitude v.high) (altitude_true v.low h.low) (altitude_true v.high h.high))
    (and_from (is_instant v.start) (is_instant v.end) (instant_true v.start h.start) (instant_true v.end h.end)))))

-- ---- volumes

abbrev FitsTime : ℤ × ℤ → Type 0
FitsTime p = FitsSigned w64 p.0 × FitsSigned w64 p.1

abbrev FitsRanges : ℤ × (ℤ × (ℤ × ℤ)) → Type 0
FitsRanges p = FitsSigned w64 p.0 × (FitsSigned w64 p.1.0 × FitsTime p.1.1)

abbrev FitsVertices : List Place → Type 0
FitsVertices vs = (length vs ≤ most_outline_vertices) × All FitsPlace vs

abbrev time_of : ℤ × ℤ → List ℕ
time_of p = signed_in_8_bytes p.0 ++ signed_in_8_bytes p.1

abbrev ranges_of : ℤ × (ℤ × (ℤ × ℤ)) → List ℕ
ranges_of p = signed_in_8_bytes p.0 ++ (signed_in_8_bytes p.1.0 ++ time_of p.1.1)

abbrev ranges_at : Reading (ℤ × (ℤ × (ℤ × ℤ)))
ranges_at bytes = both_at signed_in_8_bytes_at (both_at signed_in_8_bytes_at (both_at signed_in_8_bytes_at signed_in_8_bytes_at)) bytes

coded_ranges : IsCoded FitsRanges ranges_of ranges_at
coded_ranges =
    coded_both (λ z. FitsSigned w64 z) signed_in_8_bytes signed_in_8_bytes_at (λ (p : ℤ × (ℤ × ℤ)). FitsSigned w64 p.0 × FitsTime p.1) (λ p. signed_in_8_bytes p.0 ++ time_of p.1) (both_at signed_in_8_bytes_at (both_at signed_in_8_bytes_at signed_in_8_bytes_at)) coded_signed
    (coded_both (λ z. FitsSigned w64 z) signed_in_8_bytes signed_in_8_bytes_at FitsTime time_of (both_at signed_in_8_bytes_at signed_in_8_bytes_at) coded_signed
    (coded_both (λ z. FitsSigned w64 z) signed_in_8_bytes signed_in_8_bytes_at (λ z. FitsSigned w64 z) signed_in_8_bytes signed_in_8_bytes_at coded_signed coded_signed))

abbrev FitsParts : List Place × (ℤ × (ℤ × (ℤ × ℤ))) → Type 0
FitsParts p = FitsVertices p.0 × FitsRanges p.1

abbrev parts_of : List Place × (ℤ × (ℤ × (ℤ × ℤ))) → List ℕ
parts_of p = list place p.0 ++ ranges_of p.1

abbrev parts_at : Reading (List Place × (ℤ × (ℤ × (ℤ × ℤ))))
parts_at bytes = both_at (list_at most_outline_vertices place_at) ranges_at bytes

coded_parts : IsCoded FitsParts parts_of parts_at
coded_parts = coded_both FitsVertices (list place) (list_at most_outline_vertices place_at) FitsRanges ranges_of ranges_at (coded_list FitsPlace place place_at coded_place 1000 (omega arith)) coded_ranges

abbrev parts : Volume4D → List Place × (ℤ × (ℤ × (ℤ × ℤ)))
parts v = (v.outline, (v.low, (v.high, (v.start, v.end))))

pub coded_volume : IsCoded IsVolume volume volume_at
unfolding volume_at
coded_volume =
    coded_only (λ (v : Volume4D). FitsParts (parts v)) (λ v. parts_of (parts v)) (made_at volume_of parts_at) is_volume IsVolume
    (λ v h k. volume_from v h)
    (λ v h. (
      volume_true v h,
      (
        (h.outline.few, λ k d lt. in_plane_fits (get_or v.outline k d) (h.outline.in_plane k d lt)),
        (altitude_fits v.low h.low, (altitude_fits v.high h.high, (instant_fits v.start h.start, instant_fits v.end h.end))),
      ),
    ))
    (coded_made FitsParts parts_of parts_at volume_of parts (λ p. refl) (λ v. refl) coded_parts)
