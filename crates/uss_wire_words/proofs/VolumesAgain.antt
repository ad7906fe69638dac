-- What is written of a volume is read again as the volume.
use Rattle.std.proofs.Common.{◌≡◌, suc, ◌≤◌, true, false, List, [], ◌∷◌, Ok, refl, arith, ℤ, pos, negsuc, neg_ℤ, ◌≤ℤ◌}
use Rattle.std.specs.Prelude.{All}
use Rattle.std.proofs.lemmas.Int.{ints}
use Rattle.serde_json.specs.Data.{depth}
use Rattle.serde_json.specs.Written.{has_float}
use Rattle.uss_shape.specs.declared.Place.{Place}
use Rattle.uss_shape.specs.Plane.{InPlane}
use Rattle.uss_vol4.specs.Volume.{Volume4D, IsVolume, InAltitude, InTime}
use Rattle.uss_wire_base.specs.Names.{name}
use Rattle.uss_wire_base.specs.declared.refusal.Member.{Member}
use Rattle.uss_vol4.specs.Ranges.{is_instant}
use Rattle.uss_wire_base.specs.Writing.{IsSigned64, AllOf}
use Rattle.uss_wire_base.proofs.Again.{integer_again, integer_whole, list_again, list_whole, list_shallow, instant_at_again}
use Rattle.uss_wire_words.specs.Volumes.{vertex_at, polygon_at, altitude_at, time_at, space_at, volume_at}
use Rattle.uss_wire_words.specs.VolumeWriting.{vertex_json, polygon_json, altitude_json, time_json, space_json, volume_json}
use Rattle.uss_wire_words.proofs.Made.{outline_made, volume_made}

-- ---- what is read again

small_is_signed : (z : ℤ) → neg_ℤ (pos 1800000000) ≤ℤ z → z ≤ℤ pos 1800000000 → IsSigned64 z
small_is_signed (pos n) low high = omega (arith, ints)
small_is_signed (negsuc n) low high = omega (arith, ints)

vertex_again : (place : Member) (p : Place) → InPlane p → vertex_at place (vertex_json p) ≡ Ok p
unfolding vertex_at name
vertex_again place p h =
    rw (integer_again p.y (small_is_signed p.y (omega (arith, ints)) (omega (arith, ints))), integer_again p.x (small_is_signed p.x (omega (arith, ints)) (omega (arith, ints)))) refl

all_of : (P : Place → Type 0) (xs : List Place) → All P xs → AllOf P xs
all_of P [] h = tt
all_of P (x ∷ xs) h = (h 0 x (omega arith), all_of P xs (λ k d lt. h (suc k) d (omega arith)))

polygon_again : (place : Member) (v : Volume4D) → IsVolume v → polygon_at place (polygon_json v.outline) ≡ Ok v.outline
unfolding polygon_at polygon_json name
polygon_again place v h = rw (list_again vertex_json _ InPlane (vertex_again _) v.outline (all_of InPlane v.outline h.outline.in_plane)) (outline_made v.outline h.outline)

altitude_again : (place : Member) (z : ℤ) → InAltitude z → altitude_at place (altitude_json z) ≡ Ok z
unfolding altitude_at altitude_json name
altitude_again place z h = rw (integer_again z (small_is_signed z (omega (arith, ints, h.0)) (omega (arith, ints, h.1)))) refl

pub time_again : (place : Member) (z : ℤ) → is_instant z ≡ true → time_at place (time_json z) ≡ Ok z
unfolding time_at time_json name
time_again place z h = rw (instant_at_again _ z h) refl

pub in_time : (z : ℤ) → InTime z → is_instant z ≡ true
in_time z h = grind (arith, ints)

pub volume_again : (place : Member) (v : Volume4D) → IsVolume v → volume_at place (volume_json v) ≡ Ok v
unfolding volume_at volume_json space_at space_json name
volume_again place v h =
    rw (polygon_again _ v h, altitude_again _ v.low h.low, altitude_again _ v.high h.high, time_again _ v.start (in_time v.start h.start), time_again _ v.end (in_time v.end h.end)) (volume_made v h)

-- ---- no fraction, and not deep
vertex_whole : (p : Place) → has_float (vertex_json p) ≡ false
vertex_whole p = rw (integer_whole p.y, integer_whole p.x) refl

vertex_shallow : (p : Place) → depth (vertex_json p) ≤ 1
vertex_shallow p = omega arith

pub time_whole : (z : ℤ) → has_float (time_json z) ≡ false
unfolding time_json
time_whole z = refl

pub time_shallow : (z : ℤ) → depth (time_json z) ≤ 1
unfolding time_json
time_shallow z = omega arith

altitude_whole : (z : ℤ) → has_float (altitude_json z) ≡ false
unfolding altitude_json
altitude_whole z = rw (integer_whole z) refl

altitude_shallow : (z : ℤ) → depth (altitude_json z) ≤ 1
unfolding altitude_json
altitude_shallow z = omega arith

polygon_whole : (ps : List Place) → has_float (polygon_json ps) ≡ false
unfolding polygon_json
polygon_whole ps = rw (list_whole vertex_json vertex_whole ps) refl

polygon_shallow : (ps : List Place) → depth (polygon_json ps) ≤ 3
unfolding polygon_json
polygon_shallow ps = let h = list_shallow vertex_json 1 vertex_shallow ps in omega arith

pub volume_whole : (v : Volume4D) → has_float (volume_json v) ≡ false
unfolding volume_json space_json
volume_whole v = rw (time_whole v.end, time_whole v.start, altitude_whole v.low, altitude_whole v.high, polygon_whole v.outline) refl

pub volume_shallow : (v : Volume4D) → depth (volume_json v) ≤ 5
unfolding volume_json space_json
volume_shallow v =
    let a = time_shallow v.end in let b = time_shallow v.start in let c = altitude_shallow v.low in let d = altitude_shallow v.high in let e = polygon_shallow v.outline in
    omega arith
