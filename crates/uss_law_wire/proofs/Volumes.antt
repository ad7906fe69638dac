-- A volume that a reader gives is one, and so are the instants of a message in their range.
use Rattle.std.proofs.Common.{◌≡◌, ℕ, ◌+◌, ◌≤◌, Bool, true, false, not, List, [], ◌∷◌, length, Some, None, Ok, Err, Result, ℤ, ◌≤ℤ◌, refl, arith}
use Rattle.std.proofs.lemmas.Int.{ints}
use Rattle.std.specs.Prelude.{Option, ◌&&◌, nat_lt, int_lt, All, codes, cond, if◌then◌else◌}
use Rattle.std.specs.List.{position_from}
use Rattle.std.proofs.lemmas.Bool.Decides.{nat_tests}
use Rattle.std.proofs.lemmas.List.Elements.{All-nil, All-cons}
use Rattle.serde_json.specs.Data.{Data}
use Rattle.uss_shape.specs.declared.Place.{Place}
use Rattle.uss_shape.specs.Plane.{InPlane}
use Rattle.uss_shape.specs.Shape.{IsOutline}
use Rattle.uss_vol4.specs.Volume.{Volume4D, IsVolume, InAltitude, InTime}
use Rattle.uss_wire_base.specs.declared.refusal.Member.{Member}
use Rattle.uss_wire_base.specs.declared.refusal.WireRefusal.{WireRefusal}
use Rattle.uss_wire_base.specs.declared.refusal.WireRefusal.TheVariants.{TooFewVertices, TooManyVertices, LowAboveHigh, StartAfterEnd, AltitudeRange, TimeRange}
use Rattle.uss_wire_base.specs.declared.instants.InstantRefusal.{InstantRefusal}
use Rattle.uss_wire_base.specs.declared.instants.InstantRefusal.TheVariants as Instant
use Rattle.uss_vol4.specs.Ranges.{is_in_plane, is_altitude, is_instant}
use Rattle.uss_wire_base.specs.Instants.{is_civil, moment_of, in_range, instant_of}
use Rattle.uss_wire_base.specs.InstantText.{read_instant, civil_at}
use Rattle.uss_wire_base.specs.Moments.{moment_at, instant_at}
use Rattle.uss_wire_base.specs.Reading.{object_at, without, field, text_at, word_at, list_at}
use Rattle.uss_wire_words.specs.Volumes.{vertex_at, unless_out, outline_of, polygon_at, altitude_at, time_at, space_at, volume_of, volume_at}
use Rattle.uss_law_wire.proofs.Yields.{Yields, after, behind, tested, in_field}

-- ---- instants
abbrev pub IsInstant : ℤ → Type 0
IsInstant z = is_instant z ≡ true

ranged : (b : Bool) (z : ℤ) → Yields IsInstant (if b then in_range z else Err Instant.BadTime)
ranged true z = tested IsInstant (is_instant z) z Instant.TimeRange (λ is. is)
ranged false z = tt

text_given : (text : List ℕ) → Yields IsInstant (read_instant text)
unfolding instant_of
text_given text = behind IsInstant (civil_at text) instant_of (λ c. ranged (is_civil c) (moment_of c))

moment_given : (m : Member) (r : Result ℤ InstantRefusal) → Yields IsInstant r → Yields IsInstant (moment_at m r)
moment_given m (Ok z) h = h
moment_given m (Err e) h = tt

instant_given : (m : Member) (d : Data) → Yields IsInstant (instant_at m d)
instant_given m d = behind IsInstant (text_at m d) (λ text. moment_at m (read_instant text)) (λ text. moment_given m (read_instant text) (text_given text))

pub time_given : (m : Member) (d : Data) → Yields IsInstant (time_at m d)
unfolding time_at
time_given m d =
    behind IsInstant (object_at m d) _ (λ u. after IsInstant IsInstant (field Member.Value instant_at d) _ (in_field IsInstant Member.Value instant_at (instant_given Member.Value) d)
    (λ (z : ℤ) is. behind IsInstant (field Member.Format (word_at (codes "RFC3339")) d) (λ v. Ok z) (λ v. is)))

-- ---- outlines
abbrev is_out : Place → Bool
is_out p = not (is_in_plane p)

passed : (b : Bool) → not b ≡ false → b ≡ true
passed true h = refl
passed false h = absurd cc

in_plane_from : (p : Place) → is_in_plane p ≡ true → InPlane p
in_plane_from p h = grind (arith, ints)

in_plane : (p : Place) → is_out p ≡ false → InPlane p
in_plane p h = in_plane_from p (passed (is_in_plane p) h)

out_first : {A : Type 0} (b : Bool) (x : A) (o : Option A) → cond b (Some x) o ≡ None → (b ≡ false) × (o ≡ None)
out_first true x o h = absurd cc
out_first false x o h = (refl, h)

all_in : (k : ℕ) (vs : List Place) → position_from is_out k vs ≡ None → All InPlane vs
all_in k [] h = All-nil InPlane
all_in k (v ∷ vs) h = let both = out_first (is_out v) k (position_from is_out (k + 1) vs) h in All-cons InPlane v vs (in_plane v both.0) (all_in (k + 1) vs both.1)

enough_from : (n : ℕ) → nat_lt n 3 ≡ false → 3 ≤ n
enough_from n h = grind (arith, nat_tests)

few_from : (n : ℕ) → nat_lt 1000 n ≡ false → n ≤ 1000
few_from n h = grind (arith, nat_tests)

outline_with : (vs : List Place) (a b : Bool) (o : Option ℕ) → nat_lt (length vs) 3 ≡ a → nat_lt 1000 (length vs) ≡ b → position_from is_out 0 vs ≡ o → Yields IsOutline (if a then Err TooFewVertices else (if b then Err TooManyVertices else unless_out vs o))
outline_with vs true b o few many out = tt
outline_with vs false true o few many out = tt
outline_with vs false false (Some i) few many out = tt
outline_with vs false false None few many out = record { enough = enough_from (length vs) few; few = few_from (length vs) many; in_plane = all_in 0 vs out }

outline_given : (vs : List Place) → Yields IsOutline (outline_of vs)
unfolding outline_of
outline_given vs = outline_with vs (nat_lt (length vs) 3) (nat_lt 1000 (length vs)) (position_from is_out 0 vs) refl refl refl

polygon_given : (m : Member) (d : Data) → Yields IsOutline (polygon_at m d)
unfolding polygon_at
polygon_given m d = behind IsOutline (object_at m d) _ (λ u. behind IsOutline (field Member.Vertices (list_at vertex_at) d) outline_of outline_given)

-- ---- volumes

-- what the parts make with any times is a volume, if it is anything
abbrev Makes : {S : Type 0} → (S → ℤ → ℤ → Result Volume4D WireRefusal) → S → Type 0
Makes make s = (start end : ℤ) → Yields IsVolume (make s start end)

ordered : (a b : ℤ) → int_lt b a ≡ false → a ≤ℤ b
ordered a b h = grind (arith, ints)

altitudes_from : (a b : ℤ) → (is_altitude a && is_altitude b) ≡ true → InAltitude a × InAltitude b
altitudes_from a b h = grind (arith, ints)

moments_from : (a b : ℤ) → (is_instant a && is_instant b) ≡ true → InTime a × InTime b
moments_from a b h = grind (arith, ints)

volume_with : (v : Volume4D) (a b c e : Bool) → int_lt v.high v.low ≡ a → int_lt v.end v.start ≡ b → not (is_altitude v.low && is_altitude v.high) ≡ c → not (is_instant v.start && is_instant v.end) ≡ e → IsOutline v.outline → Yields IsVolume (if a then Err LowAboveHigh else (if b then Err StartAfterEnd else (if c then Err AltitudeRange else (if e then Err TimeRange else Ok v))))
volume_with v true b c e low times heights moments outline = tt
volume_with v false true c e low times heights moments outline = tt
volume_with v false false true e low times heights moments outline = tt
volume_with v false false false true low times heights moments outline = tt
volume_with v false false false false low times heights moments outline =
    let inside = altitudes_from v.low v.high (passed (is_altitude v.low && is_altitude v.high) heights) in
    let within = moments_from v.start v.end (passed (is_instant v.start && is_instant v.end) moments) in
    record { outline = outline; altitudes = ordered v.low v.high low; times = ordered v.start v.end times; low = inside.0; high = inside.1; start = within.0; end = within.1 }

made_given : (v : Volume4D) → IsOutline v.outline → Yields IsVolume (volume_of (record { outline = v.outline; low = v.low; high = v.high }) v.start v.end)
unfolding volume_of
made_given v outline =
    volume_with v (int_lt v.high v.low) (int_lt v.end v.start) (not (is_altitude v.low && is_altitude v.high)) (not (is_instant v.start && is_instant v.end)) refl refl refl refl outline

space_given : (m : Member) (d : Data) → Yields (Makes volume_of) (space_at m d)
unfolding space_at
space_given m d =
    behind (Makes volume_of) (object_at m d) _ (λ u. behind (Makes volume_of) (without Member.OutlineCircle d) _ (λ v. after IsOutline (Makes volume_of) (field Member.OutlinePolygon polygon_at d) _ (in_field IsOutline Member.OutlinePolygon polygon_at (polygon_given Member.OutlinePolygon) d)
    (λ (outline : List Place) is. behind (Makes volume_of) (field Member.AltitudeLower altitude_at d) _ (λ (low : ℤ). behind (Makes volume_of) (field Member.AltitudeUpper altitude_at d) _ (λ (high : ℤ). λ (start end : ℤ). made_given (record { outline = outline; low = low; high = high; start = start; end = end }) is)))))

pub volume_given : (m : Member) (d : Data) → Yields IsVolume (volume_at m d)
unfolding volume_at
volume_given m d =
    behind IsVolume (object_at m d) _ (λ u. after (Makes volume_of) IsVolume (field Member.Volume space_at d) _ (in_field (Makes volume_of) Member.Volume space_at (space_given Member.Volume) d)
    (λ s makes. behind IsVolume (field Member.TimeStart time_at d) _ (λ (start : ℤ). behind IsVolume (field Member.TimeEnd time_at d) _ (λ (end : ℤ). makes start end))))
