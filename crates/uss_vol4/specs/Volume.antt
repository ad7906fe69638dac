-- Volumes in four dimensions, what lies in them, and when they share a point.
-- A volume is the Volume4D of the OpenAPI annex of ASTM F3548-21 with one outline, a closed range of altitude in mm and a closed
-- range of time in ns since 1970-01-01T00:00:00Z. That its borders belong to it, and the limits, are this project's own.
use Rattle.std.specs.Prelude.{ℕ, ◌<◌, ℤ, pos, neg_ℤ, ◌≤ℤ◌, ◌<ℤ◌, List, length, slice_index_or, Any}
use Rattle.uss_shape.specs.declared.Place.{Place}
use Rattle.uss_shape.specs.Plane.{HoldsPoint}
use Rattle.uss_shape.specs.Shape.{IsOutline}

-- a volume as the vertices of its outline with its closed ranges
pub record Volume4D : Type 0 where
  pub outline : List Place
  pub low : ℤ
  pub high : ℤ
  pub start : ℤ
  pub end : ℤ

-- c is in the closed range from a to b
abbrev pub InRange : ℤ → ℤ → ℤ → Type 0
InRange a b c = (a ≤ℤ c) × (c ≤ℤ b)

-- the closed ranges from a to b and from c to d, each in order, have a number in common
abbrev pub Overlap : ℤ → ℤ → ℤ → ℤ → Type 0
Overlap a b c d = (a ≤ℤ d) × (c ≤ℤ b)

-- 1 km below to 100 km above the datum, in mm
abbrev pub lowest : ℤ
lowest = neg_ℤ (pos 1000000)

abbrev pub highest : ℤ
highest = pos 100000000

abbrev pub InAltitude : ℤ → Type 0
InAltitude c = InRange lowest highest c

-- 2000-01-01 to 2200-01-01, in ns since 1970
abbrev pub earliest : ℤ
earliest = pos 946684800000000000

abbrev pub latest : ℤ
latest = pos 7258118400000000000

abbrev pub InTime : ℤ → Type 0
InTime c = InRange earliest latest c

-- a volume as it can be made: an outline, and ranges that are in order and within the limits
pub record IsVolume (v : Volume4D) : Type 0 where
  pub outline : IsOutline v.outline
  pub altitudes : v.low ≤ℤ v.high
  pub times : v.start ≤ℤ v.end
  pub low : InAltitude v.low
  pub high : InAltitude v.high
  pub start : InTime v.start
  pub end : InTime v.end

-- the point (p.x / d, p.y / d) at the altitude and the moment lies in the volume
pub record Holds (s : Volume4D) (p : Place) (d altitude moment : ℤ) : Type 0 where
  pub place : HoldsPoint s.outline p d
  pub height : InRange s.low s.high altitude
  pub time : InRange s.start s.end moment

-- some point lies in both
pub record Shares (a b : Volume4D) : Type 0 where
  pub point : Place
  pub grid : ℤ
  pub altitude : ℤ
  pub moment : ℤ
  pub positive : pos 0 <ℤ grid
  pub in_first : Holds a point grid altitude moment
  pub in_second : Holds b point grid altitude moment

-- some volume of one list shares with some volume of the other
abbrev pub ListsShare : List Volume4D → List Volume4D → Type 0
ListsShare a b = Any (λ v. Any (Shares v) b) a

-- the volume shares with none of the list
pub record NoneSharedWith (v : Volume4D) (list : List Volume4D) : Type 0 where
  pub apart : (l : ℕ) (y : Volume4D) → l < length list → Shares v (slice_index_or list l y) → ⊥

-- j is the first place of the list whose volume shares with v
pub record IsFirstShared (v : Volume4D) (list : List Volume4D) (j : ℕ) : Type 0 where
  pub within : j < length list
  pub shared : (y : Volume4D) → Shares v (slice_index_or list j y)
  pub before : (l : ℕ) (y : Volume4D) → l < j → Shares v (slice_index_or list l y) → ⊥

-- i and j are the least pair of places that shares, first by i
pub record IsLeastShared (a b : List Volume4D) (i j : ℕ) : Type 0 where
  pub within : i < length a
  pub earlier : (k : ℕ) (x : Volume4D) → k < i → NoneSharedWith (slice_index_or a k x) b
  pub first : (x : Volume4D) → IsFirstShared (slice_index_or a i x) b j

-- no pair shares
abbrev pub NoneShared : List Volume4D → List Volume4D → Type 0
NoneShared a b = (k : ℕ) (x : Volume4D) → k < length a → NoneSharedWith (slice_index_or a k x) b
