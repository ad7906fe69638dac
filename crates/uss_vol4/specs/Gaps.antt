-- Volumes whose ends are put later by a time gap, and when two volumes are within a gap of each other. This project's own.
use Rattle.std.specs.Prelude.{ℕ, ℤ, pos, ◌+ℤ◌, ◌≤ℤ◌, ◌<ℤ◌}
use Rattle.std.specs.Int.{int_min}
use Rattle.uss_shape.specs.declared.Place.{Place}
use Rattle.uss_vol4.specs.Volume.{Volume4D, Holds, latest}

-- the greatest gap: an hour, in ns
abbrev pub most_gap : ℕ
most_gap = 3600000000000

-- the volume with its end put later by the gap, at most to the greatest instant
abbrev pub later : ℕ → Volume4D → Volume4D
later gap v = record { outline = v.outline; low = v.low; high = v.high; start = v.start; end = int_min (v.end +ℤ pos gap) latest }

-- some place and altitude lie in both, and a moment of the one and a moment of the other differ by at most the gap
pub record AreWithin (gap : ℕ) (a b : Volume4D) : Type 0 where
  pub point : Place
  pub grid : ℤ
  pub altitude : ℤ
  pub first : ℤ
  pub second : ℤ
  pub positive : pos 0 <ℤ grid
  pub in_first : Holds a point grid altitude first
  pub in_second : Holds b point grid altitude second
  pub no_later : first ≤ℤ (second +ℤ pos gap)
  pub no_earlier : second ≤ℤ (first +ℤ pos gap)
