-- Tests of the ranges of a volume's places, altitudes and instants, for readers. This project's own.
use Rattle.std.specs.Prelude.{ℤ, neg_ℤ, Bool, int_le, ◌&&◌}
use Rattle.uss_shape.specs.Limits.{furthest_longitude, furthest_latitude}
use Rattle.uss_shape.specs.declared.Place.{Place}
use Rattle.uss_vol4.specs.Volume.{lowest, highest, earliest, latest}

-- a place on the earth
abbrev pub is_in_plane : Place → Bool
is_in_plane p = int_le (neg_ℤ furthest_longitude) p.x && int_le p.x furthest_longitude && int_le (neg_ℤ furthest_latitude) p.y && int_le p.y furthest_latitude

-- 1 km below to 100 km above the datum
abbrev pub is_altitude : ℤ → Bool
is_altitude z = int_le lowest z && int_le z highest

-- 2000-01-01 to 2200-01-01
abbrev pub is_instant : ℤ → Bool
is_instant z = int_le earliest z && int_le z latest
