-- Tests that compute: whether a volume holds a place, and whether volumes, or lists of them, share a point.
-- The contracts of `Volume4::holds`, `Volume4::shares` and `Volume4::any_shared` say that these tests answer the questions of Volume,
-- `Holds`, `Shares` and `ListsShare`, for every volume.
use Rattle.std.specs.Prelude.{ℤ, Bool, ◌&&◌, int_le, List}
use Rattle.std.specs.List.{list_any}
use Rattle.std.specs.Int.{int_min, int_max}
use Rattle.uss_shape.specs.declared.Place.{Place}
use Rattle.uss_shape.specs.Overlap.{region_holds, outlines_meet}
use Rattle.uss_vol4.specs.Volume.{Volume4D}

-- the closed ranges from a to b and from c to d have a number in common
abbrev pub ranges_share : ℤ → ℤ → ℤ → ℤ → Bool
ranges_share a b c d = int_le (int_max a c) (int_min b d)

-- the whole place at the altitude and the moment lies in the volume
unfoldable pub volume_holds : Volume4D → Place → ℤ → ℤ → Bool
volume_holds v p altitude moment = (int_le v.low altitude && int_le altitude v.high) && ((int_le v.start moment && int_le moment v.end) && region_holds v.outline p)

-- the volumes share a point
unfoldable pub shares : Volume4D → Volume4D → Bool
shares a b = ranges_share a.low a.high b.low b.high && (ranges_share a.start a.end b.start b.end && outlines_meet a.outline b.outline)

-- some volume of one list shares with some volume of the other
unfoldable pub any_shares : List Volume4D → List Volume4D → Bool
any_shares a b = list_any (λ v. list_any (shares v) b) a
