-- What lies in a box, and when two boxes have a point in common. A box is the `Box4` of uss_vol4: a rectangle, a closed range of altitude
-- in mm and a closed range of time in ns. That its borders belong to it is this project's own, as it is of volumes.
use Rattle.std.specs.Prelude.{ℤ, pos, ◌<ℤ◌, Bool, ◌&&◌}
use Rattle.uss_shape.specs.declared.Place.{Place}
use Rattle.uss_shape.specs.Shape.{InBox}
use Rattle.uss_shape.specs.Overlap.{ranges_touch}
use Rattle.uss_vol4.specs.declared.Box4.{Box4}
use Rattle.uss_vol4.specs.Volume.{InRange}
use Rattle.uss_vol4.specs.Sharing.{ranges_share}

-- the point (p.x / d, p.y / d) at the altitude and the moment lies in the box; the corners of its rectangle may stand in any order
pub record BoxHolds (b : Box4) (p : Place) (d altitude moment : ℤ) : Type 0 where
  pub place : InBox b.rect p d
  pub height : InRange b.low b.high altitude
  pub time : InRange b.start b.end moment

-- some point lies in both
pub record HaveCommonPoint (a b : Box4) : Type 0 where
  pub point : Place
  pub grid : ℤ
  pub altitude : ℤ
  pub moment : ℤ
  pub positive : pos 0 <ℤ grid
  pub in_first : BoxHolds a point grid altitude moment
  pub in_second : BoxHolds b point grid altitude moment

-- the test that computes: the contract of `have_common_point` says that it answers the question above, for every two boxes
unfoldable pub have_common_point : Box4 → Box4 → Bool
have_common_point a b =
    (ranges_touch a.rect.x1 a.rect.x2 b.rect.x1 b.rect.x2 && ranges_touch a.rect.y1 a.rect.y2 b.rect.y1 b.rect.y2) &&
    (ranges_share a.low a.high b.low b.high && ranges_share a.start a.end b.start b.end)
