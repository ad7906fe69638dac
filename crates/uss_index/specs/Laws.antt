-- Laws of cells and boxes, in the words of points.
use Rattle.std.specs.Prelude.{ℤ, ◌↔◌, IsTrue, List}
use Rattle.uss_vol4.specs.declared.Box4.{Box4}
use Rattle.uss_vol4.specs.Volume.{Volume4D, ListsShare}
use Rattle.uss_vol4.specs.Bounding.{IsBoundingBox}
use Rattle.uss_index.specs.Points.{HaveCommonPoint}
use Rattle.uss_index.specs.Cells.{cells_of, touches, have_common_cell, HasPointIn}

-- a box touches exactly the cells in which it has a point
abbrev pub TouchedCellsHavePoints : Type 0
TouchedCellsHavePoints = (b : Box4) (x y : ℤ) → IsTrue (touches b x y) ↔ HasPointIn b x y

-- boxes have a cell in common exactly where both touch some cell
abbrev pub CommonCellsAreTouched : Type 0
CommonCellsAreTouched = (a b : Box4) → IsTrue (have_common_cell (cells_of a) (cells_of b)) ↔ ((x : ℤ) × (y : ℤ) × IsTrue (touches a x y) × IsTrue (touches b x y))

-- where some volume of one list shares with some of another, the bounding boxes of the lists have a point in common
abbrev pub SharingListsHaveBoxesThatMeet : Type 0
SharingListsHaveBoxesThatMeet = (us vs : List Volume4D) (a b : Box4) → IsBoundingBox us a → IsBoundingBox vs b → ListsShare us vs → HaveCommonPoint a b
