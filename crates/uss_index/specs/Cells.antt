-- The cells of the plane, the cells that a box touches, and when a box is wide. All of it is this project's own.
use Rattle.std.specs.Prelude.{ℕ, ◌+◌, ◌*◌, ℤ, pos, neg_ℤ, ◌+ℤ◌, ◌-ℤ◌, ◌*ℤ◌, ◌≤ℤ◌, ◌<ℤ◌, Bool, ◌&&◌, ◌||◌, nat_lt, int_le, unsigned_abs}
use Rattle.std.specs.Int.{int_min, int_max, int_div_euclid}
use Rattle.uss_shape.specs.declared.Place.{Place}
use Rattle.uss_shape.specs.Shape.{InBox}
use Rattle.uss_vol4.specs.declared.Box4.{Box4}
use Rattle.uss_vol4.specs.Sharing.{ranges_share}
use Rattle.uss_index.specs.declared.cells.Cells.{Cells}

-- the side of a cell in x and in y: 0.1 degrees, in units of 1e-7 degrees
abbrev pub cell_side : ℤ
cell_side = pos 1000000

-- the cells that a box may touch without being wide
abbrev pub most_cells : ℕ
most_cells = 64

-- the number of a cell, by column or by row: the coordinate divided by the side, rounded down
unfoldable pub cell_of : ℤ → ℤ
cell_of x = int_div_euclid x cell_side

-- the cells of a box: the columns and the rows from that of its least coordinate to that of its greatest
unfoldable pub cells_of : Box4 → Cells
cells_of b = record {
  left = cell_of (int_min b.rect.x1 b.rect.x2);
  right = cell_of (int_max b.rect.x1 b.rect.x2);
  bottom = cell_of (int_min b.rect.y1 b.rect.y2);
  top = cell_of (int_max b.rect.y1 b.rect.y2);
}

-- columns and rows that are in order, as those of a box are; so far out, no sum of two of their numbers is out of range
pub record AreInOrder (c : Cells) : Type 0 where
  pub columns : c.left ≤ℤ c.right
  pub rows : c.bottom ≤ℤ c.top
  pub left : neg_ℤ (pos 10000000000000) ≤ℤ c.left
  pub right : c.right ≤ℤ pos 10000000000000
  pub bottom : neg_ℤ (pos 10000000000000) ≤ℤ c.bottom
  pub top : c.top ≤ℤ pos 10000000000000

-- the cell in this column and this row is among them
abbrev pub has_cell : Cells → ℤ → ℤ → Bool
has_cell c x y = (int_le c.left x && int_le x c.right) && (int_le c.bottom y && int_le y c.top)

-- the box touches the cell
abbrev pub touches : Box4 → ℤ → ℤ → Bool
touches b x y = has_cell (cells_of b) x y

-- how many cells these are: the columns times the rows
abbrev pub number_of_cells : Cells → ℕ
number_of_cells c = (unsigned_abs (c.right -ℤ c.left) + 1) * (unsigned_abs (c.top -ℤ c.bottom) + 1)

-- these are more than a box may touch that isn't wide
unfoldable pub are_many : Cells → Bool
are_many c = nat_lt most_cells (number_of_cells c)

-- the box touches more cells than that
abbrev pub is_wide : Box4 → Bool
is_wide b = are_many (cells_of b)

-- some cell is among both
abbrev pub have_common_cell : Cells → Cells → Bool
have_common_cell c d = ranges_share c.left c.right d.left d.right && ranges_share c.bottom c.top d.bottom d.top

-- a query with the box q looks at the box b: at every box where q is wide, and else at the wide boxes and those in its cells
unfoldable pub is_looked_at : Box4 → Box4 → Bool
is_looked_at q b = is_wide q || (is_wide b || have_common_cell (cells_of q) (cells_of b))

-- the point (p.x / d, p.y / d) lies in the cell: its lower borders belong to it
pub record InCell (x y : ℤ) (p : Place) (d : ℤ) : Type 0 where
  pub left : (d *ℤ (cell_side *ℤ x)) ≤ℤ p.x
  pub right : p.x <ℤ (d *ℤ (cell_side *ℤ (x +ℤ pos 1)))
  pub bottom : (d *ℤ (cell_side *ℤ y)) ≤ℤ p.y
  pub top : p.y <ℤ (d *ℤ (cell_side *ℤ (y +ℤ pos 1)))

-- some point of the box's rectangle lies in the cell
pub record HasPointIn (b : Box4) (x y : ℤ) : Type 0 where
  pub point : Place
  pub grid : ℤ
  pub positive : pos 0 <ℤ grid
  pub in_box : InBox b.rect point grid
  pub in_cell : InCell x y point grid
