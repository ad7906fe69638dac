-- The laws of cells and boxes.
use Rattle.std.proofs.Common.{◌≡◌, inl, ℕ, zero, suc, ◌<◌, arith, ℤ, pos, ◌+ℤ◌, ◌*ℤ◌, List, [], ◌∷◌, ◌++◌, map, length, get_or}
use Rattle.std.specs.Prelude.{◌≤ℤ◌, ◌<ℤ◌}
use Rattle.std.specs.Int.{int_min, int_max}
use Rattle.std.specs.List.{flat_map, AllByRecursion}
use Rattle.std.proofs.lemmas.Int.{ints, clamps}
use Rattle.std.proofs.lemmas.List.Elements.{recursion_from_All}
use Rattle.uss_shape.specs.declared.Place.{Place}
use Rattle.uss_shape.specs.Plane.{Between, fine}
use Rattle.uss_shape.proofs.Ring.{ring, lin, mul_le, lt_cancel, mul_comm}
use Rattle.uss_shape.proofs.Within.{Inside, AllPlaces, region_inside}
use Rattle.uss_shape.proofs.Forms.{in_r}
use Rattle.uss_vol4.specs.declared.Box4.{Box4}
use Rattle.uss_vol4.specs.Volume.{Volume4D, Holds}
use Rattle.uss_vol4.specs.Bounding.{IsBoundingBox, vertices_of}
use Rattle.uss_index.specs.Points.{BoxHolds}
use Rattle.uss_index.specs.Cells.{cell_of, cells_of}
use Rattle.uss_index.specs.Laws.{TouchedCellsHavePoints, CommonCellsAreTouched, SharingListsHaveBoxesThatMeet}
use Rattle.uss_index.proofs.Floors.{cell_below, cell_above}
use Rattle.uss_index.proofs.Meeting.{least_below, greatest_above, coarser, between_ends}
use Rattle.uss_index.proofs.Rows.{has_cell_tells}
use Rattle.uss_index.proofs.Found.{common_of_cell, first_in_first, first_in_second}

pub common_cells : CommonCellsAreTouched
common_cells a b = (
  λ h. (int_max (cells_of a).left (cells_of b).left, int_max (cells_of a).bottom (cells_of b).bottom, first_in_first (cells_of a) (cells_of b) h, first_in_second (cells_of a) (cells_of b) h),
  λ s. common_of_cell (cells_of a) (cells_of b) s.0 s.1 s.2 s.3,
)

-- ---- cells and points, along one coordinate
-- the least number that is in the range and in the cell
least_of_cell : (a b x : ℤ) → ℤ
least_of_cell a b x = int_max (int_min a b) (pos 1000000 *ℤ x)

module _ (a b x : ℤ) (from : cell_of (int_min a b) ≤ℤ x) (to : x ≤ℤ cell_of (int_max a b)) where
  in_range : Between (pos 1 *ℤ a) (pos 1 *ℤ b) (least_of_cell a b x)
  unfolding least_of_cell
  in_range =
      let h = cell_below (int_max a b) in
      between_ends a b (int_max (int_min a b) (pos 1000000 *ℤ x)) (omega (arith, ints, clamps)) (omega (arith, ints, clamps))

  after_border : (pos 1 *ℤ (pos 1000000 *ℤ x)) ≤ℤ least_of_cell a b x
  unfolding least_of_cell
  after_border = let e : pos 1 *ℤ (pos 1000000 *ℤ x) ≡ pos 1000000 *ℤ x = one (pos 1000000 *ℤ x) in omega (arith, ints, clamps)
    where
      one : (z : ℤ) → pos 1 *ℤ z ≡ z
      one z = simp ring (omega lin)

  before_next : least_of_cell a b x <ℤ (pos 1 *ℤ (pos 1000000 *ℤ (x +ℤ pos 1)))
  unfolding least_of_cell
  before_next =
      let h = cell_above (int_min a b) in
      let e : pos 1 *ℤ (pos 1000000 *ℤ (x +ℤ pos 1)) ≡ pos 1000000 *ℤ (x +ℤ pos 1) = one (pos 1000000 *ℤ (x +ℤ pos 1)) in
      omega (arith, ints, clamps)
    where
      one : (z : ℤ) → pos 1 *ℤ z ≡ z
      one z = simp ring (omega lin)

finer_less : (d a b c : ℤ) → pos 0 <ℤ d → (d *ℤ a) ≤ℤ c → c <ℤ (d *ℤ b) → a <ℤ b
finer_less d a b c h i j =
    let e : d *ℤ a ≡ a *ℤ d = mul_comm d a in
    let f : d *ℤ b ≡ b *ℤ d = mul_comm d b in
    lt_cancel a d b (omega (arith, ints)) h

finer_most : (d a b c : ℤ) → pos 0 <ℤ d → (d *ℤ a) ≤ℤ c → c ≤ℤ (d *ℤ b) → a ≤ℤ b
finer_most d a b c h i j = coarser d a b h (omega (arith, ints))

from_point : (d a b x c : ℤ) → pos 0 <ℤ d → Between (d *ℤ a) (d *ℤ b) c → (d *ℤ (pos 1000000 *ℤ x)) ≤ℤ c → c <ℤ (d *ℤ (pos 1000000 *ℤ (x +ℤ pos 1))) → (cell_of (int_min a b) ≤ℤ x) × (x ≤ℤ cell_of (int_max a b))
from_point d a b x c h i j k =
    let l : int_min a b <ℤ (pos 1000000 *ℤ (x +ℤ pos 1)) = finer_less d (int_min a b) (pos 1000000 *ℤ (x +ℤ pos 1)) c h (least_below d a b c h i) k in
    let m : (pos 1000000 *ℤ x) ≤ℤ int_max a b = finer_most d (pos 1000000 *ℤ x) (int_max a b) c h j (greatest_above d a b c h i) in
    let n = cell_below (int_min a b) in
    let o = cell_above (int_max a b) in
    (omega (arith, ints), omega (arith, ints))

pub touched_cells : TouchedCellsHavePoints
unfolding cells_of
touched_cells b x y =
    let t = has_cell_tells (cells_of b) x y in (
      λ h. let r = t.0 h in
          record {
            point = record { x = least_of_cell b.rect.x1 b.rect.x2 x; y = least_of_cell b.rect.y1 b.rect.y2 y };
            grid = pos 1;
            positive = omega (arith, ints);
            in_box = (in_range b.rect.x1 b.rect.x2 x r.0.0 r.0.1, in_range b.rect.y1 b.rect.y2 y r.1.0 r.1.1);
            in_cell = record {
              left = after_border b.rect.x1 b.rect.x2 x r.0.0 r.0.1;
              right = before_next b.rect.x1 b.rect.x2 x r.0.0 r.0.1;
              bottom = after_border b.rect.y1 b.rect.y2 y r.1.0 r.1.1;
              top = before_next b.rect.y1 b.rect.y2 y r.1.0 r.1.1;
            };
          },
      λ p. t.1 (
        from_point p.grid b.rect.x1 b.rect.x2 x p.point.x p.positive p.in_box.0 p.in_cell.left p.in_cell.right,
        from_point p.grid b.rect.y1 b.rect.y2 y p.point.y p.positive p.in_box.1 p.in_cell.bottom p.in_cell.top,
      ),
    )

-- ---- volumes and their bounding box
left_part : {A : Type 0} (P : A → Type 0) (xs ys : List A) → AllByRecursion P (xs ++ ys) → AllByRecursion P xs
left_part P [] ys a = tt
left_part P (x ∷ xs) ys a = (a.0, left_part P xs ys a.1)

right_part : {A : Type 0} (P : A → Type 0) (xs ys : List A) → AllByRecursion P (xs ++ ys) → AllByRecursion P ys
right_part P [] ys a = a
right_part P (x ∷ xs) ys a = right_part P xs ys a.1

one_part : {A B : Type 0} (P : A → Type 0) (g : B → List A) (xs : List B) (k : ℕ) (d : B) → AllByRecursion P (flat_map g xs) → k < length xs → AllByRecursion P (g (get_or xs k d))
one_part P g [] k d a l = absurd (omega arith)
one_part P g (x ∷ xs) zero d a l = left_part P (g x) (flat_map g xs) a
one_part P g (x ∷ xs) (suc k) d a l = one_part P g xs k d (right_part P (g x) (flat_map g xs) a) (omega arith)

stretched : (d m a : ℤ) → pos 0 <ℤ d → m ≤ℤ a → (d *ℤ m) ≤ℤ (d *ℤ a)
stretched d m a h l =
    let g : (m *ℤ d) ≤ℤ (a *ℤ d) = mul_le m d a l (omega (arith, ints)) in
    let e : d *ℤ m ≡ m *ℤ d = mul_comm d m in
    let f : d *ℤ a ≡ a *ℤ d = mul_comm d a in
    omega (arith, ints)

all_inside : (d x1 y1 x2 y2 : ℤ) (vs : List Place) → pos 0 <ℤ d → AllByRecursion (λ v. x1 ≤ℤ v.x) vs → AllByRecursion (λ v. y1 ≤ℤ v.y) vs → AllByRecursion (λ v. v.x ≤ℤ x2) vs → AllByRecursion (λ v. v.y ≤ℤ y2) vs → AllPlaces (Inside (d *ℤ x1) (d *ℤ y1) (d *ℤ x2) (d *ℤ y2)) (map (fine d) vs)
all_inside d x1 y1 x2 y2 [] h a b c e = tt
all_inside d x1 y1 x2 y2 (v ∷ vs) h a b c e = (
  record { left = stretched d x1 v.x h a.0; right = stretched d v.x x2 h c.0; low = stretched d y1 v.y h b.0; high = stretched d v.y y2 h e.0 },
  all_inside d x1 y1 x2 y2 vs h a.1 b.1 c.1 e.1,
)

holds_in_box : (vs : List Volume4D) (b : Box4) (k : ℕ) (v : Volume4D) (p : Place) (d altitude moment : ℤ) → IsBoundingBox vs b → k < length vs → get_or vs k v ≡ v → pos 0 <ℤ d → Holds v p d altitude moment → BoxHolds b p d altitude moment
holds_in_box vs b k v p d altitude moment bounds l is h holds =
    let r = bounds.rect in
    let g : Volume4D → List Place = λ v. v.outline in
    let a : AllByRecursion (λ (v : Place). b.rect.x1 ≤ℤ v.x) v.outline = rw is at (one_part (λ (v : Place). b.rect.x1 ≤ℤ v.x) g vs k v (recursion_from_All (λ (v : Place). b.rect.x1 ≤ℤ v.x) (vertices_of vs) r.left.bound) l) in
    let c : AllByRecursion (λ (v : Place). b.rect.y1 ≤ℤ v.y) v.outline = rw is at (one_part (λ (v : Place). b.rect.y1 ≤ℤ v.y) g vs k v (recursion_from_All (λ (v : Place). b.rect.y1 ≤ℤ v.y) (vertices_of vs) r.low.bound) l) in
    let e : AllByRecursion (λ (v : Place). v.x ≤ℤ b.rect.x2) v.outline = rw is at (one_part (λ (v : Place). v.x ≤ℤ b.rect.x2) g vs k v (recursion_from_All (λ (v : Place). v.x ≤ℤ b.rect.x2) (vertices_of vs) r.right.bound) l) in
    let f : AllByRecursion (λ (v : Place). v.y ≤ℤ b.rect.y2) v.outline = rw is at (one_part (λ (v : Place). v.y ≤ℤ b.rect.y2) g vs k v (recursion_from_All (λ (v : Place). v.y ≤ℤ b.rect.y2) (vertices_of vs) r.high.bound) l) in
    let i = region_inside (d *ℤ b.rect.x1) (d *ℤ b.rect.y1) (d *ℤ b.rect.x2) (d *ℤ b.rect.y2) (map (fine d) v.outline) p (all_inside d b.rect.x1 b.rect.y1 b.rect.x2 b.rect.y2 v.outline h a c e f) (in_r (map (fine d) v.outline) p holds.place) in
    let low : b.low ≤ℤ v.low = rw is at (bounds.low.bound k v l) in
    let high : v.high ≤ℤ b.high = rw is at (bounds.high.bound k v l) in
    let start : b.start ≤ℤ v.start = rw is at (bounds.start.bound k v l) in
    let end : v.end ≤ℤ b.end = rw is at (bounds.end.bound k v l) in
    let z = holds.height in
    let t = holds.time in
    record {
      place = (inl (i.left, i.right), inl (i.low, i.high));
      height = (omega (arith, ints), omega (arith, ints));
      time = (omega (arith, ints), omega (arith, ints));
    }

pub sharing_lists : SharingListsHaveBoxesThatMeet
sharing_lists us vs a b p q s =
    let shares = s.4.4 in
    record {
      point = shares.point;
      grid = shares.grid;
      altitude = shares.altitude;
      moment = shares.moment;
      positive = shares.positive;
      in_first = holds_in_box us a s.0 s.1 shares.point shares.grid shares.altitude shares.moment p s.2 s.3 shares.positive shares.in_first;
      in_second = holds_in_box vs b s.4.0 s.4.1 shares.point shares.grid shares.altitude shares.moment q s.4.2 s.4.3 shares.positive shares.in_second;
    }
