-- Boxes by identifier: what an index of boxes is seen as, which of its boxes a query finds, and at how many it looks.
use Rattle.std.specs.Prelude.{◌≡◌, ℕ, List, Contains, filter, count_by, Option, Some}
use Rattle.std.specs.BTreeMap.{is_at}
use Rattle.std.specs.Map.{lookup, keys_of}
use Rattle.std.specs.Ordering.{nat_cmp}
use Rattle.std.specs.List.Sorted.{IsStrictlyIncreasing, IsStrictlySortedBy}
use Rattle.uss_vol4.specs.declared.Box4.{Box4}
use Rattle.uss_index.specs.Points.{HaveCommonPoint, have_common_point}
use Rattle.uss_index.specs.Cells.{is_looked_at}

-- each identifier with its box
abbrev pub Boxes : Type 0
Boxes = List (ℕ × Box4)

-- the identifiers ascend, so each stands once
abbrev pub AreAscending : Boxes → Type 0
AreAscending boxes = IsStrictlySortedBy nat_cmp (keys_of boxes)

-- the box under an identifier
abbrev pub box_at : Boxes → ℕ → Option Box4
box_at boxes id = lookup (is_at (nat_cmp id)) boxes

-- the identifiers of the boxes that have a point in common with q, in the order of the boxes
unfoldable pub candidates_of : Boxes → Box4 → List ℕ
candidates_of boxes q = keys_of (filter (λ e. have_common_point q e.1) boxes)

-- these identifiers, ascending, are exactly those of the boxes that have a point in common with q
pub record AreCandidates (boxes : Boxes) (q : Box4) (found : List ℕ) : Type 0 where
  pub ascending : IsStrictlyIncreasing found
  pub meet : (id : ℕ) → Contains found id → (b : Box4) × (box_at boxes id ≡ Some b) × HaveCommonPoint q b
  pub all : (id : ℕ) (b : Box4) → box_at boxes id ≡ Some b → HaveCommonPoint q b → Contains found id

-- how many boxes a query with q looks at, each of them once
unfoldable pub looked_at : Boxes → Box4 → ℕ
looked_at boxes q = count_by (λ e. is_looked_at q e.1) boxes
