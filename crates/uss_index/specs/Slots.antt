-- Boxes by cell and identifier, and what a query finds among them. This project's own.
use Rattle.std.specs.Prelude.{◌≡◌, ℕ, ℤ, pos, ◌+ℤ◌, Bool, false, ◌&&◌, int_le, nat_eq, List, map, Option, if◌then◌else◌}
use Rattle.std.specs.Int.{int_max}
use Rattle.std.specs.Ordering.{int_eq}
use Rattle.std.specs.BTreeMap.{BTreeMap, get}
use Rattle.uss_vol4.specs.declared.Box4.{Box4}
use Rattle.uss_index.specs.declared.cells.Cells.{Cells}
use Rattle.uss_index.specs.declared.slot.Slot.{Slot}
use Rattle.uss_index.specs.SlotOrder.{slot_cmp}
use Rattle.uss_index.specs.Cells.{cells_of, has_cell}

-- the slot is of this identifier, in one of these cells
abbrev pub is_slot_of : ℕ → Cells → Slot → Bool
is_slot_of id cells s = nat_eq s.id id && has_cell cells s.x s.y

-- the same in one column
abbrev pub is_slot_in : ℕ → Cells → ℤ → Slot → Bool
is_slot_in id cells x s = nat_eq s.id id && (int_eq s.x x && (int_le cells.bottom s.y && int_le s.y cells.top))

-- the slots that pass have w, and the others what they had
pub record AreSet (test : Slot → Bool) (w : Option Box4) (old new : BTreeMap Slot Box4) : Type 0 where
  pub at : (s : Slot) → get slot_cmp new s ≡ (if test s then w else get slot_cmp old s)

-- the slots that don't pass have what they had
pub record AreKept (test : Slot → Bool) (old new : BTreeMap Slot Box4) : Type 0 where
  pub at : (s : Slot) → test s ≡ false → get slot_cmp new s ≡ get slot_cmp old s

-- the slot is that of the first cell, least column and then least row, that the box has in common with these cells
abbrev pub is_first_common : Cells → Slot × Box4 → Bool
is_first_common c e = int_eq e.0.x (int_max c.left (cells_of e.1).left) && int_eq e.0.y (int_max c.bottom (cells_of e.1).bottom)

-- the slot stands in this column, in one of the rows of these cells
abbrev pub is_in_column : Cells → ℤ → Slot → Bool
is_in_column c x s = int_eq s.x x && (int_le c.bottom s.y && int_le s.y c.top)

-- what a query that looks at these cells counts in this column
abbrev pub is_counted_in : Cells → ℤ → Slot × Box4 → Bool
is_counted_in c x e = is_in_column c x e.0 && is_first_common c e

-- what it counts in all
abbrev pub is_counted : Cells → Slot × Box4 → Bool
is_counted c e = has_cell c e.0.x e.0.y && is_first_common c e

-- the slots between which the rows of these cells stand in this column
abbrev pub first_slot : Cells → ℤ → Slot
first_slot c x = record { x = x; y = c.bottom; id = 0 }

abbrev pub last_slot : Cells → ℤ → Slot
last_slot c x = record { x = x; y = c.top +ℤ pos 1; id = 0 }

-- the identifiers
abbrev pub ids_of : List (Slot × Box4) → List ℕ
ids_of es = map (λ e. e.0.id) es
