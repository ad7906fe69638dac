-- Where boxes stand by identifier: in each of their cells, or among the wide ones. This project's own.
use Rattle.std.specs.Prelude.{◌≡◌, ℕ, ℤ, nat_eq, Option, Some, None, if◌then◌else◌}
use Rattle.std.specs.BTreeMap.{BTreeMap, get, IsOrdered}
use Rattle.std.specs.Ordering.{nat_cmp}
use Rattle.uss_vol4.specs.declared.Box4.{Box4}
use Rattle.uss_index.specs.declared.slot.Slot.{Slot}
use Rattle.uss_index.specs.SlotOrder.{slot_cmp}
use Rattle.uss_index.specs.Cells.{touches, is_wide}

-- what stands in a cell of an identifier: its box, where it has one that isn't wide and touches the cell
abbrev pub in_cell : Option Box4 → ℤ → ℤ → Option Box4
in_cell None x y = None
in_cell (Some b) x y = if is_wide b then None else (if touches b x y then Some b else None)

-- what stands among the wide boxes
abbrev pub among_wide : Option Box4 → Option Box4
among_wide None = None
among_wide (Some b) = if is_wide b then Some b else None

-- what stands under the identifier is this box, or nothing
pub record StandsAt (id : ℕ) (w : Option Box4) (slots : BTreeMap Slot Box4) (wide : BTreeMap ℕ Box4) : Type 0 where
  pub in_cells : (s : Slot) → s.id ≡ id → get slot_cmp slots s ≡ in_cell w s.x s.y
  pub in_wide : get nat_cmp wide id ≡ among_wide w

-- under this identifier it is this box, or nothing, from now on, and under each other one what it was
pub record IsPut (id : ℕ) (w : Option Box4) (slots slots' : BTreeMap Slot Box4) (wide wide' : BTreeMap ℕ Box4) : Type 0 where
  pub in_cells : (s : Slot) → get slot_cmp slots' s ≡ (if nat_eq s.id id then in_cell w s.x s.y else get slot_cmp slots s)
  pub in_wide : (k : ℕ) → get nat_cmp wide' k ≡ (if nat_eq k id then among_wide w else get nat_cmp wide k)

-- nothing changed
pub record AreUnchanged (slots slots' : BTreeMap Slot Box4) (wide wide' : BTreeMap ℕ Box4) : Type 0 where
  pub in_cells : (s : Slot) → get slot_cmp slots' s ≡ get slot_cmp slots s
  pub in_wide : (k : ℕ) → get nat_cmp wide' k ≡ get nat_cmp wide k

-- each box stands where it belongs, and nothing else does
pub record IsGrid (boxes : BTreeMap ℕ Box4) (slots : BTreeMap Slot Box4) (wide : BTreeMap ℕ Box4) : Type 0 where
  pub stands : (id : ℕ) → StandsAt id (get nat_cmp boxes id) slots wide
  pub ordered : IsOrdered nat_cmp boxes
