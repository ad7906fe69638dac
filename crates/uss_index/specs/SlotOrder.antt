-- The order of slots in a map: by column, then by row, then by identifier. This project's own.
use Rattle.std.specs.declared.cmp.Ordering.{Ordering}
use Rattle.uss_index.specs.declared.slot.Slot.{Slot}
use Rattle.uss_index.specs.contracts.slot.SlotOrd.TheImpl as slot_ord

abbrev pub slot_cmp : Slot → Slot → Ordering
slot_cmp = (slot_ord.ghosts).cmp
