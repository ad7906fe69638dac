use Rattle.std.proofs.Common.{◌≡◌, drop}
use Rattle.serde_json.specs.View.{items_view}
use Rattle.uss_wire_base.specs.Reading.{each}
use Rattle.uss_wire_base.proofs.Lists.{with_front}
use Rattle.uss_wire_base.proofs.reading.each.Given as goal

abbrev pub invariant-loop-item : goal.invariant-loop-item
invariant-loop-item g l =
    with_front l.list.items (each (g.R.ReadItem.reads l.reader l.place) (items_view (drop l.item-index l.items))) ≡ each (g.R.ReadItem.reads l.reader l.place) (items_view l.items)
