-- The area round all extents of all alternatives, as it is found. This project's own.
use Rattle.std.specs.Prelude.{◌≡◌, ◌<◌, true, List, [], length, All, Option, Some, None}
use Rattle.uss_vol4.specs.declared.Box4.{Box4}
use Rattle.uss_vol4.specs.Volume.{Volume4D, IsVolume}
use Rattle.uss_vol4.specs.Bounding.{box_of, joined, bounding_box}
use Rattle.uss_event.specs.declared.asks.Wish.{Wish}
use Rattle.uss_event.specs.declared.details.Proposal.{Proposal}
use Rattle.uss_law_book.specs.Contents.{is_put}
use Rattle.uss_law_duty.specs.Sends.{all_extents}
use Rattle.uss_law_supplier.specs.declared.duties.Awaited.{Awaited}
use Rattle.uss_law_supplier.specs.declared.duties.Awaited.TheVariants as Waits

-- the least box round this one, if there is one, and a volume
abbrev pub with_volume : Option Box4 → Volume4D → Option Box4
with_volume None v = Some (box_of v)
with_volume (Some b) v = Some (joined b (box_of v))

abbrev pub box_or_zeros : Option Box4 → Box4
box_or_zeros None = bounding_box []
box_or_zeros (Some b) = b

-- there is a volume to look round
pub record HasExtents (proposals : List Proposal) : Type 0 where
  pub some : 0 < length (all_extents proposals)
  pub volumes : All IsVolume (all_extents proposals)

-- a job that asks for its ticket, or for what is there, has alternatives
abbrev pub HasArea : Awaited → Wish → Type 0
HasArea Waits.TicketPut wish = is_put wish ≡ true
HasArea Waits.Query wish = is_put wish ≡ true
HasArea _ wish = Unit {0}
