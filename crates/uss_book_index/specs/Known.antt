-- What contracts see of the entries of a book. This project's own.
use Rattle.std.specs.Prelude.{◌≡◌, List, Option, Some}
use Rattle.uss_event.specs.declared.entries.Entry.{Entry}
use Rattle.uss_book_index.specs.declared.room.Room.{Room}
use Rattle.uss_book_index.specs.Index.{room_for}

pub record Known : Type 0 where
  -- the entries, the oldest first
  pub entries : List Entry
  -- for what room was made
  pub ready : Option Room

-- there is room for the entry
abbrev pub IsReadyFor : Known → Entry → Type 0
IsReadyFor known e = known.ready ≡ Some (room_for known.entries e)
