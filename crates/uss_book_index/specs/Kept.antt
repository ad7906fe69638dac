-- How the entries of a book are kept. This project's own.
use Rattle.std.specs.Prelude.{ℕ, ◌≡◌, ◌<◌, List, Option, Some, None}
use Rattle.uss_event.specs.declared.entries.Entry.{Entry}
use Rattle.uss_law_book.specs.Coding.{journal_length}
use Rattle.uss_law_book.specs.Reserve.{need, settled}
use Rattle.uss_law_book.specs.Legal.{IsLegal}
use Rattle.uss_book_index.specs.declared.index.Index.{Index}
use Rattle.uss_book_index.specs.declared.room.Room.{Room}
use Rattle.uss_book_index.specs.Index.{IsIndex, HasRoom}

-- room is there where it was made
abbrev pub IsReady : (len capacity : ℕ) → Index → Option Room → Type 0
IsReady len capacity kept None = Unit {0}
IsReady len capacity kept (Some room) = (len < capacity) × HasRoom kept room

-- the entries are a legal book, and the index and the counts are theirs
pub record IsKept (es : List Entry) (len capacity : ℕ) (kept : Index) (ready : Option Room) (needed settled_bytes : ℕ) : Type 0 where
  pub legal : IsLegal es
  pub index : IsIndex kept es
  pub room : IsReady len capacity kept ready
  pub needed_is : needed ≡ need es
  pub settled_is : settled_bytes ≡ journal_length (settled es)
