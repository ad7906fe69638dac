-- When an entry may follow a legal book, part by part. This project's own.
use Rattle.std.specs.Prelude.{◌+◌, ◌≤◌, ◌≡◌, List, [], ◌∷◌, ◌++◌}
use Rattle.uss_event.specs.declared.entries.Entry.{Entry}
use Rattle.uss_event.specs.declared.entries.Entry.TheVariants.{Opened}
use Rattle.uss_law_book.specs.Coding.{HasCoding, record_length}
use Rattle.uss_law_book.specs.Reserve.{journal_limit, job_room, reserved, ReserveCovers}
use Rattle.uss_law_book.specs.Legal.{IsDue, is_owner, is_new, IsLegal}

-- a job is opened only where there is room for its record and for what is kept free for it. No other entry needs room that isn't
-- kept free for it
abbrev pub IsSpared : List Entry → Entry → Type 0
IsSpared book (Opened o) = reserved book + job_room + record_length (Opened o) ≤ journal_limit
IsSpared book _ = Unit {0}

-- the entry is in its place, has its coding, is due, and has its room
pub record IsNext (book : List Entry) (e : Entry) : Type 0 where
  -- the first entry says whose book it is, and no other does
  pub first : is_owner e ≡ is_new book
  pub coding : HasCoding e
  pub due : IsDue book e
  pub spared : IsSpared book e

-- such an entry leaves a legal book with room for all that is open
abbrev pub LegalBooksKeepRoom : Type 0
LegalBooksKeepRoom = (book : List Entry) (e : Entry) → IsLegal book → IsNext book e → ReserveCovers (book ++ e ∷ [])
