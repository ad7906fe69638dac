-- What is true of each book. This project's own.
use Rattle.std.specs.Prelude.{◌≡◌, ℕ, List, Option, None, IfSome}
use Rattle.uss_event.specs.declared.entries.Entry.{Entry}
use Rattle.uss_journal.specs.Journal.{JournalView, WithOrWithout}
use Rattle.uss_law_book.specs.Legal.{MayFollow, IsLegal}
use Rattle.uss_book.specs.Book.{records_of, BookWithOrWithout}

-- A book is legal, an entry that was tried may follow, and its journal has the records of its entries. While that isn't spent, no entry was
-- tried. Whatever a crash leaves of an honest disk, or may leave while its journal is mounted again, stands for the entries, or for
-- these with the one that was tried.
pub record IsWhole {D : Type 0} (may_leave : D → List ℕ → Type 0) (is_honest : D → Type 0) (journal : JournalView D) (entries : List Entry) (tried : Option Entry) : Type 0 where
  pub legal : IsLegal entries
  pub records : journal.records ≡ records_of entries
  pub untried : journal.spent ≡ None → tried ≡ None
  pub follows : IfSome tried (MayFollow entries)
  pub left : is_honest journal.disk → (image : List ℕ) → may_leave journal.disk image → BookWithOrWithout entries tried image
  pub agrees : is_honest journal.disk → (image : List ℕ) → WithOrWithout journal.records journal.tried image → BookWithOrWithout entries tried image
