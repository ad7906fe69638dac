-- Where the first entry with each mark stands. This project's own.
use Rattle.std.specs.Prelude.{ℕ, ◌<◌, ◌≡◌, Bool, List, length, find, slice_get, Option, Some, None, is_some}
use Rattle.std.specs.BTreeMap.{BTreeMap, get}
use Rattle.uss_event.specs.declared.entries.Entry.{Entry}
use Rattle.uss_book_index.specs.declared.marks.Mark.{Mark}
use Rattle.uss_book_index.specs.Marks.{has_mark}
use Rattle.uss_book_index.specs.MarkOrder.{mark_cmp}

-- what a map has for a mark is the place of this entry, if there is one; there may be room for a place
abbrev pub IsAt : List Entry → Option (Option ℕ) → Option Entry → Type 0
IsAt es (Some (Some n)) o = (slice_get es n ≡ o) × (n < length es)
IsAt es (Some None) o = o ≡ None
IsAt es None o = o ≡ None

-- the map has the place of the first entry with each mark
abbrev pub AreFirsts : BTreeMap Mark (Option ℕ) → List Entry → Type 0
AreFirsts places es = (m : Mark) → IsAt es (get mark_cmp places m) (find (has_mark m) es)

-- the map has room for the mark's place
abbrev pub has_place : BTreeMap Mark (Option ℕ) → Mark → Bool
has_place places m = is_some (get mark_cmp places m)
