-- Where each attempt of a job stands, by its number among the job's. This project's own.
use Rattle.std.specs.Prelude.{ℕ, ◌≡◌, Bool, true, List, length, slice_get, Option, Some, None, is_some}
use Rattle.std.specs.BTreeMap.{BTreeMap, get}
use Rattle.uss_event.specs.declared.entries.Entry.{Entry}
use Rattle.uss_event.specs.declared.entries.Entry.TheVariants.{Pending}
use Rattle.uss_event.specs.declared.entries.Trial.{Trial}
use Rattle.uss_law_book.specs.Contents.{trials_of}
use Rattle.uss_book_rules.specs.Speaks.{trial_in}
use Rattle.uss_book_index.specs.declared.ordinal.Ordinal.{Ordinal}
use Rattle.uss_book_index.specs.OrdinalOrder.{ordinal_cmp}
use Rattle.uss_book_index.specs.Flights.{IsIn}

-- there is room for an attempt's place, whether or not the attempt was made
abbrev pub place_in : Option (Option ℕ) → Option ℕ
place_in None = None
place_in (Some place) = place

-- the place is that of the attempt, and there is one exactly where there is an attempt
pub record IsPlaceOf (es : List Entry) (place : Option ℕ) (attempt : Option Trial) : Type 0 where
  pub says : IsIn es trial_in place attempt
  pub found : is_some place ≡ is_some attempt

-- the map has the place of each attempt of each job
abbrev pub AreOrdinals : BTreeMap Ordinal (Option ℕ) → List Entry → Type 0
AreOrdinals places es = (o : Ordinal) → IsPlaceOf es (place_in (get ordinal_cmp places o)) (slice_get (trials_of o.job es) o.number)

-- which attempt of its job the entry makes, after these
abbrev pub ordinal_for : List Entry → Entry → Option Ordinal
ordinal_for es (Pending t) = Some (record { job = t.job; number = length (trials_of t.job es) })
ordinal_for es _ = None

-- the map has room for its place
abbrev pub has_ordinal_room : BTreeMap Ordinal (Option ℕ) → Option Ordinal → Bool
has_ordinal_room places None = true
has_ordinal_room places (Some o) = is_some (get ordinal_cmp places o)
