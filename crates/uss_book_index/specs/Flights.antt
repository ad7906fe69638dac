-- What is kept of each flight. This project's own.
use Rattle.std.specs.Prelude.{ℕ, ◌<◌, ◌≡◌, Bool, true, false, ◌||◌, List, length, slice_get, Option, Some, None, is_some}
use Rattle.std.specs.Option.{option_and_then, option_map}
use Rattle.std.specs.BTreeMap.{BTreeMap, get}
use Rattle.std.specs.Ordering.{nat_cmp}
use Rattle.uss_event.specs.declared.entries.Entry.{Entry}
use Rattle.uss_event.specs.declared.entries.Entry.TheVariants.{Opened, Held, Done}
use Rattle.uss_law_book.specs.Contents.{opening_of, last_of, last_holding, has_ended, is_ended}
use Rattle.uss_book_rules.specs.Speaks.{opening_in, holding_in}
use Rattle.uss_book_index.specs.declared.flight.Flight.{Flight}

-- the place is that of an entry which says this, and there is none where nothing is said
abbrev pub IsIn : {X : Type 0} → List Entry → (Entry → Option X) → Option ℕ → Option X → Type 0
IsIn es read None o = o ≡ None
IsIn es read (Some n) o = (option_and_then read (slice_get es n) ≡ o) × (n < length es)

abbrev pub last_in : Option Flight → Option ℕ
last_in None = None
last_in (Some f) = f.last

abbrev pub recorded_in : Option Flight → Option ℕ
recorded_in None = None
recorded_in (Some f) = f.recorded

abbrev pub ended_in : Option Flight → Bool
ended_in None = false
ended_in (Some f) = f.ended

-- what is kept of a flight is what the entries tell
pub record IsFlight (es : List Entry) (flight : ℕ) (row : Option Flight) : Type 0 where
  pub last : IsIn es opening_in (last_in row) (last_of flight es)
  pub recorded : IsIn es holding_in (recorded_in row) (last_holding flight es)
  pub ended : ended_in row ≡ has_ended flight es

abbrev pub AreFlights : BTreeMap ℕ Flight → List Entry → Type 0
AreFlights flights es = (flight : ℕ) → IsFlight es flight (get nat_cmp flights flight)

-- the flight of which the entry changes what is kept
abbrev pub flight_in : List Entry → Entry → Option ℕ
flight_in es (Opened o) = Some o.ask.flight
flight_in es (Held h) = option_map (λ o. o.ask.flight) (opening_of h.job es)
flight_in es (Done d) = option_map (λ o. o.ask.flight) (opening_of d.job es)
flight_in es _ = None

-- what is kept of the flight after the entry, which comes at this place
abbrev pub flight_after : Flight → Entry → ℕ → Flight
flight_after f (Opened o) n = record { last = Some n; recorded = f.recorded; ended = f.ended }
flight_after f (Held h) n = record { last = f.last; recorded = Some n; ended = f.ended }
flight_after f (Done d) n = record { last = f.last; recorded = f.recorded; ended = f.ended || is_ended d.end }
flight_after f _ n = f

abbrev pub has_row : BTreeMap ℕ Flight → ℕ → Bool
has_row flights flight = is_some (get nat_cmp flights flight)

abbrev pub has_row_for : BTreeMap ℕ Flight → Option ℕ → Bool
has_row_for flights None = true
has_row_for flights (Some flight) = has_row flights flight
