-- What the monitor's findings come to, in the words of positions and above the fold that the monitor is: a flight is lost once it was
-- outside for 60 s without being seen inside between, and for ever; one that isn't lost is where it was last seen. This project's own.
use Rattle.std.specs.Prelude.{ℕ, ◌≡◌, ◌↔◌, ◌⊎◌, ℤ, ◌+ℤ◌, ◌≤ℤ◌, Bool, true, false, List, [], ◌∷◌, ◌++◌}
use Rattle.uss_event.specs.declared.entries.Owner.{Owner}
use Rattle.uss_event.specs.declared.entries.Entry.{Entry}
use Rattle.uss_event.specs.declared.asks.Conform.{Conform}
use Rattle.uss_event.specs.declared.asks.Conform.TheVariants.{Conforming, Nonconforming, Contingent}
use Rattle.uss_event.specs.declared.events.Event.{Event}
use Rattle.uss_law_supplier.specs.Monitor.{Sighting, patience, watched, finding}
use Rattle.uss_law_supplier.specs.Values.{Values, sightings_of}
use Rattle.uss_law_supplier.specs.Step.{supplier_step}

-- positions in the order of their moments
abbrev pub NoneBefore : ℤ → List Sighting → Type 0
NoneBefore moment [] = Unit {0}
NoneBefore moment (s ∷ ss) = (moment ≤ℤ s.moment) × NoneBefore moment ss

abbrev pub AreInOrder : List Sighting → Type 0
AreInOrder [] = Unit {0}
AreInOrder (s ∷ ss) = NoneBefore s.moment ss × AreInOrder ss

-- from a moment on the flight is outside at each of these positions, up to one that comes 60 s later
abbrev pub StaysOutside : ℤ → List Sighting → Type 0
StaysOutside since [] = ⊥
StaysOutside since (s ∷ ss) = (s.inside ≡ false) × (((since +ℤ patience) ≤ℤ s.moment) ⊎ StaysOutside since ss)

-- it does so from one of these positions on
abbrev pub IsLost : List Sighting → Type 0
IsLost [] = ⊥
IsLost (s ∷ ss) = StaysOutside s.moment (s ∷ ss) ⊎ IsLost ss

abbrev pub LostIsContingent : Type 0
LostIsContingent = (sightings : List Sighting) → AreInOrder sightings → (finding (watched sightings) ≡ Contingent ↔ IsLost sightings)

-- where the flight is by its last position
abbrev pub by_last : Bool → Conform
by_last true = Conforming
by_last false = Nonconforming

abbrev pub OthersAreWhereLastSeen : Type 0
OthersAreWhereLastSeen =
    (before : List Sighting) (last : Sighting)
    → (finding (watched (before ++ last ∷ [])) ≡ Contingent) ⊎ (finding (watched (before ++ last ∷ [])) ≡ by_last last.inside)

-- the counted positions of each flight are in order, and stay so
abbrev pub IsInOrder : Values → Type 0
IsInOrder values = (flight : ℕ) → AreInOrder (sightings_of flight values)

abbrev pub PositionsStayInOrder : Type 0
PositionsStayInOrder =
    (owner : Owner) (book : List Entry) (values : Values) (moment : ℤ) (event : Event) → IsInOrder values
    → IsInOrder (supplier_step owner book values moment event).values
