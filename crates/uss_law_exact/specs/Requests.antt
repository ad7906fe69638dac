-- Of which step of a script a job comes: a supplier opens one only where it is asked to. This project's own.
use Rattle.std.specs.Prelude.{ℕ, ◌≡◌, ℤ, true, List, [], ◌∷◌, ◌++◌, Some}
use Rattle.uss_event.specs.Pairs.{OperationalIntent}
use Rattle.uss_event.specs.declared.asks.FlightAsk.{FlightAsk}
use Rattle.uss_event.specs.declared.asks.PositionAsk.{PositionAsk}
use Rattle.uss_event.specs.declared.entries.Owner.{Owner}
use Rattle.uss_event.specs.declared.entries.Entry.{Entry}
use Rattle.uss_event.specs.declared.entries.Entry.TheVariants as Enters
use Rattle.uss_event.specs.declared.steps.Step.{Step}
use Rattle.uss_event.specs.declared.steps.Step.TheVariants as Steps
use Rattle.uss_event.specs.declared.steps.Stopped.{Stopped}
use Rattle.uss_event.specs.declared.steps.Stopped.TheVariants as Turns
use Rattle.uss_law_dss.specs.Lists.{Has}
use Rattle.uss_law_book.specs.Attempts.{held}
use Rattle.uss_law_duty.specs.Duties.{clamped}
use Rattle.uss_law_supplier.specs.Values.{Values, sightings_of}
use Rattle.uss_law_supplier.specs.Positions.{sighting_of, found_with, wished}
use Rattle.uss_law_world.specs.World.{book_of}
use Rattle.uss_law_exact.specs.Exact.{Exact, exact_start, exact_step, exact_run}

-- a position acts as a request, for its flight and with its number: its wish is the one that the monitor's finding comes to, over what is
-- held of the flight
pub record ActsAs (book : List Entry) (values : Values) (moment : ℤ) (p : PositionAsk) (ask : FlightAsk) : Type 0 where
  pub flight : ask.flight ≡ p.flight
  pub number : ask.number ≡ p.number
  pub pair : OperationalIntent
  pub is_held : held p.flight book ≡ Some pair
  pub wish : wished pair p pair.reference.state (found_with (sightings_of p.flight values) (sighting_of pair p moment)) ≡ Some ask.wish

-- in this world a supplier is asked so: by an operator, or by a position
abbrev pub AsksBy : Exact → ℕ → FlightAsk → Stopped → Type 0
AsksBy e s ask (Turns.Ask to asked) = (to ≡ s) × (asked ≡ ask)
AsksBy e s ask (Turns.Position to p) = (to ≡ s) × ActsAs (book_of s e.world) (e.kept s) (clamped e.world.moment) p ask
AsksBy e s ask _ = ⊥

-- also where the supplier stops within the step, once its entry is kept
abbrev pub Asks : Exact → ℕ → FlightAsk → Step → Type 0
Asks e s ask (Steps.Ask to asked) = AsksBy e s ask (Turns.Ask to asked)
Asks e s ask (Steps.Position to p) = AsksBy e s ask (Turns.Position to p)
Asks e s ask (Steps.Stop true sent step) = AsksBy e s ask step
Asks e s ask _ = ⊥

-- a job comes of a request: a step of the script asks for it, in the world that the steps before it lead to, and it is entered then, with
-- that world's moment, taken within the range of instants
pub record ComesOfRequest (first : Exact) (steps : List Step) (s job : ℕ) (moment : ℤ) (ask : FlightAsk) : Type 0 where
  pub before : List Step
  pub step : Step
  pub after : List Step
  pub script : steps ≡ before ++ step ∷ after
  pub asks : Asks (exact_run first before) s ask step
  pub moment_is : moment ≡ clamped (exact_run first before).world.moment
  pub enters : book_of s (exact_step (exact_run first before) step).world ≡
      book_of s (exact_run first before).world ++ Enters.Opened (record { job = job; moment = moment; ask = ask }) ∷ []

abbrev pub EachJobComesOfRequest : Type 0
EachJobComesOfRequest =
    (owners : List Owner) (steps : List Step) (s job : ℕ) (moment : ℤ) (ask : FlightAsk) →
    Has (book_of s (exact_run (exact_start owners) steps).world) (Enters.Opened (record { job = job; moment = moment; ask = ask })) →
    ComesOfRequest (exact_start owners) steps s job moment ask
