-- What an attempt of a book would record, the call that records it, and what a book holds of a flight.
-- The identifiers and the attempt's base URL are this project's own.
use Rattle.std.specs.Prelude.{ℕ, List, ◌++◌, slice_get, Option, Some, None}
use Rattle.std.specs.Option.{option_map}
use Rattle.uss_vol4.specs.Volume.{Volume4D}
use Rattle.uss_vol4.specs.Bounding.{bounding_box}
use Rattle.uss_intent.specs.Identifiers.{flight_number, ticket_number}
use Rattle.uss_intent.specs.Texts.{tagged_base}
use Rattle.uss_intent.specs.declared.records.State.{State}
use Rattle.uss_intent.specs.declared.calls.DssAsk.{DssAsk}
use Rattle.uss_intent.specs.declared.calls.DssAsk.TheVariants as Asks
use Rattle.uss_event.specs.declared.asks.Wish.{Wish}
use Rattle.uss_event.specs.declared.asks.Wish.TheVariants.{Put, End}
use Rattle.uss_event.specs.declared.details.Details.{Details}
use Rattle.uss_event.specs.declared.details.Proposal.{Proposal}
use Rattle.uss_event.specs.declared.entries.Owner.{Owner}
use Rattle.uss_event.specs.declared.entries.Entry.{Entry}
use Rattle.uss_event.specs.Pairs.{OperationalIntent}
use Rattle.uss_event.specs.declared.entries.Opening.{Opening}
use Rattle.uss_event.specs.declared.entries.Trial.{Trial}
use Rattle.uss_event.specs.declared.entries.Holding.{Holding}
use Rattle.uss_law_book.specs.Lists.{owner_of}
use Rattle.uss_law_book.specs.Contents.{opening_of, trial_of, holding}

-- an operational intent as an attempt would record it
pub record Attempted : Type 0 where
  pub job : ℕ
  pub tag : ℕ
  -- the identifier of the job's flight
  pub flight : ℕ
  pub manager : List ℕ
  pub state : State
  -- which alternative of the wish it is, from 0, and what that is
  pub alternative : ℕ
  pub details : Details
  -- the OVN of the reference that it changes
  pub previous : Option (List ℕ)
  pub key : List (List ℕ)
  pub ticket : ℕ
  -- the owner's base URL with the tag
  pub base : List ℕ

abbrev pub attempted : Owner → Opening → Trial → State → ℕ → Proposal → Attempted
attempted owner opening trial state priority proposal =
    record {
      job = trial.job;
      tag = trial.tag;
      flight = flight_number owner.number opening.ask.flight;
      manager = owner.name;
      state = state;
      alternative = trial.alternative;
      details = record { volumes = proposal.volumes; off_nominal = proposal.off_nominal; priority = priority };
      previous = trial.previous;
      key = trial.key;
      ticket = ticket_number owner.number trial.job;
      base = tagged_base owner.base trial.tag;
    }

abbrev pub by_wish : Owner → Opening → Trial → Wish → Option Attempted
by_wish owner opening trial End = None
by_wish owner opening trial (Put to priority rounds proposals) =
    option_map (λ proposal. attempted owner opening trial to priority proposal) (slice_get proposals trial.alternative)

abbrev pub by_opening : Option Owner → Trial → Option Opening → Option Attempted
by_opening None trial opening = None
by_opening (Some owner) trial None = None
by_opening (Some owner) trial (Some opening) = by_wish owner opening trial opening.ask.wish

abbrev pub by_trial : List Entry → Option Trial → Option Attempted
by_trial book None = None
by_trial book (Some trial) = by_opening (owner_of book) trial (opening_of trial.job book)

-- the attempt with a tag
unfoldable pub attempt_of : ℕ → List Entry → Option Attempted
attempt_of tag book = by_trial book (trial_of tag book)

-- the extents of an attempt
abbrev pub extents_of : Attempted → List Volume4D
extents_of a = a.details.volumes ++ a.details.off_nominal

-- the call that records an attempt
abbrev pub put_of : Attempted → DssAsk
put_of a = Asks.Put a.flight a.previous (extents_of a) a.key a.state a.base a.ticket

-- the attempt as it is recorded, with an OVN and a version: from the least start of its extents to their greatest end
abbrev pub recorded_as : Attempted → List ℕ → ℕ → OperationalIntent
recorded_as a ovn version =
    record {
      reference = record {
        flight = a.flight;
        manager = a.manager;
        version = version;
        state = a.state;
        ovn = Some ovn;
        start = (bounding_box (extents_of a)).start;
        end = (bounding_box (extents_of a)).end;
        base = a.base;
        ticket = a.ticket;
      };
      details = a.details;
    }

abbrev pub held_by : List Entry → Option Holding → Option OperationalIntent
held_by book None = None
held_by book (Some h) = option_map (λ a. recorded_as a h.ovn h.version) (attempt_of h.tag book)

-- what a book holds of the owner's flight with a number: the last that was recorded of it, and none where it has ended
unfoldable pub held : ℕ → List Entry → Option OperationalIntent
held flight book = held_by book (holding flight book)

-- the state of what is held of a flight
abbrev pub held_state : ℕ → List Entry → Option State
held_state flight book = option_map (λ p. p.reference.state) (held flight book)
