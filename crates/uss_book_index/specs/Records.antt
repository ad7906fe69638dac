-- What was recorded last of each flight, and what an entry records. This project's own.
use Rattle.std.specs.Prelude.{ℕ, ◌≡◌, Bool, true, List, ◌++◌, All, IsTrue, slice_get, Option, Some, None, is_some}
use Rattle.std.specs.Option.{option_map}
use Rattle.std.specs.BTreeMap.{BTreeMap, get}
use Rattle.std.specs.Ordering.{nat_cmp}
use Rattle.uss_vol4.specs.Volume.{IsVolume}
use Rattle.uss_vol4.specs.Bounding.{bounding_box}
use Rattle.uss_intent.specs.Identifiers.{flight_number, ticket_number}
use Rattle.uss_intent.specs.Texts.{tagged_base}
use Rattle.uss_intent.specs.declared.records.State.{State}
use Rattle.uss_event.specs.Plans.{is_plan}
use Rattle.uss_event.specs.Pairs.{OperationalIntent}
use Rattle.uss_event.specs.declared.asks.Wish.{Wish}
use Rattle.uss_event.specs.declared.asks.Wish.TheVariants.{Put, End}
use Rattle.uss_event.specs.declared.asks.FlightAsk.{FlightAsk}
use Rattle.uss_event.specs.declared.details.Proposal.{Proposal}
use Rattle.uss_event.specs.declared.entries.Owner.{Owner}
use Rattle.uss_event.specs.declared.entries.Entry.{Entry}
use Rattle.uss_event.specs.declared.entries.Entry.TheVariants.{Held}
use Rattle.uss_event.specs.declared.entries.Opening.{Opening}
use Rattle.uss_event.specs.declared.entries.Trial.{Trial}
use Rattle.uss_law_book.specs.Lists.{owner_of}
use Rattle.uss_law_book.specs.Contents.{opening_of, last_holding}
use Rattle.uss_law_book.specs.Attempts.{attempt_of, recorded_as, held_by}
use Rattle.uss_book_index.specs.declared.tried.Tried.{Tried}

-- what the entry records, after these
abbrev pub pair_for : List Entry → Entry → Option OperationalIntent
pair_for es (Held h) = option_map (λ a. recorded_as a h.ovn h.version) (attempt_of h.tag es)
pair_for es _ = None

-- there is room for a flight's pair, whether or not there is a pair
abbrev pub pair_in : Option (Option OperationalIntent) → Option OperationalIntent
pair_in None = None
pair_in (Some pair) = pair

-- the map has what was recorded last of each flight, whether it has ended or not
abbrev pub AreRecords : BTreeMap ℕ (Option OperationalIntent) → List Entry → Type 0
AreRecords pairs es = (flight : ℕ) → pair_in (get nat_cmp pairs flight) ≡ held_by es (last_holding flight es)

abbrev pub has_pair_room : BTreeMap ℕ (Option OperationalIntent) → Option ℕ → Bool
has_pair_room pairs None = true
has_pair_room pairs (Some flight) = is_some (get nat_cmp pairs flight)

-- ---- how the pair is made

-- the alternative is a plan of volumes
pub record IsPlan (to : State) (priority : ℕ) (p : Proposal) : Type 0 where
  pub plan : IsTrue (is_plan to p.volumes p.off_nominal priority)
  pub volumes : All IsVolume p.volumes
  pub off_nominal : All IsVolume p.off_nominal

abbrev pub ArePlanned : Wish → Type 0
ArePlanned (Put to priority rounds proposals) = All (IsPlan to priority) proposals
ArePlanned End = Unit {0}

abbrev pub pair_by_proposal : Owner → ℕ → Tried → List ℕ → State → ℕ → Proposal → OperationalIntent
pair_by_proposal owner flight tried ovn to priority p =
    record {
      reference = record {
        flight = flight_number owner.number flight;
        manager = owner.name;
        version = tried.version;
        state = to;
        ovn = Some ovn;
        start = (bounding_box (p.volumes ++ p.off_nominal)).start;
        end = (bounding_box (p.volumes ++ p.off_nominal)).end;
        base = tagged_base owner.base tried.tag;
        ticket = ticket_number owner.number tried.job;
      };
      details = record { volumes = p.volumes; off_nominal = p.off_nominal; priority = priority };
    }

abbrev pub pair_by_wish : Owner → ℕ → Tried → List ℕ → Wish → Option OperationalIntent
pair_by_wish owner flight tried ovn (Put to priority rounds proposals) =
    option_map (λ p. pair_by_proposal owner flight tried ovn to priority p) (slice_get proposals tried.alternative)
pair_by_wish owner flight tried ovn End = None

abbrev pub pair_by_ask : Option Owner → Tried → List ℕ → Option FlightAsk → Option OperationalIntent
pair_by_ask None tried ovn ask = None
pair_by_ask (Some owner) tried ovn None = None
pair_by_ask (Some owner) tried ovn (Some ask) = pair_by_wish owner ask.flight tried ovn ask.wish

-- for what a job was opened
abbrev pub ask_of : Option Opening → Option FlightAsk
ask_of None = None
ask_of (Some opening) = Some opening.ask

-- what is known of an attempt
abbrev pub tried_of : ℕ → Option Trial → Option Tried
tried_of version None = None
tried_of version (Some t) = Some (record { job = t.job; tag = t.tag; alternative = t.alternative; version = version })

abbrev pub pair_by_tried : List Entry → List ℕ → Option Tried → Option OperationalIntent
pair_by_tried es ovn None = None
pair_by_tried es ovn (Some tried) = pair_by_ask (owner_of es) tried ovn (ask_of (opening_of tried.job es))
