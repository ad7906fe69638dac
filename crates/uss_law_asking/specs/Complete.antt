-- What a new request comes to where nobody disturbs it: the discovery service replies by its rules and nobody else moves it, other suppliers
-- serve what is recorded, and no call fails. The choice is then the best one against what is recorded. This project's own.
use Rattle.std.specs.Prelude.{ℕ, ◌+◌, ◌<◌, ◌≤◌, ◌≡◌, ℤ, Bool, true, false, not, ◌&&◌, ◌==◌, nat_lt, List, [], ◌∷◌, length, filter, filter_map, find, slice_get, Option, Some, None, IfSome, is_none, if◌then◌else◌}
use Rattle.uss_intent.specs.Limits.{most_references, most_tickets, last_version, most_landings}
use Rattle.uss_intent.specs.Identifiers.{flight_number, ticket_number}
use Rattle.uss_intent.specs.Same.{same_text}
use Rattle.uss_intent.specs.declared.records.Recorded.{Recorded}
use Rattle.uss_intent.specs.States.{is_strategic}
use Rattle.uss_intent.specs.Numbers.{is_one_of}
use Rattle.uss_law_duty.specs.Duties.{clamped}
use Rattle.uss_event.specs.Pairs.{OperationalIntent}
use Rattle.uss_event.specs.Plans.{extents_of}
use Rattle.uss_event.specs.declared.rules.Verdict.{Verdict}
use Rattle.uss_event.specs.declared.asks.Wish.{Wish}
use Rattle.uss_event.specs.declared.asks.Wish.TheVariants.{Put, End}
use Rattle.uss_event.specs.declared.asks.FlightAsk.{FlightAsk}
use Rattle.uss_event.specs.declared.calls.PeerCall.TheVariants as Calls
use Rattle.uss_event.specs.declared.calls.PeerReply.{PeerReply}
use Rattle.uss_event.specs.declared.calls.PeerReply.TheVariants as Peers
use Rattle.uss_event.specs.declared.events.Answer.TheVariants as Answers
use Rattle.uss_event.specs.declared.events.Said.{Said}
use Rattle.uss_event.specs.declared.events.Said.TheVariants as Says
use Rattle.uss_event.specs.declared.events.Event.TheVariants as Comes
use Rattle.uss_plan.specs.declared.choice.Choice.{Choice}
use Rattle.uss_plan.specs.declared.choice.Choice.TheVariants.{Chosen, Blocked}
use Rattle.uss_law_dss.specs.Lists.{Has}
use Rattle.uss_law_dss.specs.Service.{Service, recorded_of, ticket_of}
use Rattle.uss_law_dss.specs.Step.{found_in, service_step}
use Rattle.uss_law_dss.specs.Orderly.{IsOrderly}
use Rattle.uss_law_book.specs.Lists.{openings}
use Rattle.uss_law_book.specs.Contents.{last_of}
use Rattle.uss_law_book.specs.Attempts.{held}
use Rattle.uss_law_book.specs.Legal.{IsAfter}
use Rattle.uss_event.specs.Heard.{kept_pair, is_of}
use Rattle.uss_law_duty.specs.Sayings.{most_looked_at}
use Rattle.uss_law_supplier.specs.Calls.{area_of}
use Rattle.uss_law_supplier.specs.Turns.{Standing}
use Rattle.uss_law_supplier.specs.Airspace.{held_as, is_own, choice_of}
use Rattle.uss_law_supplier.specs.Asks.{opening_for}
use Rattle.uss_law_supplier.specs.Laws.{IsSound}
use Rattle.uss_law_asking.specs.Refused.{ask_refusal}
use Rattle.uss_law_asking.specs.Exchange.{Exchanged, IsExchange, AllFit, last_turn}
use Rattle.uss_law_asking.specs.Exchange.Exchanged.{OfDss, OfPeer}

-- the pair that its manager serves of a flight
abbrev pub served_of : ℕ → List ℕ → List OperationalIntent → Option OperationalIntent
served_of flight manager served = find (λ (p : OperationalIntent). is_of flight p && same_text p.reference.manager manager) served

abbrev pub served_reply : Option OperationalIntent → PeerReply
served_reply None = Peers.Gone
served_reply (Some pair) = Peers.Served pair

-- the replies are those of the discovery service, which nobody else moves, and of suppliers that serve these pairs
abbrev pub AreByService : List ℕ → List OperationalIntent → Service → List Exchanged → Type 0
AreByService client served service [] = Unit {0}
AreByService client served service (OfDss call reply ∷ xs) =
    (reply ≡ (service_step service client call.ask).0) × AreByService client served (service_step service client call.ask).1 xs
AreByService client served service (OfPeer (Calls.Details job flight manager base) reply ∷ xs) =
    (reply ≡ served_reply (served_of flight manager served)) × AreByService client served service xs
AreByService client served service (OfPeer (Calls.Notify job index base note) reply ∷ xs) = ⊥

-- the pair is of the recorded reference
pub record IsPairOf (r : Recorded) (p : OperationalIntent) : Type 0 where
  pub version : p.reference.version ≡ r.reference.version
  pub ovn : p.reference.ovn ≡ r.reference.ovn
  pub state : p.reference.state ≡ r.reference.state
  pub extents : extents_of p.details ≡ r.extents

-- the intent of a recorded reference: an own flight's as it is held, and another's as it is served
abbrev pub intent_of : Standing → List OperationalIntent → Recorded → Option OperationalIntent
intent_of s served r = if is_own s.owner r.reference then held_as s.owner r.reference.flight s.book else served_of r.reference.flight r.reference.manager served

-- the identifier of the request's flight
abbrev pub its_flight : Standing → FlightAsk → ℕ
its_flight s ask = flight_number s.owner.number ask.flight

-- what is held of the request's flight is recorded
abbrev pub HeldIsRecorded : Standing → FlightAsk → Service → Type 0
HeldIsRecorded s ask service = IfSome (held ask.flight s.book) (λ p. (r : Recorded) × Has service.references r × (p.reference ≡ r.reference))

-- nothing stands in the way of the request
pub record IsUndisturbed (s : Standing) (moment : ℤ) (ask : FlightAsk) (service : Service) (served : List OperationalIntent) : Type 0 where
  -- the request is new, and isn't refused
  pub new : IfSome (last_of ask.flight s.book) (IsAfter ask)
  pub accepted : ask_refusal s.book (clamped moment) ask ≡ None
  -- its ticket is new to the discovery service, and its flight is neither retired nor another's
  pub no_ticket : ticket_of (ticket_number s.owner.number (length (openings s.book) + 1)) service ≡ None
  pub unused_ticket : is_one_of (ticket_number s.owner.number (length (openings s.book) + 1)) service.retired_tickets ≡ false
  pub alive : is_one_of (its_flight s ask) service.retired_flights ≡ false
  pub own : IfSome (recorded_of (its_flight s ask) service) (λ r. r.reference.manager ≡ s.owner.name)
  -- the service's state is orderly, as each is that it comes to, and it has room
  pub orderly : IsOrderly service
  pub few_references : length service.references < most_references
  pub few_tickets : length service.tickets < most_tickets
  pub few_versions : (r : Recorded) → Has service.references r → r.reference.version < last_version
  pub few_landings : length service.landings < most_landings
  -- each recorded reference of the supplier is that of what it holds, and what it holds of the flight is recorded
  pub held_own : (r : Recorded) → Has service.references r → is_own s.owner r.reference ≡ true → (p : OperationalIntent) × (held_as s.owner r.reference.flight s.book ≡ Some p) × (p.reference ≡ r.reference)
  pub recorded : HeldIsRecorded s ask service
  -- each other reference is served as it is recorded
  pub served_others : (r : Recorded) → Has service.references r → is_own s.owner r.reference ≡ false → (p : OperationalIntent) × (served_of r.reference.flight r.reference.manager served ≡ Some p) × IsPairOf r p
  -- what was heard of another's recorded flight is no newer, and where it is as new, it is what is served
  pub heard_no_newer : (r : Recorded) (p : OperationalIntent) → Has service.references r → is_own s.owner r.reference ≡ false → kept_pair r.reference.flight s.values.heard ≡ Some p → p.reference.version ≤ r.reference.version
  pub heard_same : (r : Recorded) (p : OperationalIntent) → Has service.references r → is_own s.owner r.reference ≡ false → kept_pair r.reference.flight s.values.heard ≡ Some p → p.reference.version ≡ r.reference.version
      → served_of r.reference.flight r.reference.manager served ≡ Some p

-- the recorded references of other flights that share with the ticket's area
abbrev pub around : Standing → FlightAsk → Service → List Recorded
around s ask service = filter (λ (r : Recorded). not (r.reference.flight == its_flight s ask)) (found_in (area_of ask.wish) service.references)

-- with their intents
abbrev pub intents_around : Standing → FlightAsk → Service → List OperationalIntent → List OperationalIntent
intents_around s ask service served = filter_map (intent_of s served) (around s ask service)

-- nothing is held of the request's flight
abbrev pub is_new : Standing → FlightAsk → Bool
is_new s ask = is_none (held ask.flight s.book)

-- the flight is recorded by this alternative: planned where it is new, and changed where it isn't
abbrev pub IsRecordedBy : Bool → ℕ → ℕ → Said → Type 0
IsRecordedBy true flight alternative (Says.Answer (Answers.Planned f tag by ovn version)) = (f ≡ flight) × (by ≡ alternative)
IsRecordedBy false flight alternative (Says.Answer (Answers.Changed f tag by ovn version)) = (f ≡ flight) × (by ≡ alternative)
IsRecordedBy new flight alternative _ = ⊥

-- it stands against the flight by this rule
abbrev pub IsConflictWith : Verdict → Option OperationalIntent → Said → Type 0
IsConflictWith rule None said = ⊥
IsConflictWith rule (Some p) said = said ≡ Says.Answer (Answers.Conflict p.reference.flight p.reference.manager rule)

abbrev pub IsOfChoice : Bool → ℕ → List OperationalIntent → Choice → Said → Type 0
IsOfChoice new flight pairs (Chosen alternative) said = IsRecordedBy new flight alternative said
IsOfChoice new flight pairs (Blocked place rule) said = IsConflictWith rule (slice_get pairs place) said

-- a wish that is held against others is crowded out, or comes to the best choice
abbrev pub IsKeyedOutcome : Bool → ℕ → Bool → ℕ → List OperationalIntent → Choice → Said → Type 0
IsKeyedOutcome new flight true count pairs c said = said ≡ Says.Answer (Answers.Crowded count)
IsKeyedOutcome new flight false count pairs c said = IsOfChoice new flight pairs c said

abbrev pub IsPutOutcome : Bool → ℕ → Bool → ℕ → List OperationalIntent → Choice → Said → Type 0
IsPutOutcome new flight true count pairs c said = IsKeyedOutcome new flight (nat_lt most_looked_at count) count pairs c said
IsPutOutcome new flight false count pairs c said = IsRecordedBy new flight 0 said

-- what the request comes to
abbrev pub IsOutcome : Standing → ℤ → FlightAsk → Service → List OperationalIntent → Wish → Said → Type 0
IsOutcome s moment ask service served (Put to priority rounds proposals) said =
    IsPutOutcome (is_new s ask) (its_flight s ask) (is_strategic to) (length (around s ask service)) (intents_around s ask service served)
    (choice_of s (opening_for s (clamped moment) ask) (intents_around s ask service served)) said
IsOutcome s moment ask service served End said = said ≡ Says.Answer (Answers.Ended (its_flight s ask))

-- there is a whole exchange from the request on
abbrev pub IsAnswered : FlightAsk → Type 0
IsAnswered ask =
    (s : Standing) (moment : ℤ) (service : Service) (served : List OperationalIntent) → IsSound s.owner s.book s.values → IsUndisturbed s moment ask service served
    → (xs : List Exchanged) × IsExchange s moment (Comes.Ask ask) xs × AreByService s.owner.name served service xs

-- and each whole exchange from the request on comes to that
abbrev pub ComesOut : FlightAsk → Type 0
ComesOut ask =
    (s : Standing) (moment : ℤ) (service : Service) (served : List OperationalIntent) (xs : List Exchanged) → IsSound s.owner s.book s.values → IsUndisturbed s moment ask service served
    → IsExchange s moment (Comes.Ask ask) xs → AreByService s.owner.name served service xs → IsOutcome s moment ask service served ask.wish (last_turn s moment (Comes.Ask ask) xs).said

-- every request does
abbrev pub RequestsAreAnswered : Type 0
RequestsAreAnswered = (ask : FlightAsk) → IsAnswered ask

abbrev pub RequestsComeOut : Type 0
RequestsComeOut = (ask : FlightAsk) → ComesOut ask

-- the end of a flight is asked for: for the first time, or again, whether it has come or not
pub record IsEnding (s : Standing) (moment : ℤ) (ask : FlightAsk) (service : Service) : Type 0 where
  pub end : ask.wish ≡ End
  pub accepted : ask_refusal s.book (clamped moment) ask ≡ None
  pub orderly : IsOrderly service
  pub recorded : HeldIsRecorded s ask service

-- it needs no more than this to come
abbrev pub EndsAreAnswered : Type 0
EndsAreAnswered =
    (s : Standing) (moment : ℤ) (ask : FlightAsk) (service : Service) (served : List OperationalIntent) → IsSound s.owner s.book s.values → IsEnding s moment ask service
    → (xs : List Exchanged) × IsExchange s moment (Comes.Ask ask) xs × AreByService s.owner.name served service xs

abbrev pub EndsComeOut : Type 0
EndsComeOut =
    (s : Standing) (moment : ℤ) (ask : FlightAsk) (service : Service) (served : List OperationalIntent) (xs : List Exchanged) → IsSound s.owner s.book s.values → IsEnding s moment ask service
    → IsExchange s moment (Comes.Ask ask) xs → AreByService s.owner.name served service xs → (last_turn s moment (Comes.Ask ask) xs).said ≡ Says.Answer (Answers.Ended (its_flight s ask))

-- such replies fit their calls, so that what holds of replies that fit holds of these
abbrev pub TheirRepliesFit : Type 0
TheirRepliesFit = (client : List ℕ) (served : List OperationalIntent) (service : Service) (xs : List Exchanged) → IsOrderly service → AreByService client served service xs → AllFit xs
