-- From what each answer comes that an exchange ends with: of a request, of a cancel and of a position. This project's own.
use Rattle.std.specs.Prelude.{ℕ, ◌<◌, ◌≡◌, ◌↔◌, ℤ, Bool, true, false, List, [], ◌∷◌, length, filter_map, map, Option, Some, None, unwrap_or, ◌⊎◌, slice_get}
use Rattle.std.specs.List.{last_or}
use Rattle.uss_intent.specs.Numbers.{is_one_of}
use Rattle.uss_intent.specs.Refusals.{refusal_number}
use Rattle.uss_intent.specs.declared.records.Reference.{Reference}
use Rattle.uss_intent.specs.declared.calls.DssAsk.{DssAsk}
use Rattle.uss_intent.specs.declared.calls.DssAsk.TheVariants as Asks
use Rattle.uss_intent.specs.declared.calls.DssReply.TheVariants as Replies
use Rattle.uss_intent.specs.declared.calls.DssRefusal.{DssRefusal}
use Rattle.uss_intent.specs.declared.calls.DssRefusal.TheVariants as Refuses
use Rattle.uss_event.specs.Pairs.{OperationalIntent}
use Rattle.uss_event.specs.declared.asks.Conform.{Conform}
use Rattle.uss_event.specs.declared.asks.PositionAsk.{PositionAsk}
use Rattle.uss_event.specs.declared.asks.AskRefusal.{AskRefusal}
use Rattle.uss_event.specs.declared.rules.Verdict.{Verdict}
use Rattle.uss_plan.specs.declared.choice.Choice.TheVariants.{Blocked}
use Rattle.uss_event.specs.declared.entries.Owner.{Owner}
use Rattle.uss_event.specs.declared.entries.Entry.{Entry}
use Rattle.uss_event.specs.declared.entries.Ending.TheVariants as Ends
use Rattle.uss_event.specs.declared.calls.DssCall.{DssCall}
use Rattle.uss_event.specs.declared.calls.PeerCall.TheVariants as Calls
use Rattle.uss_event.specs.declared.calls.PeerReply.TheVariants as Peers
use Rattle.uss_event.specs.declared.events.Answer.{Answer}
use Rattle.uss_event.specs.declared.events.Answer.TheVariants as Answers
use Rattle.uss_event.specs.declared.events.Said.{Said}
use Rattle.uss_event.specs.declared.events.Said.TheVariants as Says
use Rattle.uss_event.specs.declared.events.Event.{Event}
use Rattle.uss_event.specs.declared.events.Event.TheVariants as Comes
use Rattle.uss_law_dss.specs.Lists.{Has}
use Rattle.uss_event.specs.declared.entries.Opening.{Opening}
use Rattle.uss_event.specs.declared.entries.Closing.{Closing}
use Rattle.uss_law_book.specs.Contents.{is_closed, open_job_of, decision_of, ending_of}
use Rattle.uss_law_book.specs.Attempts.{held}
use Rattle.uss_law_duty.specs.Duties.{clamped}
use Rattle.uss_law_duty.specs.Answers.{is_final, flight_of, by_end, job_named}
use Rattle.uss_law_duty.specs.Sayings.{most_looked_at, others, IsKeptAnswer}
use Rattle.uss_law_duty.specs.Entered.{shown_tag}
use Rattle.uss_law_supplier.specs.Monitor.{later_position}
use Rattle.uss_law_supplier.specs.Values.{round_of, sightings_of}
use Rattle.uss_law_supplier.specs.Turns.{Standing}
use Rattle.uss_law_supplier.specs.Airspace.{pairs_in, choice_of}
use Rattle.uss_law_supplier.specs.Jobs.{keeps_key, owns_tag, round_by_dss, round_by_peer, with_values}
use Rattle.uss_law_supplier.specs.Replies.{hearing_it}
use Rattle.uss_law_supplier.specs.Positions.{is_numbered}
use Rattle.uss_law_supplier.specs.Typed.{IsEvent}
use Rattle.uss_law_supplier.specs.Laws.{IsSound}
use Rattle.uss_law_asking.specs.Exchange.{Exchanged, is_operators, event_in, turn_of, stands_then, IsExchange, AllFit, AllTyped, last_turn, stands_after}
use Rattle.uss_law_asking.specs.Exchange.Exchanged.{OfDss, OfPeer}
use Rattle.uss_law_asking.specs.Refused.{refusal_at, finding_at, change_at}

-- a whole exchange of a sound supplier from what an operator sends; each reply fits its call
pub record IsCarriedOut (s : Standing) (moment : ℤ) (event : Event) (xs : List Exchanged) : Type 0 where
  pub operators : is_operators event ≡ true
  pub sound : IsSound s.owner s.book s.values
  pub fit : AllFit xs
  pub exchange : IsExchange s moment event xs

-- what it comes to, and the book then
abbrev pub outcome : Standing → ℤ → Event → List Exchanged → Said
outcome s moment event xs = (last_turn s moment event xs).said

abbrev pub book_then : Standing → ℤ → Event → List Exchanged → List Entry
book_then s moment event xs = (stands_after s moment event xs).book

-- the final answers: the book keeps them

-- an answer, other than that a position asks for no change
abbrev pub is_answer : Said → Bool
is_answer (Says.Answer (Answers.Steady finding)) = false
is_answer (Says.Answer answer) = true
is_answer _ = false

-- an exchange comes to a final answer exactly where it comes to an answer, and the book then keeps that one of the job of the request
abbrev pub FinalAnswersAreKept : Type 0
FinalAnswersAreKept =
    (s : Standing) (moment : ℤ) (event : Event) (xs : List Exchanged) (answer : Answer) → IsCarriedOut s moment event xs → is_final answer ≡ true
    → (outcome s moment event xs ≡ Says.Answer answer) ↔ ((is_answer (outcome s moment event xs) ≡ true) × IsKeptAnswer s.owner (book_then s moment event xs) event answer)

-- Conflict, Stale, Cancelled and Ended: the job recorded nothing
abbrev pub is_ending : Answer → Bool
is_ending (Answers.Conflict flight manager rule) = true
is_ending (Answers.Stale missing) = true
is_ending Answers.Cancelled = true
is_ending (Answers.Ended flight) = true
is_ending _ = false

-- the book has this as the end of the job of the request
pub record IsDoneSo (owner : Owner) (book : List Entry) (event : Event) (answer : Answer) : Type 0 where
  pub opening : Opening
  pub named : job_named event book ≡ Some opening
  pub done : Closing
  pub ended : ending_of opening.job book ≡ Some done
  pub is : by_end (flight_of owner opening) done.end ≡ answer

-- and an exchange comes to one of these exactly where it comes to an answer, and the book then has that as the end of the job
abbrev pub EndsAreDone : Type 0
EndsAreDone =
    (s : Standing) (moment : ℤ) (event : Event) (xs : List Exchanged) (answer : Answer) → IsCarriedOut s moment event xs → is_ending answer ≡ true
    → (outcome s moment event xs ≡ Says.Answer answer) ↔ ((is_answer (outcome s moment event xs) ≡ true) × IsDoneSo s.owner (book_then s moment event xs) event answer)

-- the other answers: the job stays open

-- a query found more than 1,024 references of other flights, for a job into Accepted or Activated
pub record FindsTooMany (owner : Owner) (book : List Entry) (event : Event) (xs : List Exchanged) (count : ℕ) : Type 0 where
  pub opening : Opening
  pub named : job_named event book ≡ Some opening
  pub keyed : keeps_key opening.ask.wish ≡ true
  pub call : DssCall
  pub references : List Reference
  pub found : Has xs (OfDss call (Replies.Found references))
  pub so_many : length (others (flight_of owner opening) references) ≡ count
  pub too_many : most_looked_at < count

abbrev pub CrowdedIsFound : Type 0
CrowdedIsFound =
    (s : Standing) (moment : ℤ) (event : Event) (xs : List Exchanged) (count : ℕ) → IsCarriedOut s moment event xs
    → (outcome s moment event xs ≡ Says.Answer (Answers.Crowded count)) ↔ FindsTooMany s.owner (book_then s moment event xs) event xs count

-- the refusals by the discovery service that a job goes on with, or ends with: its ticket is there already; its attempt was recorded before, or
-- lacks OVNs where it has a key; its ticket is gone, or cited; its flight is gone
abbrev pub settled : Bool → DssAsk → List ℕ
settled keyed (Asks.TicketPut ticket area base) = 203 ∷ []
settled true (Asks.Put flight ovn extents key state base ticket) = 203 ∷ 206 ∷ 209 ∷ []
settled false (Asks.Put flight ovn extents key state base ticket) = 203 ∷ 206 ∷ []
settled keyed (Asks.TicketRemove ticket version) = 204 ∷ 210 ∷ []
settled keyed (Asks.Remove flight ovn) = 204 ∷ []
settled keyed _ = []

-- a reply refused a call with this number, and the job doesn't go on with that
pub record IsRefusedByDss (book : List Entry) (event : Event) (xs : List Exchanged) (number : ℕ) : Type 0 where
  pub opening : Opening
  pub named : job_named event book ≡ Some opening
  pub call : DssCall
  pub refusal : DssRefusal
  pub replied : Has xs (OfDss call (Replies.Refused refusal))
  pub number_is : refusal_number refusal ≡ number
  pub unsettled : is_one_of number (settled (keeps_key opening.ask.wish) call.ask) ≡ false

abbrev pub DssRefusedIsReplied : Type 0
DssRefusedIsReplied =
    (s : Standing) (moment : ℤ) (event : Event) (xs : List Exchanged) (number : ℕ) → IsCarriedOut s moment event xs
    → (outcome s moment event xs ≡ Says.Answer (Answers.DssRefused number)) ↔ IsRefusedByDss (book_then s moment event xs) event xs number

-- another supplier replied with this status to a call for details
pub record IsRefusedByPeer (xs : List Exchanged) (manager : List ℕ) (status : ℕ) : Type 0 where
  pub job : ℕ
  pub flight : ℕ
  pub base : List ℕ
  pub replied : Has xs (OfPeer (Calls.Details job flight manager base) (Peers.Status status))

abbrev pub PeerRefusedIsReplied : Type 0
PeerRefusedIsReplied =
    (s : Standing) (moment : ℤ) (event : Event) (xs : List Exchanged) (manager : List ℕ) (status : ℕ) → IsCarriedOut s moment event xs
    → (outcome s moment event xs ≡ Says.Answer (Answers.PeerRefused manager status)) ↔ IsRefusedByPeer xs manager status

-- a Get gave a reference with this tag, which isn't that of an attempt of the job, or with no tag, for 0
pub record IsAnothers (book : List Entry) (event : Event) (xs : List Exchanged) (tag : ℕ) : Type 0 where
  pub opening : Opening
  pub named : job_named event book ≡ Some opening
  pub call : DssCall
  pub reference : Reference
  pub got : Has xs (OfDss call (Replies.Got reference))
  pub tag_is : unwrap_or (shown_tag reference) 0 ≡ tag
  pub not_own : owns_tag opening.job book (shown_tag reference) ≡ false

abbrev pub UnsettledIsGot : Type 0
UnsettledIsGot =
    (s : Standing) (moment : ℤ) (event : Event) (xs : List Exchanged) (tag : ℕ) → IsCarriedOut s moment event xs
    → (outcome s moment event xs ≡ Says.Answer (Answers.Unsettled tag)) ↔ IsAnothers (book_then s moment event xs) event xs tag

-- a position asks for no change: something is held of the flight, no job of its number is open, no later position was counted, and the
-- monitor's finding asks for none
pub record AsksForNoChange (s : Standing) (moment : ℤ) (event : Event) (finding : Conform) : Type 0 where
  pub position : PositionAsk
  pub is : event ≡ Comes.Position position
  pub pair : OperationalIntent
  pub is_held : held position.flight s.book ≡ Some pair
  pub no_job : is_numbered position.number (open_job_of position.flight s.book) ≡ None
  pub not_late : later_position (sightings_of position.flight s.values) moment ≡ None
  pub finds : finding_at s moment position pair ≡ finding
  pub no_change : change_at s moment position pair ≡ None

abbrev pub SteadyAsksForNoChange : Type 0
SteadyAsksForNoChange =
    (s : Standing) (moment : ℤ) (event : Event) (xs : List Exchanged) (finding : Conform) → IsCarriedOut s moment event xs
    → (outcome s moment event xs ≡ Says.Answer (Answers.Steady finding)) ↔ AsksForNoChange s (clamped moment) event finding

-- the refusals come by the event, the book, what is kept beside it and the moment alone, in their order, and before any call
abbrev pub RefusalsAreByBook : Type 0
RefusalsAreByBook =
    (s : Standing) (moment : ℤ) (event : Event) (xs : List Exchanged) (refusal : AskRefusal) → IsCarriedOut s moment event xs
    → (outcome s moment event xs ≡ Says.Refused refusal) ↔ (refusal_at s (clamped moment) event ≡ Some refusal)

abbrev pub RefusalsComeFirst : Type 0
RefusalsComeFirst =
    (s : Standing) (moment : ℤ) (event : Event) (xs : List Exchanged) (refusal : AskRefusal) → IsCarriedOut s moment event xs → outcome s moment event xs ≡ Says.Refused refusal → xs ≡ []

-- the flights that a refusal for want of OVNs names, and those that the last one does
abbrev pub missing_in : Exchanged → Option (List ℕ)
missing_in (OfDss call (Replies.Refused (Refuses.MissingKey references))) = Some (map (λ (r : Reference). r.flight) references)
missing_in _ = None

abbrev pub missing_last : List Exchanged → Option (List ℕ)
missing_last xs = last_or None (filter_map missing_in xs)

-- Stale names the flights that the last refusal for want of OVNs did: in this exchange, where the job hadn't decided before it; else the
-- book has them since then
pub record NamesTheMissing (before book : List Entry) (event : Event) (xs : List Exchanged) (missing : List ℕ) : Type 0 where
  pub opening : Opening
  pub named : job_named event book ≡ Some opening
  pub here : decision_of opening.job before ≡ None → missing_last xs ≡ Some missing
  pub earlier : (d : Closing) → decision_of opening.job before ≡ Some d → d.end ≡ Ends.Stale missing

abbrev pub StaleNamesTheMissing : Type 0
StaleNamesTheMissing =
    (s : Standing) (moment : ℤ) (event : Event) (xs : List Exchanged) (missing : List ℕ) → IsCarriedOut s moment event xs → IsEvent event → AllTyped xs → outcome s moment event xs ≡ Says.Answer (Answers.Stale missing)
    → NamesTheMissing s.book (book_then s moment event xs) event xs missing

-- what a supplier stands on once it took a reply in
abbrev pub taken_in : Standing → Opening → Event → Standing
taken_in s o (Comes.Dss call reply) = with_values s (round_by_dss s o reply)
taken_in s o (Comes.Peer call reply) = with_values s (round_by_peer (hearing_it s call reply) o call reply)
taken_in s o event = s

-- the choice of the job among its alternatives is blocked there by this flight, this manager's, and this rule
pub record IsBlockedBy (s : Standing) (o : Opening) (flight : ℕ) (manager : List ℕ) (rule : Verdict) : Type 0 where
  pub place : ℕ
  pub pair : OperationalIntent
  pub blocked : choice_of s o (pairs_in s (round_of o.job s.values)) ≡ Blocked place rule
  pub at : slice_get (pairs_in s (round_of o.job s.values)) place ≡ Some pair
  pub flight_is : pair.reference.flight ≡ flight
  pub manager_is : pair.reference.manager ≡ manager

-- so it is at some step of the exchange
abbrev pub AtSomeStep : (Standing → Event → Type 0) → Standing → ℤ → Event → List Exchanged → Type 0
AtSomeStep P s moment event [] = P s event
AtSomeStep P s moment event (x ∷ xs) = P s event ⊎ AtSomeStep P (stands_then s (turn_of s moment event)) moment (event_in x) xs

-- Conflict names the pair by which the choice was blocked, and the rule: in this exchange, where the job was open and hadn't decided before
-- it; else the book has them since then
pub record NamesThePair (s : Standing) (moment : ℤ) (event : Event) (xs : List Exchanged) (flight : ℕ) (manager : List ℕ) (rule : Verdict) : Type 0 where
  pub opening : Opening
  pub named : job_named event (book_then s moment event xs) ≡ Some opening
  pub here : is_closed opening.job s.book ≡ false → decision_of opening.job s.book ≡ None
      → AtSomeStep (λ t e. IsBlockedBy (taken_in t opening e) opening flight manager rule) s moment event xs
  pub earlier : (d : Closing) → decision_of opening.job s.book ≡ Some d → d.end ≡ Ends.Conflict flight manager rule

abbrev pub ConflictNamesThePair : Type 0
ConflictNamesThePair =
    (s : Standing) (moment : ℤ) (event : Event) (xs : List Exchanged) (flight : ℕ) (manager : List ℕ) (rule : Verdict) → IsCarriedOut s moment event xs → IsEvent event → AllTyped xs
    → outcome s moment event xs ≡ Says.Answer (Answers.Conflict flight manager rule) → NamesThePair s moment event xs flight manager rule
