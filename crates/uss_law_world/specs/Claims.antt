-- What is claimed of the world after every free list of moves. Strategic conflict detection is after ASTM F3548-21; the table of rules,
-- the exception for an Activated intent and the answers are this project's own.
use Rattle.std.specs.Prelude.{ℕ, ◌≤◌, ◌<◌, ◌≡◌, ◌≢◌, Bool, true, false, ◌&&◌, ◌==◌, List, filter, length, Option, Some, None, unwrap_or, count_by, if◌then◌else◌, ◌+◌, ◌^◌, [], ◌∷◌}
use Rattle.uss_vol4.specs.Volume.{ListsShare}
use Rattle.uss_vol4.specs.Bounding.{bounding_box}
use Rattle.uss_intent.specs.Identifiers.{flight_number}
use Rattle.uss_intent.specs.Tags.{tag_of}
use Rattle.uss_intent.specs.Same.{same_text}
use Rattle.uss_intent.specs.declared.records.Recorded.{Recorded}
use Rattle.uss_intent.specs.declared.records.Reference.{Reference}
use Rattle.uss_intent.specs.declared.records.Landing.{Landing}
use Rattle.uss_intent.specs.declared.records.Subscriber.{Subscriber}
use Rattle.uss_intent.specs.declared.records.State.TheVariants.{Activated}
use Rattle.uss_intent.specs.declared.calls.DssAsk.{DssAsk}
use Rattle.uss_intent.specs.declared.calls.DssAsk.TheVariants as Asks
use Rattle.uss_intent.specs.declared.calls.DssReply.TheVariants as Replies
use Rattle.uss_intent.specs.declared.calls.DssRefusal.{DssRefusal}
use Rattle.uss_intent.specs.declared.calls.DssRefusal.TheVariants as Refuses
use Rattle.uss_intent.specs.States.{is_strategic}
use Rattle.uss_intent.specs.Numbers.{is_one_of}
use Rattle.uss_event.specs.Pairs.{OperationalIntent}
use Rattle.uss_event.specs.Plans as Plans
use Rattle.uss_event.specs.declared.calls.DssCall.{DssCall}
use Rattle.uss_event.specs.declared.calls.Note.{Note}
use Rattle.uss_event.specs.declared.calls.PeerCall.{PeerCall}
use Rattle.uss_event.specs.declared.calls.PeerCall.TheVariants as Calls
use Rattle.uss_event.specs.declared.calls.PeerReply.TheVariants as Peers
use Rattle.uss_event.specs.declared.events.Answer.{Answer}
use Rattle.uss_event.specs.declared.events.Answer.TheVariants as Answers
use Rattle.uss_event.specs.declared.events.Said.{Said}
use Rattle.uss_event.specs.declared.events.Said.TheVariants as Says
use Rattle.uss_law_dss.specs.Lists.{Has}
use Rattle.uss_law_dss.specs.Service.{recorded_of}
use Rattle.uss_law_dss.specs.Step.{service_step}
use Rattle.uss_event.specs.declared.entries.Opening.{Opening}
use Rattle.uss_event.specs.declared.entries.Trial.{Trial}
use Rattle.uss_law_book.specs.Lists.{openings, trials}
use Rattle.uss_law_book.specs.Contents.{is_open, owns, opening_of, open_job_of, has_ended}
use Rattle.uss_law_book.specs.Attempts.{Attempted, attempt_of, extents_of, recorded_as, held}
use Rattle.uss_event.specs.Heard.News.{Heard}
use Rattle.uss_law_duty.specs.Answers.{is_final, job_of_request}
use Rattle.uss_law_world.specs.World.{World, Saying, book_of, heard_of, name_of}
use Rattle.uss_law_world.specs.World.Post.{Called, Replied, Asked, Answered}

-- the tag that a reference's base URL ends in, and 0 where it has none
abbrev pub tag_in : Reference → ℕ
tag_in r = unwrap_or (tag_of r.base) 0

-- the intent of a recorded reference: the attempt of its manager's book with the tag of its base URL
pub record IsIntentOf (w : World) (r : Recorded) (a : Attempted) : Type 0 where
  pub supplier : ℕ
  pub manager : r.reference.manager ≡ name_of supplier w
  pub found : attempt_of (tag_in r.reference) (book_of supplier w) ≡ Some a

-- the reference has what the attempt has, and the history has it as a landing
pub record IsRecordOf (w : World) (r : Recorded) (a : Attempted) : Type 0 where
  pub flight : r.reference.flight ≡ a.flight
  pub manager : r.reference.manager ≡ a.manager
  pub state : r.reference.state ≡ a.state
  pub extents : r.extents ≡ extents_of a
  pub base : r.reference.base ≡ a.base
  pub ticket : r.reference.ticket ≡ a.ticket
  -- from the least start of its extents to their greatest end; its version counts the flight's landings
  pub start : r.reference.start ≡ (bounding_box (extents_of a)).start
  pub end : r.reference.end ≡ (bounding_box (extents_of a)).end
  pub version : r.reference.version ≡ count_by (λ l. l.flight == a.flight) w.service.landings
  pub landing : Landing
  pub landed : Has w.service.landings landing
  pub ovn : r.reference.ovn ≡ Some landing.ovn
  pub landing_manager : landing.manager ≡ a.manager
  pub landing_flight : landing.flight ≡ a.flight
  pub landing_tag : landing.tag ≡ a.tag

-- each recorded reference has exactly one intent, and has its flight, state, extents, base URL and ticket
pub record EachIsIntended (w : World) : Type 0 where
  pub some : (r : Recorded) → Has w.service.references r → (a : Attempted) × IsIntentOf w r a × IsRecordOf w r a
  pub one : (r : Recorded) (a b : Attempted) → Has w.service.references r → IsIntentOf w r a → IsIntentOf w r b → a ≡ b

-- the number of a flight's landings up to the one with an OVN
abbrev pub counts_for : ℕ → Landing → ℕ
counts_for flight l = if l.flight == flight then 1 else 0

abbrev pub rank_of : ℕ → List ℕ → List Landing → ℕ
rank_of flight ovn [] = 0
rank_of flight ovn (l ∷ ls) = if same_text l.ovn ovn then counts_for flight l else counts_for flight l + rank_of flight ovn ls

-- a pair is made: it is an attempt of some supplier as it landed, and its version counts the flight's landings up to this one
pub record IsMade (w : World) (p : OperationalIntent) : Type 0 where
  pub supplier : ℕ
  pub attempt : Attempted
  pub landing : Landing
  pub version : ℕ
  pub found : attempt_of attempt.tag (book_of supplier w) ≡ Some attempt
  pub landed : Has w.service.landings landing
  pub manager : landing.manager ≡ attempt.manager
  pub flight : landing.flight ≡ attempt.flight
  pub tag : landing.tag ≡ attempt.tag
  pub rank : rank_of landing.flight landing.ovn w.service.landings ≡ version
  pub is : p ≡ recorded_as attempt landing.ovn version

-- each pair that a book holds, that was heard, that was said, that was served, and that was noted, is made
pub record EachPairIsMade (w : World) : Type 0 where
  pub held : (s flight : ℕ) (p : OperationalIntent) → held flight (book_of s w) ≡ Some p → IsMade w p
  pub heard : (s : ℕ) (p : OperationalIntent) → Has (heard_of s w) (Heard p) → IsMade w p
  pub said : (x : Saying) (p : OperationalIntent) → Has w.sayings x → x.said ≡ Says.Pair (Some p) → IsMade w p
  pub served : (s answered : ℕ) (call : PeerCall) (p : OperationalIntent) → Has w.posts (Answered s answered call (Peers.Served p)) → IsMade w p
  pub noted : (s : ℕ) (to : Option ℕ) (job index : ℕ) (base : List ℕ) (note : Note) (p : OperationalIntent) → Has w.posts (Asked s to (Calls.Notify job index base note)) → note.pair ≡ Some p
      → IsMade w p

-- two intents of different flights, both Accepted or Activated, of one priority at which conflict is forbidden, share a point of airspace
-- and time
pub record Forbidden (table : List ℕ) (a b : Attempted) : Type 0 where
  pub first : is_strategic a.state ≡ true
  pub second : is_strategic b.state ≡ true
  pub flights : a.flight ≢ b.flight
  pub priority : a.details.priority ≡ b.details.priority
  pub listed : is_one_of a.details.priority table ≡ true
  pub share : ListsShare (extents_of a) (extents_of b)

abbrev pub NoneForbidden : List ℕ → World → Type 0
NoneForbidden table w =
    (r q : Recorded) (a b : Attempted) → Has w.service.references r → Has w.service.references q → IsIntentOf w r a → IsIntentOf w q b → Forbidden table a b → ⊥

-- the flight is flown, and what was recorded of it before is flown and shares with the other already
abbrev pub IsExcepted : Option Attempted → Attempted → Attempted → Type 0
IsExcepted None a b = ⊥
IsExcepted (Some p) a b = (a.state ≡ Activated) × (p.state ≡ Activated) × ListsShare (extents_of p) (extents_of b)

-- the other intent has the greater priority and shares with this one, which may not be recorded over it; the exception is by what this
-- one takes the place of
pub record Higher (previous : Option Attempted) (a b : Attempted) : Type 0 where
  pub first : is_strategic a.state ≡ true
  pub second : is_strategic b.state ≡ true
  pub flights : a.flight ≢ b.flight
  pub less : a.details.priority < b.details.priority
  pub share : ListsShare (extents_of a) (extents_of b)
  pub unexcepted : IsExcepted previous a b → ⊥

-- the intent of what is recorded of a flight, and none where nothing is recorded
abbrev pub IsIntentOfRecorded : World → Option Recorded → Option Attempted → Type 0
IsIntentOfRecorded w None previous = previous ≡ None
IsIntentOfRecorded w (Some r) None = ⊥
IsIntentOfRecorded w (Some r) (Some p) = IsIntentOf w r p

-- nothing that is recorded stands against the intent, which takes the place of what is recorded of its flight
abbrev pub NothingStandsAgainst : List ℕ → World → Attempted → Type 0
NothingStandsAgainst table w a =
    (q : Recorded) (b : Attempted) (previous : Option Attempted) → Has w.service.references q → IsIntentOf w q b →
    IsIntentOfRecorded w (recorded_of a.flight w.service) previous → (Forbidden table a b → ⊥) × (Higher previous a b → ⊥)

-- where a call that was sent lands now, it is an attempt of its sender, and nothing that is recorded stands against it
pub record IsClearAtLanding (table : List ℕ) (w : World) (s : ℕ) (landed : Reference) : Type 0 where
  pub attempt : Attempted
  pub found : attempt_of (tag_in landed) (book_of s w) ≡ Some attempt
  pub flight : landed.flight ≡ attempt.flight
  pub state : landed.state ≡ attempt.state
  pub clear : NothingStandsAgainst table w attempt

abbrev pub LandingsAreClear : List ℕ → World → Type 0
LandingsAreClear table w =
    (s : ℕ) (call : DssCall) (landed : Reference) (subscribers : List Subscriber) → Has w.posts (Called s call) →
    (service_step w.service (name_of s w) call.ask).0 ≡ Replies.Landed landed subscribers → IsClearAtLanding table w s landed

-- the landing is of an attempt of the supplier's job
pub record IsLandingOf (w : World) (s job : ℕ) (l : Landing) : Type 0 where
  pub there : Has w.service.landings l
  pub manager : l.manager ≡ name_of s w
  pub trial : Trial
  pub tried : Has (trials (book_of s w)) trial
  pub job_is : trial.job ≡ job
  pub tag : trial.tag ≡ l.tag

-- the landings of a job: those with the supplier's name and the tag of one of the job's attempts
abbrev pub landings_of : ℕ → ℕ → World → List Landing
landings_of s job w = filter (λ l. same_text l.manager (name_of s w) && owns job l.tag (book_of s w)) w.service.landings

-- the request of an opening: a flight, by its number
abbrev pub is_request : ℕ → ℕ → Opening → Bool
is_request flight number o = (o.ask.flight == flight) && (o.ask.number == number)

-- each request opened at most one job, and a job has at most one landing
pub record EachAtMostOnce (w : World) : Type 0 where
  pub openings : (s flight number : ℕ) → length (filter (is_request flight number) (openings (book_of s w))) ≤ 1
  pub landings : (s job : ℕ) → length (landings_of s job w) ≤ 1

-- an answer that says what was recorded is true where a landing of the job is that, by an attempt of this alternative; its version counts
-- the flight's landings up to it
pub record IsRecordedSo (w : World) (s job flight tag alternative : ℕ) (ovn : List ℕ) (version : ℕ) : Type 0 where
  pub landing : Landing
  pub of_job : IsLandingOf w s job landing
  pub flight_is : landing.flight ≡ flight
  pub tag_is : landing.tag ≡ tag
  pub ovn_is : landing.ovn ≡ ovn
  pub alternative_is : of_job.trial.alternative ≡ alternative
  pub version_is : rank_of landing.flight landing.ovn w.service.landings ≡ version

abbrev pub NothingLanded : World → ℕ → ℕ → Type 0
NothingLanded w s job = (l : Landing) → IsLandingOf w s job l → ⊥

-- the answer speaks of the flight of a job's request
abbrev pub IsOfItsFlight : ℕ → Opening → ℕ → Type 0
IsOfItsFlight s o flight = flight ≡ flight_number s o.ask.flight

-- the final answer is true now, of a job of a supplier
abbrev pub IsTrueAnswer : World → ℕ → Opening → Answer → Type 0
IsTrueAnswer w s o (Answers.Planned flight tag alternative ovn version) = IsOfItsFlight s o flight × IsRecordedSo w s o.job flight tag alternative ovn version
IsTrueAnswer w s o (Answers.Changed flight tag alternative ovn version) = IsOfItsFlight s o flight × IsRecordedSo w s o.job flight tag alternative ovn version
IsTrueAnswer w s o (Answers.Ended flight) = IsOfItsFlight s o flight × (is_one_of flight w.service.retired_flights ≡ true)
IsTrueAnswer w s o (Answers.Conflict flight manager rule) = NothingLanded w s o.job
IsTrueAnswer w s o (Answers.Stale missing) = NothingLanded w s o.job
IsTrueAnswer w s o Answers.Cancelled = NothingLanded w s o.job
IsTrueAnswer w s o (Answers.Steady verdict) = Unit {0}
IsTrueAnswer w s o (Answers.Crowded count) = Unit {0}
IsTrueAnswer w s o (Answers.DssRefused number) = Unit {0}
IsTrueAnswer w s o (Answers.PeerRefused peer status) = Unit {0}
IsTrueAnswer w s o (Answers.Unsettled tag) = Unit {0}

-- it is true of the job of the request
pub record IsTrueOfRequest (w : World) (s flight number : ℕ) (answer : Answer) : Type 0 where
  pub opening : Opening
  pub job : job_of_request flight number (book_of s w) ≡ Some opening
  pub is_true : IsTrueAnswer w s opening answer

abbrev pub SaysTrue : World → Saying → Said → Type 0
SaysTrue w x (Says.Answer answer) = is_final answer ≡ true → IsTrueOfRequest w x.supplier x.flight x.number answer
SaysTrue w x _ = Unit {0}

-- what was said in the one world is true in the other
abbrev pub FinalAnswersAreTrue : World → World → Type 0
FinalAnswersAreTrue w v = (x : Saying) → Has w.sayings x → SaysTrue v x x.said

-- a landing of the job is recorded
pub record HasItsLanding (w : World) (s job : ℕ) : Type 0 where
  pub landing : Landing
  pub of_job : IsLandingOf w s job landing
  pub recorded : Recorded
  pub there : Has w.service.references recorded
  pub ovn : recorded.reference.ovn ≡ Some landing.ovn

-- a Put is refused since the flight is recorded already, or by another OVN; a ticket isn't taken out since a reference cites it
abbrev pub is_unsettling : DssAsk → DssRefusal → Bool
is_unsettling (Asks.Put flight ovn extents key state base ticket) Refuses.Exists = true
is_unsettling (Asks.Put flight ovn extents key state base ticket) Refuses.StaleOvn = true
is_unsettling (Asks.TicketRemove ticket version) Refuses.TicketInUse = true
is_unsettling ask refusal = false

-- such a refusal comes to an open job only where the job has its landing
abbrev pub RefusalsAreSettled : World → Type 0
RefusalsAreSettled w =
    (s answered : ℕ) (call : DssCall) (refusal : DssRefusal) → Has w.posts (Replied s answered call (Replies.Refused refusal)) →
    is_unsettling call.ask refusal ≡ true → is_open call.job (book_of s w) ≡ true → HasItsLanding w s call.job

-- while a job is open, its landing stays recorded
abbrev pub OpenLandingsStay : World → Type 0
OpenLandingsStay w =
    (s job : ℕ) (l : Landing) → is_open job (book_of s w) ≡ true → IsLandingOf w s job l → (r : Recorded) × Has w.service.references r × (r.reference.ovn ≡ Some l.ovn)

-- and the discovery service gives it to its supplier, who asks for the flight
pub record IsGot (w : World) (s flight : ℕ) (l : Landing) : Type 0 where
  pub reference : Reference
  pub reply : (service_step w.service (name_of s w) (Asks.Get flight)).0 ≡ Replies.Got reference
  pub ovn : reference.ovn ≡ Some l.ovn
  pub tag : tag_in reference ≡ l.tag

abbrev pub OpenLandingsAreGot : World → Type 0
OpenLandingsAreGot w =
    (s job : ℕ) (o : Opening) (l : Landing) → is_open job (book_of s w) ≡ true → opening_of job (book_of s w) ≡ Some o → IsLandingOf w s job l → IsGot w s (flight_number s o.ask.flight) l

-- of a flight, what is recorded is what its supplier holds: the same reference over the same extents, or nothing
pub record HoldsWhatIsRecorded (w : World) (s flight : ℕ) : Type 0 where
  pub recorded : (p : OperationalIntent) → held flight (book_of s w) ≡ Some p → (r : Recorded) × Has w.service.references r × (r.reference ≡ p.reference) × (r.extents ≡ Plans.extents_of p.details)
  pub absent : held flight (book_of s w) ≡ None → (r : Recorded) → Has w.service.references r → r.reference.flight ≡ flight_number s flight → ⊥

-- so it is while the flight has no open job and hasn't ended; and where it has ended, it is retired
pub record BooksAgree (w : World) : Type 0 where
  pub between_jobs : (s flight : ℕ) → flight < 2 ^ 64 → open_job_of flight (book_of s w) ≡ None → has_ended flight (book_of s w) ≡ false → HoldsWhatIsRecorded w s flight
  pub ended : (s flight : ℕ) → has_ended flight (book_of s w) ≡ true → is_one_of (flight_number s flight) w.service.retired_flights ≡ true
