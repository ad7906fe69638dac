-- What holds of every world that is reached.
use Rattle.std.proofs.Common.{ℕ, true, false, List, ◌≡◌, ◌⊎◌, Option, Some, IfSome}
use Rattle.std.specs.Option.{option_and_then}
use Rattle.uss_intent.specs.Identifiers.{flight_number, ticket_number}
use Rattle.uss_intent.specs.declared.records.Recorded.{Recorded}
use Rattle.uss_intent.specs.declared.records.Reference.{Reference}
use Rattle.uss_intent.specs.declared.records.Landing.{Landing}
use Rattle.uss_intent.specs.declared.calls.DssAsk.{DssAsk}
use Rattle.uss_intent.specs.declared.calls.DssAsk.TheVariants as Asks
use Rattle.uss_intent.specs.declared.calls.DssReply.{DssReply}
use Rattle.uss_intent.specs.declared.calls.DssReply.TheVariants as Replies
use Rattle.uss_intent.specs.declared.calls.DssRefusal.{DssRefusal}
use Rattle.uss_intent.specs.declared.calls.DssRefusal.TheVariants as Refuses
use Rattle.uss_intent.specs.States.{is_strategic}
use Rattle.uss_intent.specs.Numbers.{is_one_of}
use Rattle.uss_event.specs.Pairs.{OperationalIntent}
use Rattle.uss_event.specs.Verdicts.{verdict}
use Rattle.uss_event.specs.declared.rules.Verdict.TheVariants.{Clear}
use Rattle.uss_event.specs.declared.asks.Wish.TheVariants.{End}
use Rattle.uss_event.specs.declared.entries.Owner.{Owner}
use Rattle.uss_event.specs.declared.entries.Entry.{Entry}
use Rattle.uss_event.specs.declared.calls.DssCall.{DssCall}
use Rattle.uss_event.specs.declared.calls.PeerCall.{PeerCall}
use Rattle.uss_event.specs.declared.calls.PeerCall.TheVariants as Calls
use Rattle.uss_event.specs.declared.calls.PeerReply.TheVariants as Peers
use Rattle.uss_event.specs.declared.calls.Note.{Note}
use Rattle.uss_event.specs.declared.events.Answer.{Answer}
use Rattle.uss_event.specs.declared.events.Said.{Said}
use Rattle.uss_event.specs.declared.events.Said.TheVariants as Says
use Rattle.uss_law_dss.specs.Lists.{Has}
use Rattle.uss_law_dss.specs.Orderly.{IsOrderly}
use Rattle.uss_event.specs.declared.entries.Opening.{Opening}
use Rattle.uss_event.specs.declared.entries.Trial.{Trial}
use Rattle.uss_event.specs.declared.entries.Holding.{Holding}
use Rattle.uss_event.specs.declared.entries.Closing.{Closing}
use Rattle.uss_law_book.specs.Lists.{openings, trials, holdings, endings}
use Rattle.uss_law_book.specs.Contents.{trial_of, is_closed, is_ended}
use Rattle.uss_law_book.specs.Attempts.{Attempted, attempt_of, extents_of, put_of, recorded_as}
use Rattle.uss_event.specs.Heard.News.{Heard}
use Rattle.uss_law_duty.specs.Entered.{candidate_of}
use Rattle.uss_law_duty.specs.Answers.{is_final, by_trial, by_end}
use Rattle.uss_law_world.specs.World.{Supplier, Saying, World, supplier_in, book_of, heard_of, name_of}
use Rattle.uss_law_world.specs.World.Post.{Called, Replied, Asked, Answered}
use Rattle.uss_law_world.specs.Claims.{rank_of, Forbidden, IsLandingOf, is_unsettling}
use Rattle.uss_law_world.specs.Invariants.{HasLegalBook, WasDue, ShowsLanding, AreShown, IsTicketMadeOf, IsRemovedOf}

-- a landing with this OVN, of this supplier with this tag, and so many of its flight up to it
pub record HasLanding (w : World) (s tag : ℕ) (o : List ℕ) (n : ℕ) : Type 0 where
  pub landing : Landing
  pub landed : Has w.service.landings landing
  pub ovn : landing.ovn ≡ o
  pub manager : landing.manager ≡ name_of s w
  pub tag_is : landing.tag ≡ tag
  pub rank : rank_of landing.flight landing.ovn w.service.landings ≡ n

-- a pair is an attempt as it landed
pub record IsPairLanded (w : World) (p : OperationalIntent) : Type 0 where
  pub s : ℕ
  pub attempt : Attempted
  pub ovn : List ℕ
  pub version : ℕ
  pub found : attempt_of attempt.tag (book_of s w) ≡ Some attempt
  pub is : p ≡ recorded_as attempt ovn version
  pub landing : HasLanding w s attempt.tag ovn version

-- a landing is that of an attempt
pub record LandingFrom (w : World) (l : Landing) : Type 0 where
  pub s : ℕ
  pub attempt : Attempted
  pub found : attempt_of l.tag (book_of s w) ≡ Some attempt
  pub manager : l.manager ≡ attempt.manager
  pub flight : l.flight ≡ attempt.flight
  pub previous : l.previous ≡ attempt.previous
  pub ticket : l.ticket ≡ attempt.ticket

-- and so is a recorded reference
pub record RecordedFrom (w : World) (r : Recorded) : Type 0 where
  pub s : ℕ
  pub attempt : Attempted
  pub found : attempt_of attempt.tag (book_of s w) ≡ Some attempt
  pub flight : r.reference.flight ≡ attempt.flight
  pub manager : r.reference.manager ≡ attempt.manager
  pub state : r.reference.state ≡ attempt.state
  pub extents : r.extents ≡ extents_of attempt
  pub base : r.reference.base ≡ attempt.base
  pub ticket : r.reference.ticket ≡ attempt.ticket

-- the attempts of two recorded references aren't forbidden together
pub record AreApart (table : List ℕ) (w : World) (r q : Recorded) : Type 0 where
  pub first : RecordedFrom w r
  pub second : RecordedFrom w q
  pub apart : Forbidden table first.attempt second.attempt → ⊥

-- a call is that of an attempt, or names what the book recorded, or is of the job's ticket
pub record IsTriedPut (w : World) (s job : ℕ) (ask : DssAsk) : Type 0 where
  pub attempt : Attempted
  pub found : attempt_of attempt.tag (book_of s w) ≡ Some attempt
  pub its_job : attempt.job ≡ job
  pub is : ask ≡ put_of attempt

pub record NamesHeld (w : World) (s : ℕ) (ovn : List ℕ) : Type 0 where
  pub holding : Holding
  pub entered : Has (holdings (book_of s w)) holding
  pub ovn_is : holding.ovn ≡ ovn

-- a Remove is of a job that is to end its flight, and names what the book recorded
pub record IsEndOf (w : World) (s flight : ℕ) : Type 0 where
  pub opening : Opening
  pub opened : Has (openings (book_of s w)) opening
  pub end : opening.ask.wish ≡ End
  pub flight_is : flight ≡ flight_number s opening.ask.flight

pub record IsRemoveSent (w : World) (s flight : ℕ) (ovn : List ℕ) : Type 0 where
  pub names : NamesHeld w s ovn
  pub ends : IsEndOf w s flight

pub record IsTicketOf (w : World) (s job ticket : ℕ) : Type 0 where
  pub opening : Opening
  pub opened : Has (openings (book_of s w)) opening
  pub job_is : opening.job ≡ job
  pub ticket_is : ticket ≡ ticket_number s job

abbrev pub CallFrom : World → ℕ → ℕ → DssAsk → Type 0
CallFrom w s job (Asks.Put flight ovn extents key state base ticket) = IsTriedPut w s job (Asks.Put flight ovn extents key state base ticket)
CallFrom w s job (Asks.Remove flight ovn) = IsRemoveSent w s flight ovn
CallFrom w s job (Asks.TicketRemove ticket version) = IsTicketOf w s job ticket
CallFrom w s job _ = Unit {0}

pub record RefusedShows (w : World) (s job : ℕ) (ask : DssAsk) (refusal : DssRefusal) : Type 0 where
  pub there : refusal ≡ Refuses.Exists → IsTicketMadeOf w s ask
  pub retired : refusal ≡ Refuses.Retired → IsRemovedOf w ask
  pub missing : (references : List Reference) → refusal ≡ Refuses.MissingKey references → AreShown w s references
  pub settled : is_unsettling ask refusal ≡ true → (is_closed job (book_of s w) ≡ true) ⊎ ((l : Landing) × IsLandingOf w s job l)

abbrev pub ReplyShows : World → ℕ → ℕ → DssAsk → DssReply → Type 0
ReplyShows w s job ask (Replies.Found references) = AreShown w s references
ReplyShows w s job ask (Replies.Landed r subscribers) = ShowsLanding w s r
ReplyShows w s job ask (Replies.Got r) = ShowsLanding w s r
ReplyShows w s job ask (Replies.Removed r subscribers) = ShowsLanding w s r × IsRemovedOf w ask
ReplyShows w s job ask (Replies.TicketMade t) = IsTicketMadeOf w s ask
ReplyShows w s job ask (Replies.TicketRemoved t) = IsRemovedOf w ask
ReplyShows w s job ask (Replies.Refused refusal) = RefusedShows w s job ask refusal
ReplyShows w s job ask _ = Unit {0}

-- an OVN of an attempt's key is that of a landing against which the attempt is clear; what it changes is what it was held against
pub record IsClearOfPair (table : List ℕ) (w : World) (a : Attempted) (o : List ℕ) : Type 0 where
  pub pair : OperationalIntent
  pub made : IsPairLanded w pair
  pub ovn_is : pair.reference.ovn ≡ Some o
  pub previous : Option OperationalIntent
  pub previous_made : IfSome previous (IsPairLanded w)
  pub previous_is : option_and_then (λ (p : OperationalIntent). p.reference.ovn) previous ≡ a.previous
  pub clear : verdict table (candidate_of a) pair previous ≡ Clear

-- a landing was entered, or is recorded still
pub record IsEntered (w : World) (l : Landing) : Type 0 where
  pub s : ℕ
  pub names : NamesHeld w s l.ovn

pub record IsRecorded (w : World) (l : Landing) : Type 0 where
  pub recorded : Recorded
  pub there : Has w.service.references recorded
  pub ovn_is : recorded.reference.ovn ≡ Some l.ovn

abbrev pub IsStanding : World → Landing → Type 0
IsStanding w l = IsEntered w l ⊎ IsRecorded w l

-- a retired flight is one that a job is to end
pub record IsToEnd (w : World) (flight : ℕ) : Type 0 where
  pub s : ℕ
  pub ends : IsEndOf w s flight

-- the flight of a job that was to end it is retired
pub record IsFlightRetired (w : World) (s job : ℕ) : Type 0 where
  pub opening : Opening
  pub opened : Has (openings (book_of s w)) opening
  pub job_is : opening.job ≡ job
  pub end : opening.ask.wish ≡ End
  pub retired : is_one_of (flight_number s opening.ask.flight) w.service.retired_flights ≡ true

abbrev pub IsUntried : List Entry → ℕ → Type 0
IsUntried book job = (t : Trial) → Has (trials book) t → t.job ≡ job → ⊥

-- a job that ended otherwise has no attempt, or its ticket is retired
pub record EndingShows (w : World) (s : ℕ) (d : Closing) : Type 0 where
  pub ends : is_ended d.end ≡ true → IsFlightRetired w s d.job
  pub lands_nothing : is_ended d.end ≡ false → IsUntried (book_of s w) d.job ⊎ (is_one_of (ticket_number s d.job) w.service.retired_tickets ≡ true)

-- an answer by what was recorded, or by how the job ended
pub record IsByHolding (book : List Entry) (s : ℕ) (o : Opening) (answer : Answer) : Type 0 where
  pub holding : Holding
  pub trial : Trial
  pub entered : Has (holdings book) holding
  pub job : holding.job ≡ o.job
  pub tried : trial_of holding.tag book ≡ Some trial
  pub is : by_trial (flight_number s o.ask.flight) holding (Some trial) ≡ Some answer

pub record IsByClosing (book : List Entry) (s : ℕ) (o : Opening) (answer : Answer) : Type 0 where
  pub closing : Closing
  pub entered : Has (endings book) closing
  pub job : closing.job ≡ o.job
  pub is : by_end (flight_number s o.ask.flight) closing.end ≡ answer

pub record IsKept (book : List Entry) (s flight number : ℕ) (answer : Answer) : Type 0 where
  pub opening : Opening
  pub opened : Has (openings book) opening
  pub flight_is : opening.ask.flight ≡ flight
  pub number_is : opening.ask.number ≡ number
  pub keeps : IsByHolding book s opening answer ⊎ IsByClosing book s opening answer

abbrev pub SaidIsKept : List Entry → ℕ → ℕ → ℕ → Said → Type 0
SaidIsKept book s flight number (Says.Answer answer) = is_final answer ≡ true → IsKept book s flight number answer
SaidIsKept book s flight number _ = Unit {0}

-- all of it
pub record Facts (table : List ℕ) (owners : List Owner) (w : World) : Type 0 where
  pub service : IsOrderly w.service
  pub suppliers : (s : ℕ) (x : Supplier) → supplier_in s w.suppliers ≡ Some x → HasLegalBook owners x
  pub calls : (s : ℕ) (call : DssCall) → Has w.posts (Called s call) → CallFrom w s call.job call.ask
  pub due : (s : ℕ) (call : DssCall) → Has w.posts (Called s call) → WasDue w s call
  pub replies : (s k : ℕ) (call : DssCall) (reply : DssReply) → Has w.posts (Replied s k call reply) → ReplyShows w s call.job call.ask reply
  pub said : (x : Saying) (p : OperationalIntent) → Has w.sayings x → x.said ≡ Says.Pair (Some p) → IsPairLanded w p
  pub served : (s k : ℕ) (call : PeerCall) (p : OperationalIntent) → Has w.posts (Answered s k call (Peers.Served p)) → IsPairLanded w p
  pub notes : (s : ℕ) (to : Option ℕ) (job index : ℕ) (base : List ℕ) (note : Note) (p : OperationalIntent) → Has w.posts (Asked s to (Calls.Notify job index base note)) → note.pair ≡ Some p → IsPairLanded w p
  pub heard : (s : ℕ) (p : OperationalIntent) → Has (heard_of s w) (Heard p) → IsPairLanded w p
  pub entered : (s : ℕ) (h : Holding) → Has (holdings (book_of s w)) h → HasLanding w s h.tag h.ovn h.version
  pub keys : (s tag : ℕ) (a : Attempted) → attempt_of tag (book_of s w) ≡ Some a → is_strategic a.state ≡ true → (o : List ℕ) → Has a.key o → IsClearOfPair table w a o
  pub landings : (l : Landing) → Has w.service.landings l → LandingFrom w l
  pub recorded : (r : Recorded) → Has w.service.references r → RecordedFrom w r
  pub apart : (r q : Recorded) → Has w.service.references r → Has w.service.references q → AreApart table w r q
  pub standing : (l : Landing) → Has w.service.landings l → IsStanding w l
  pub retired : (n : ℕ) → is_one_of n w.service.retired_flights ≡ true → IsToEnd w n
  pub closed : (s : ℕ) (d : Closing) → Has (endings (book_of s w)) d → EndingShows w s d
  pub sayings : (x : Saying) → Has w.sayings x → SaidIsKept (book_of x.supplier w) x.supplier x.flight x.number x.said
