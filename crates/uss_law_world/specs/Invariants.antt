-- What holds of the world after every free list of moves, beside the claims: of books and the calls that were sent, of landings, of what
-- the discovery service replied, of keys, and of what is recorded while a job is open and after it is closed. This project's own.
use Rattle.std.specs.Prelude.{ℕ, ◌<◌, ◌^◌, ◌≡◌, ◌⊎◌, true, false, List, ◌++◌, Option, Some, IfSome}
use Rattle.std.specs.Option.{option_and_then}
use Rattle.uss_intent.specs.Identifiers.{flight_number, ticket_number}
use Rattle.uss_intent.specs.Numbers.{is_one_of}
use Rattle.uss_intent.specs.States.{is_strategic}
use Rattle.uss_intent.specs.declared.records.Landing.{Landing}
use Rattle.uss_intent.specs.declared.records.Recorded.{Recorded}
use Rattle.uss_intent.specs.declared.records.Reference.{Reference}
use Rattle.uss_intent.specs.declared.records.Ticket.{Ticket}
use Rattle.uss_intent.specs.declared.calls.DssAsk.{DssAsk}
use Rattle.uss_intent.specs.declared.calls.DssAsk.TheVariants as Asks
use Rattle.uss_intent.specs.declared.calls.DssReply.{DssReply}
use Rattle.uss_intent.specs.declared.calls.DssReply.TheVariants as Replies
use Rattle.uss_intent.specs.declared.calls.DssRefusal.TheVariants as Refuses
use Rattle.uss_event.specs.Pairs.{OperationalIntent}
use Rattle.uss_event.specs.Verdicts.{verdict}
use Rattle.uss_event.specs.declared.rules.Verdict.TheVariants.{Clear}
use Rattle.uss_event.specs.declared.asks.Wish.TheVariants.{End}
use Rattle.uss_event.specs.declared.entries.Owner.{Owner}
use Rattle.uss_event.specs.declared.entries.Entry.{Entry}
use Rattle.uss_event.specs.declared.calls.DssCall.{DssCall}
use Rattle.uss_law_dss.specs.Lists.{Has}
use Rattle.uss_law_dss.specs.Service.{recorded_of}
use Rattle.uss_event.specs.declared.entries.Opening.{Opening}
use Rattle.uss_event.specs.declared.entries.Trial.{Trial}
use Rattle.uss_event.specs.declared.entries.Holding.{Holding}
use Rattle.uss_law_book.specs.Lists.{owner_of, trials, holdings}
use Rattle.uss_law_book.specs.Contents.{opening_of, open_job_of, has_ended, is_open, is_done, is_put, current_ovn_of}
use Rattle.uss_law_book.specs.Attempts.{Attempted, attempt_of, recorded_as}
use Rattle.uss_law_book.specs.Legal.{IsLegal}
use Rattle.uss_law_duty.specs.Sends.{RecordsAreDue, TicketsAreDue, RemovalsAreDue}
use Rattle.uss_law_duty.specs.Entered.{candidate_of}
use Rattle.uss_law_world.specs.World.{Supplier, World, supplier_in, book_of, name_of}
use Rattle.uss_law_world.specs.World.Post.{Called, Replied}
use Rattle.uss_law_world.specs.Claims.{tag_in, rank_of, IsMade, IsLandingOf, NothingLanded, HoldsWhatIsRecorded}

-- the supplier is one of these owners, and its book is legal and says so
pub record HasLegalBook (owners : List Owner) (x : Supplier) : Type 0 where
  pub legal : IsLegal x.book
  pub own : owner_of x.book ≡ Some x.owner
  pub one : Has owners x.owner

abbrev pub BooksAreLegal : List Owner → World → Type 0
BooksAreLegal owners w = (s : ℕ) (x : Supplier) → supplier_in s w.suppliers ≡ Some x → HasLegalBook owners x

-- a supplier's call of the discovery service was due when it was sent: the duties allow it at a beginning of the supplier's book
pub record WasDue (w : World) (s : ℕ) (call : DssCall) : Type 0 where
  pub before : List Entry
  pub more : List Entry
  pub book_is : book_of s w ≡ before ++ more
  pub owner : Owner
  pub owns_book : owner_of before ≡ Some owner
  pub number : owner.number ≡ s
  pub records : RecordsAreDue owner before call.job call.ask
  pub tickets : TicketsAreDue owner before call.job call.ask
  pub ticket_removals : RemovalsAreDue owner before call.job call.ask

abbrev pub EachCallWasDue : World → Type 0
EachCallWasDue w = (s : ℕ) (call : DssCall) → Has w.posts (Called s call) → WasDue w s call

-- the attempt of a landing: that of its manager's book with its tag
pub record IsTriedAs (w : World) (l : Landing) (a : Attempted) : Type 0 where
  pub supplier : ℕ
  pub manager : l.manager ≡ name_of supplier w
  pub found : attempt_of l.tag (book_of supplier w) ≡ Some a

-- the landing has what the attempt has
pub record LandsAs (l : Landing) (a : Attempted) : Type 0 where
  pub manager : l.manager ≡ a.manager
  pub tag : l.tag ≡ a.tag
  pub flight : l.flight ≡ a.flight
  pub previous : l.previous ≡ a.previous
  pub ticket : l.ticket ≡ a.ticket

-- each landing has exactly one attempt, and has its flight, previous OVN and ticket
pub record EachLandingIsTried (w : World) : Type 0 where
  pub some : (l : Landing) → Has w.service.landings l → (a : Attempted) × IsTriedAs w l a × LandsAs l a
  pub one : (l : Landing) (a b : Attempted) → Has w.service.landings l → IsTriedAs w l a → IsTriedAs w l b → a ≡ b

-- the reference that a supplier is shown with its OVN is that of an attempt of the supplier as it landed, and its version counts the
-- flight's landings up to this one
pub record IsShownAsLanded (w : World) (s : ℕ) (r : Reference) (ovn : List ℕ) : Type 0 where
  pub landing : Landing
  pub landed : Has w.service.landings landing
  pub ovn_is : landing.ovn ≡ ovn
  pub manager : landing.manager ≡ name_of s w
  pub flight : landing.flight ≡ r.flight
  pub tag : landing.tag ≡ tag_in r
  pub version : rank_of landing.flight landing.ovn w.service.landings ≡ r.version
  pub attempt : Attempted
  pub found : attempt_of (tag_in r) (book_of s w) ≡ Some attempt
  pub is : r ≡ (recorded_as attempt ovn r.version).reference

-- and so it is wherever a reference shows an OVN
abbrev pub ShowsLanding : World → ℕ → Reference → Type 0
ShowsLanding w s r = (ovn : List ℕ) → r.ovn ≡ Some ovn → IsShownAsLanded w s r ovn

abbrev pub AreShown : World → ℕ → List Reference → Type 0
AreShown w s references = (r : Reference) → Has references r → ShowsLanding w s r

-- the supplier's ticket is there
pub record IsTicketThere (w : World) (s ticket : ℕ) : Type 0 where
  pub found : Ticket
  pub there : Has w.service.tickets found
  pub id : found.id ≡ ticket
  pub manager : found.manager ≡ name_of s w

-- the supplier's ticket is there, or was removed
abbrev pub IsTicketThereOrGone : World → ℕ → ℕ → Type 0
IsTicketThereOrGone w s ticket = IsTicketThere w s ticket ⊎ (is_one_of ticket w.service.retired_tickets ≡ true)

-- the ticket that a call is to make is there, or was removed since
abbrev pub IsTicketMadeOf : World → ℕ → DssAsk → Type 0
IsTicketMadeOf w s (Asks.TicketPut ticket area base) = IsTicketThereOrGone w s ticket
IsTicketMadeOf w s _ = Unit {0}

-- the flight, or the ticket, that a call names was removed
abbrev pub IsRemovedOf : World → DssAsk → Type 0
IsRemovedOf w (Asks.Query area) = Unit {0}
IsRemovedOf w (Asks.Get flight) = is_one_of flight w.service.retired_flights ≡ true
IsRemovedOf w (Asks.Put flight ovn extents key state base ticket) = is_one_of flight w.service.retired_flights ≡ true
IsRemovedOf w (Asks.Remove flight ovn) = is_one_of flight w.service.retired_flights ≡ true
IsRemovedOf w (Asks.TicketPut ticket area base) = is_one_of ticket w.service.retired_tickets ≡ true
IsRemovedOf w (Asks.TicketGet ticket) = is_one_of ticket w.service.retired_tickets ≡ true
IsRemovedOf w (Asks.TicketRemove ticket version) = is_one_of ticket w.service.retired_tickets ≡ true

-- what a reply to a supplier's call showed is so: that references landed, that a ticket is there, or that the flight or the ticket was
-- removed, now or before
abbrev pub IsSo : World → ℕ → DssAsk → DssReply → Type 0
IsSo w s ask (Replies.Found references) = AreShown w s references
IsSo w s ask (Replies.Got r) = ShowsLanding w s r
IsSo w s ask (Replies.Landed r subscribers) = ShowsLanding w s r
IsSo w s ask (Replies.Removed r subscribers) = ShowsLanding w s r × IsRemovedOf w ask
IsSo w s ask (Replies.TicketMade t) = IsTicketMadeOf w s ask
IsSo w s ask (Replies.TicketGot t) = Unit {0}
IsSo w s ask (Replies.TicketRemoved t) = IsRemovedOf w ask
IsSo w s ask (Replies.Refused Refuses.Exists) = IsTicketMadeOf w s ask
IsSo w s ask (Replies.Refused Refuses.Retired) = IsRemovedOf w ask
IsSo w s ask (Replies.Refused (Refuses.MissingKey references)) = AreShown w s references
IsSo w s ask (Replies.Refused _) = Unit {0}

-- what the replies of the one world showed is so in the other
abbrev pub RepliesAreSo : World → World → Type 0
RepliesAreSo w v =
    (s answered : ℕ) (call : DssCall) (reply : DssReply) → Has w.posts (Replied s answered call reply) → IsSo v s call.ask reply

-- an OVN of an attempt's key is that of a landing against whose attempt, as it landed, the attempt is clear; what the attempt changes is
-- the attempt of the landing that its previous OVN names, as that landed
pub record IsClearOfLanding (table : List ℕ) (w : World) (a : Attempted) (ovn : List ℕ) : Type 0 where
  pub pair : OperationalIntent
  pub made : IsMade w pair
  pub ovn_is : pair.reference.ovn ≡ Some ovn
  pub previous : Option OperationalIntent
  pub previous_made : IfSome previous (IsMade w)
  pub previous_is : option_and_then (λ (p : OperationalIntent). p.reference.ovn) previous ≡ a.previous
  pub clear : verdict table (candidate_of a) pair previous ≡ Clear

abbrev pub KeysAreClear : List ℕ → World → Type 0
KeysAreClear table w =
    (s tag : ℕ) (a : Attempted) → attempt_of tag (book_of s w) ≡ Some a → is_strategic a.state ≡ true →
    (ovn : List ℕ) → Has a.key ovn → IsClearOfLanding table w a ovn

-- the supplier's flight with a number is retired, or it isn't
abbrev pub IsRetired : World → ℕ → ℕ → Type 0
IsRetired w s flight = is_one_of (flight_number s flight) w.service.retired_flights ≡ true

abbrev pub IsUnretired : World → ℕ → ℕ → Type 0
IsUnretired w s flight = is_one_of (flight_number s flight) w.service.retired_flights ≡ false

-- nothing is recorded of the flight
abbrev pub IsUnrecorded : World → ℕ → ℕ → Type 0
IsUnrecorded w s flight = (r : Recorded) → Has w.service.references r → r.reference.flight ≡ flight_number s flight → ⊥

-- the job has no landing, and what is recorded of its flight is what was before: what is held
pub record IsAsBefore (w : World) (s : ℕ) (o : Opening) : Type 0 where
  pub nothing : NothingLanded w s o.job
  pub held : HoldsWhatIsRecorded w s o.ask.flight

-- what is recorded of the flight is a landing of the job, which changed the flight's current OVN and cites the job's ticket
pub record IsByTheJob (w : World) (s : ℕ) (o : Opening) : Type 0 where
  pub landing : Landing
  pub of_job : IsLandingOf w s o.job landing
  pub current : landing.previous ≡ current_ovn_of o.ask.flight (book_of s w)
  pub recorded : Recorded
  pub found : recorded_of (flight_number s o.ask.flight) w.service ≡ Some recorded
  pub ovn : recorded.reference.ovn ≡ Some landing.ovn
  pub ticket : recorded.reference.ticket ≡ ticket_number s o.job

-- an open job is to end the flight
pub record IsBeingEnded (book : List Entry) (flight : ℕ) : Type 0 where
  pub opening : Opening
  pub open_job : open_job_of flight book ≡ Some opening
  pub end : opening.ask.wish ≡ End

-- the flights of open jobs, and those that are retired, at the discovery service
pub record OpenJobsAgree (w : World) : Type 0 where
  -- while a job is open that is to record something, its flight isn't retired, and what is recorded of it is what was before, or the job's
  -- landing
  pub puts : (s job : ℕ) (o : Opening) → is_open job (book_of s w) ≡ true → opening_of job (book_of s w) ≡ Some o
      → is_put o.ask.wish ≡ true
      → IsUnretired w s o.ask.flight × (IsAsBefore w s o ⊎ IsByTheJob w s o)
  -- while one is open that is to end its flight, what is recorded of that is what is held, or the flight is retired
  pub ends : (s job : ℕ) (o : Opening) → is_open job (book_of s w) ≡ true → opening_of job (book_of s w) ≡ Some o
      → o.ask.wish ≡ End
      → (IsUnretired w s o.ask.flight × HoldsWhatIsRecorded w s o.ask.flight)
      ⊎ (IsRetired w s o.ask.flight × IsUnrecorded w s o.ask.flight)
  -- a retired flight has ended, or an open job is to end it
  pub retired : (s flight : ℕ) → flight < 2 ^ 64 → IsRetired w s flight
      → (has_ended flight (book_of s w) ≡ true) ⊎ IsBeingEnded (book_of s w) flight

-- what a closed job recorded is its one landing
pub record HasItsOneLanding (w : World) (s : ℕ) (h : Holding) : Type 0 where
  pub landing : Landing
  pub of_job : IsLandingOf w s h.job landing
  pub tag : landing.tag ≡ h.tag
  pub ovn : landing.ovn ≡ h.ovn
  pub version : rank_of landing.flight landing.ovn w.service.landings ≡ h.version
  pub one : (l : Landing) → IsLandingOf w s h.job l → l ≡ landing

-- which jobs have a landing
pub record JobsLandWhatTheyHold (w : World) : Type 0 where
  pub held : (s : ℕ) (h : Holding) → Has (holdings (book_of s w)) h → HasItsOneLanding w s h
  -- a job that ended without a record has none, and where it made an attempt, its ticket is retired
  pub ended : (s job : ℕ) → is_done job (book_of s w) ≡ true → NothingLanded w s job
  pub lost : (s : ℕ) (t : Trial) → Has (trials (book_of s w)) t → is_done t.job (book_of s w) ≡ true
      → is_one_of (ticket_number s t.job) w.service.retired_tickets ≡ true
  -- an open job whose ticket is retired has none
  pub losing : (s job : ℕ) → is_open job (book_of s w) ≡ true → is_one_of (ticket_number s job) w.service.retired_tickets ≡ true
      → NothingLanded w s job
