-- What one step of a supplier may do: from its book, what it heard, the moment and an event, to at most one entry, sends and a saying.
-- The moment is one within the range of instants. This project's own, after the strategic coordination of ASTM F3548-21.
use Rattle.std.specs.Prelude.{ℕ, ◌≡◌, ◌⊎◌, ℤ, pos, Bool, true, false, not, ◌&&◌, List, [], ◌∷◌, ◌++◌, length, Option, Some, None, is_some, IfSome}
use Rattle.std.specs.Int.{int_min, int_max}
use Rattle.uss_vol4.specs.Volume.{earliest, latest}
use Rattle.uss_intent.specs.declared.calls.DssAsk.{DssAsk}
use Rattle.uss_intent.specs.declared.calls.DssAsk.TheVariants as Asks
use Rattle.uss_event.specs.declared.entries.Owner.{Owner}
use Rattle.uss_event.specs.declared.entries.Entry.{Entry}
use Rattle.uss_event.specs.declared.calls.PeerCall.{PeerCall}
use Rattle.uss_event.specs.declared.calls.PeerCall.TheVariants as Calls
use Rattle.uss_event.specs.declared.calls.Outgoing.{Outgoing}
use Rattle.uss_event.specs.declared.events.Said.{Said}
use Rattle.uss_event.specs.declared.events.Said.TheVariants as Says
use Rattle.uss_event.specs.declared.events.Event.{Event}
use Rattle.uss_event.specs.declared.events.Event.TheVariants as Comes
use Rattle.uss_law_dss.specs.Lists.{Has}
use Rattle.uss_law_book.specs.Lists.{owner_of}
use Rattle.uss_law_book.specs.Contents.{opening_of, is_closed}
use Rattle.uss_law_book.specs.Legal.{MayFollow}
use Rattle.uss_event.specs.Heard.{News, brought}
use Rattle.uss_law_duty.specs.Answers.{job_of_call}
use Rattle.uss_law_duty.specs.Sends.{OfDss, OfPeer, RecordsAreDue, TicketsAreDue, RemovalsAreDue, NotesAreHeld}
use Rattle.uss_law_duty.specs.Entered.{KeyIsClear, HeldIsShown, RemovalIsShown, TicketIsShown}
use Rattle.uss_law_duty.specs.Sayings.{PairIsHeld, FinalIsKept, SayingHasCause}

-- the book with the entry, if there is one
abbrev pub book_after : List Entry → Option Entry → List Entry
book_after book None = book
book_after book (Some e) = book ++ e ∷ []

-- what was heard grows by what the event brings, or not at all
abbrev pub HearsOnly : List News → Event → List News → Type 0
HearsOnly heard event after = (after ≡ heard) ⊎ (after ≡ heard ++ brought event)

abbrev pub is_ticket_remove : DssAsk → Bool
is_ticket_remove (Asks.TicketRemove ticket version) = true
is_ticket_remove _ = false

abbrev pub is_notify : PeerCall → Bool
is_notify (Calls.Details job flight manager base) = false
is_notify (Calls.Notify job index base note) = true

-- a reply to a call of a job, but not to a chore of a closed one: to take its ticket out, or to notify
abbrev pub is_awaited : ℕ → Bool → List Entry → Bool
is_awaited job is_chore book = is_some (opening_of job book) && not (is_chore && is_closed job book)

-- someone waits for what comes of the event
abbrev pub is_prompting : Event → List Entry → Bool
is_prompting (Comes.Ask ask) book = true
is_prompting (Comes.Cancel flight number) book = true
is_prompting (Comes.Position ask) book = true
is_prompting (Comes.Dss call reply) book = is_awaited call.job (is_ticket_remove call.ask) book
is_prompting (Comes.Peer call reply) book = is_awaited (job_of_call call) (is_notify call) book
is_prompting _ book = false

abbrev pub says_something : Said → Bool
says_something Says.Nothing = false
says_something _ = true

-- then the step says something, or makes exactly one call
abbrev pub GoesOn : Event → List Entry → List Outgoing → Said → Type 0
GoesOn event book sends said = is_prompting event book ≡ true → (says_something said ≡ true) ⊎ (length sends ≡ 1)

-- what a step of a supplier comes to: an entry or none, the calls that it makes, what it says, and what it has heard then
pub record Choice : Type 0 where
  pub entry : Option Entry
  pub sends : List Outgoing
  pub said : Said
  pub heard : List News

-- a moment within the range of instants, 2000-01-01 to 2200-01-01: one outside is taken as the nearest bound
unfoldable pub clamped : ℤ → ℤ
clamped moment = int_max earliest (int_min moment latest)

-- what a step may enter, send and say, whatever was heard before
pub record MayAct (book : List Entry) (moment : ℤ) (event : Event) (entry : Option Entry) (sends : List Outgoing) (said : Said) : Type 0 where
  pub owner : Owner
  pub owns_book : owner_of book ≡ Some owner
  -- each Put and each Remove that is sent is one of an open job, as the book with the new entry has it
  pub records : (x : Outgoing) → Has sends x → OfDss (RecordsAreDue owner (book_after book entry)) x
  -- what is said or noted of a flight is what is held of it, and that is entered only as a reply shows it
  pub pair : PairIsHeld (book_after book entry) said
  pub notes : (x : Outgoing) → Has sends x → OfPeer (NotesAreHeld (book_after book entry)) x
  pub held : IfSome entry (HeldIsShown owner book event)
  -- the end of a flight, and of a ticket, is entered only as a reply shows it
  pub removals : IfSome entry (RemovalIsShown owner book event)
  -- that a ticket is there is entered only as a reply shows it, and it is asked for only by a job that is open and to record something
  pub tickets : IfSome entry (TicketIsShown owner book event)
  pub ticket_calls : (x : Outgoing) → Has sends x → OfDss (TicketsAreDue owner (book_after book entry)) x
  -- a ticket is taken out only where nothing is to be recorded any more that cites it
  pub ticket_removals : (x : Outgoing) → Has sends x → OfDss (RemovalsAreDue owner (book_after book entry)) x
  -- the book stays legal
  pub legal : IfSome entry (MayFollow book)
  -- a final answer is the one that the book keeps
  pub final : FinalIsKept owner (book_after book entry) event said
  -- each other answer has its cause
  pub cause : SayingHasCause owner book moment event said
  -- nobody is left without an answer or a next call
  pub goes_on : GoesOn event book sends said

-- and what it may do where so much was heard
pub record MayStep (book : List Entry) (heard : List News) (moment : ℤ) (event : Event) (entry : Option Entry) (sends : List Outgoing) (said : Said) (heard_after : List News) : Type 0 where
  pub acts : MayAct book moment event entry sends said
  -- an attempt's key has the OVNs of pairs that were heard or are held, and against which the attempt is clear
  pub keys : IfSome entry (KeyIsClear acts.owner book heard event)
  -- nothing is heard that wasn't told
  pub hears : HearsOnly heard event heard_after
