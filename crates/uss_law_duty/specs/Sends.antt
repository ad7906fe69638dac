-- What a supplier may send: the calls of its jobs, as its book has them with the entry of the same step, if there is one. The calls are
-- those of the OpenAPI annex of ASTM F3548-21; when they may be made is this project's own.
use Rattle.std.specs.Prelude.{ℕ, ◌≡◌, ◌⊎◌, true, false, List, ◌++◌, Some, is_some, IfSome}
use Rattle.std.specs.List.{flat_map}
use Rattle.uss_vol4.specs.Volume.{Volume4D}
use Rattle.uss_vol4.specs.Bounding.{bounding_box, volume_of}
use Rattle.uss_intent.specs.Identifiers.{ticket_number}
use Rattle.uss_intent.specs.declared.calls.DssAsk.{DssAsk}
use Rattle.uss_intent.specs.declared.calls.DssAsk.TheVariants as Asks
use Rattle.uss_event.specs.Pairs.{OperationalIntent}
use Rattle.uss_event.specs.declared.details.Proposal.{Proposal}
use Rattle.uss_event.specs.declared.asks.Wish.{Wish}
use Rattle.uss_event.specs.declared.asks.Wish.TheVariants.{Put, End}
use Rattle.uss_event.specs.declared.entries.Owner.{Owner}
use Rattle.uss_event.specs.declared.entries.Entry.{Entry}
use Rattle.uss_event.specs.declared.calls.PeerCall.{PeerCall}
use Rattle.uss_event.specs.declared.calls.PeerCall.TheVariants as Calls
use Rattle.uss_event.specs.declared.calls.Outgoing.{Outgoing}
use Rattle.uss_event.specs.declared.calls.Outgoing.TheVariants as Goes
use Rattle.uss_event.specs.declared.entries.Opening.{Opening}
use Rattle.uss_law_book.specs.Contents.{opening_of, is_closed, is_open, decision_of, current_ovn_of, is_ticket_open, is_ticket_needed}
use Rattle.uss_law_book.specs.Attempts.{Attempted, attempt_of, put_of, held}
use Rattle.uss_law_duty.specs.Answers.{flight_of}

-- a Put is that of an attempt of an open job
pub record IsPutOf (book : List Entry) (job : ℕ) (ask : DssAsk) : Type 0 where
  pub attempt : Attempted
  pub found : attempt_of attempt.tag book ≡ Some attempt
  pub its_job : attempt.job ≡ job
  pub unfinished : is_open job book ≡ true
  pub is : ask ≡ put_of attempt

-- a Remove is that of an open job that is to end its flight, and names what is recorded of the flight
pub record IsRemoveOf (owner : Owner) (book : List Entry) (job : ℕ) (ask : DssAsk) : Type 0 where
  pub opening : Opening
  pub ovn : List ℕ
  pub opened : opening_of job book ≡ Some opening
  pub end : opening.ask.wish ≡ End
  pub unclosed : is_closed job book ≡ false
  pub base : current_ovn_of opening.ask.flight book ≡ Some ovn
  pub is : ask ≡ Asks.Remove (flight_of owner opening) ovn

-- all extents of all alternatives
abbrev pub all_extents : List Proposal → List Volume4D
all_extents proposals = flat_map (λ (p : Proposal). p.volumes ++ p.off_nominal) proposals

-- the area of a job's ticket: the rectangle round all extents of all alternatives
abbrev pub area_round : List Proposal → Volume4D
area_round proposals = volume_of (bounding_box (all_extents proposals))

-- the call that makes a job's ticket, to be notified at the configured base URL
abbrev pub ticket_put : Owner → ℕ → List Proposal → DssAsk
ticket_put owner job proposals = Asks.TicketPut (ticket_number owner.number job) (area_round proposals) owner.base

-- the wish has these alternatives
abbrev pub HasProposals : Wish → List Proposal → Type 0
HasProposals (Put to priority rounds given) proposals = given ≡ proposals
HasProposals End proposals = ⊥

-- it is that of a job that is to record something
pub record IsTicketPutOf (owner : Owner) (book : List Entry) (job : ℕ) (ask : DssAsk) : Type 0 where
  pub opening : Opening
  pub proposals : List Proposal
  pub opened : opening_of job book ≡ Some opening
  pub put : HasProposals opening.ask.wish proposals
  pub is : ask ≡ ticket_put owner job proposals

-- the call that takes a job's ticket out
abbrev pub ticket_remove : Owner → ℕ → DssAsk
ticket_remove owner job = Asks.TicketRemove (ticket_number owner.number job) 1

-- the job makes no further attempt, or it is closed and its ticket isn't needed
abbrev pub MayLose : List Entry → ℕ → Type 0
MayLose book job =
    ((is_open job book ≡ true) × (is_some (decision_of job book) ≡ true)) ⊎ ((is_closed job book ≡ true) × (is_ticket_needed job book ≡ false))

pub record IsTicketRemoveOf (owner : Owner) (book : List Entry) (job : ℕ) (ask : DssAsk) : Type 0 where
  pub is : ask ≡ ticket_remove owner job
  pub heard_open : is_ticket_open job book ≡ true
  pub may : MayLose book job

-- a sent Put records an attempt of an open job, and a sent Remove ends what is recorded for an open job
abbrev pub RecordsAreDue : Owner → List Entry → ℕ → DssAsk → Type 0
RecordsAreDue owner book job (Asks.Put flight ovn extents key state base ticket) = IsPutOf book job (Asks.Put flight ovn extents key state base ticket)
RecordsAreDue owner book job (Asks.Remove flight ovn) = IsRemoveOf owner book job (Asks.Remove flight ovn)
RecordsAreDue owner book job _ = Unit {0}

-- a ticket is asked for by an open job
abbrev pub TicketsAreDue : Owner → List Entry → ℕ → DssAsk → Type 0
TicketsAreDue owner book job (Asks.TicketPut ticket area base) = IsTicketPutOf owner book job (Asks.TicketPut ticket area base) × (is_open job book ≡ true)
TicketsAreDue owner book job _ = Unit {0}

-- a ticket is taken out where no attempt of its job is to be recorded any more, and what was recorded doesn't cite it
abbrev pub RemovalsAreDue : Owner → List Entry → ℕ → DssAsk → Type 0
RemovalsAreDue owner book job (Asks.TicketRemove ticket version) = IsTicketRemoveOf owner book job (Asks.TicketRemove ticket version)
RemovalsAreDue owner book job _ = Unit {0}

-- a pair is what the book holds of one of the owner's flights
pub record IsHeldPair (book : List Entry) (p : OperationalIntent) : Type 0 where
  pub flight : ℕ
  pub is : held flight book ≡ Some p

-- the pair of a note is held
abbrev pub NotesAreHeld : List Entry → PeerCall → Type 0
NotesAreHeld book (Calls.Details job flight manager base) = Unit {0}
NotesAreHeld book (Calls.Notify job index base note) = IfSome note.pair (IsHeldPair book)

-- each of these, of a call of the discovery service or of another supplier
abbrev pub OfDss : (ℕ → DssAsk → Type 0) → Outgoing → Type 0
OfDss P (Goes.Dss call) = P call.job call.ask
OfDss P (Goes.Peer call) = Unit {0}

abbrev pub OfPeer : (PeerCall → Type 0) → Outgoing → Type 0
OfPeer P (Goes.Dss call) = Unit {0}
OfPeer P (Goes.Peer call) = P call
