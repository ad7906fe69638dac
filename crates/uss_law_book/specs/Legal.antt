-- What a legal book is, entry by entry. This project's own.
use Rattle.std.specs.Prelude.{ℕ, ◌+◌, ◌<◌, ◌≤◌, ◌≡◌, ◌⊎◌, Bool, true, false, List, [], ◌∷◌, ◌++◌, length, Option, Some, None, IfSome, All, IsTrue, is_some}
use Rattle.uss_intent.specs.Limits.{most_ovns}
use Rattle.uss_intent.specs.declared.records.State.{State}
use Rattle.uss_intent.specs.States.{is_strategic}
use Rattle.uss_event.specs.Plans.{is_plan}
use Rattle.uss_event.specs.Transitions.{may_go}
use Rattle.uss_event.specs.declared.details.Proposal.{Proposal}
use Rattle.uss_event.specs.declared.asks.Wish.{Wish}
use Rattle.uss_event.specs.declared.asks.Wish.TheVariants.{Put, End}
use Rattle.uss_event.specs.declared.asks.FlightAsk.{FlightAsk}
use Rattle.uss_event.specs.declared.entries.Ending.{Ending}
use Rattle.uss_event.specs.declared.entries.Ending.TheVariants.{Conflict, Stale, Cancelled, Ended}
use Rattle.uss_event.specs.declared.entries.Entry.{Entry}
use Rattle.uss_event.specs.declared.entries.Entry.TheVariants.{Opened, TicketOpen, Pending, Held, Deciding, Done, TicketGone, Sent}
use Rattle.uss_event.specs.declared.entries.Entry.TheVariants as Enters
use Rattle.uss_event.specs.declared.entries.Opening.{Opening}
use Rattle.uss_law_book.specs.Lists.{openings, trials}
use Rattle.uss_law_book.specs.Contents.{opening_of, is_closed, is_open, open_job_of, last_of, has_ended, trials_of, owns, decision_of, current_ovn_of, is_put_job, is_ticket_open, is_ticket_gone, is_ticket_needed, owed_of, is_sent}
use Rattle.uss_law_book.specs.Attempts.{held_state}
use Rattle.uss_law_book.specs.Coding.{HasCoding}
use Rattle.uss_law_book.specs.Reserve.{ReserveCovers}

-- so often a request may be attempted, and so many alternatives it may have: few, so that what its job enters has its room
abbrev pub most_rounds : ℕ
most_rounds = 16

abbrev pub most_alternatives : ℕ
most_alternatives = 8

-- a plan: one round or more, one alternative or more, and each alternative one that an intent in this state may have
pub record ArePlans (to : State) (priority rounds : ℕ) (proposals : List Proposal) : Type 0 where
  pub some_rounds : 1 ≤ rounds
  pub few_rounds : rounds ≤ most_rounds
  pub some_proposals : 1 ≤ length proposals
  pub few_proposals : length proposals ≤ most_alternatives
  pub each : All (λ (p : Proposal). IsTrue (is_plan to p.volumes p.off_nominal priority)) proposals

-- the wish is a plan, and the flight may go to its state from what is held of it; a flight that is held may be ended, whatever
-- its state
abbrev pub MayWish : Option State → Wish → Type 0
MayWish old (Put to priority rounds proposals) = ArePlans to priority rounds proposals × IsTrue (may_go old to)
MayWish old End = IsTrue (is_some old)

-- the request has a greater number than this one
abbrev pub IsAfter : FlightAsk → Opening → Type 0
IsAfter ask last = last.ask.number < ask.number

-- a job opens for a new request for a flight that has no open job and that hasn't ended
pub record MayOpen (before : List Entry) (job : ℕ) (ask : FlightAsk) : Type 0 where
  pub next : job ≡ length (openings before) + 1
  pub free : open_job_of ask.flight before ≡ None
  pub alive : has_ended ask.flight before ≡ false
  pub later : IfSome (last_of ask.flight before) (IsAfter ask)
  pub wish : MayWish (held_state ask.flight before) ask.wish

-- an open job that is to record something
pub record IsOpenPut (before : List Entry) (job : ℕ) (opening : Opening) (to : State) (priority rounds : ℕ) (proposals : List Proposal) : Type 0 where
  pub opened : opening_of job before ≡ Some opening
  pub put : opening.ask.wish ≡ Put to priority rounds proposals
  pub unclosed : is_closed job before ≡ false

-- its ticket is heard of once
pub record MayOpenTicket (before : List Entry) (job : ℕ) : Type 0 where
  pub opening : Opening
  pub to : State
  pub priority : ℕ
  pub rounds : ℕ
  pub proposals : List Proposal
  pub unfinished : IsOpenPut before job opening to priority rounds proposals
  pub new : is_ticket_open job before ≡ false

-- where no key is looked at, the attempt is of the first alternative and has no key
abbrev pub IsBlind : Bool → ℕ → List (List ℕ) → Type 0
IsBlind true alternative key = Unit {0}
IsBlind false alternative key = (alternative ≡ 0) × (key ≡ [])

-- a further attempt: with the next tag, of one of the alternatives, of the flight's current OVN
pub record MayTry (before : List Entry) (job tag alternative : ℕ) (previous : Option (List ℕ)) (key : List (List ℕ)) : Type 0 where
  pub opening : Opening
  pub to : State
  pub priority : ℕ
  pub rounds : ℕ
  pub proposals : List Proposal
  pub unfinished : IsOpenPut before job opening to priority rounds proposals
  pub ticket : is_ticket_open job before ≡ true
  pub undecided : decision_of job before ≡ None
  pub round : length (trials_of job before) < rounds
  pub next : tag ≡ length (trials before) + 1
  pub one_of : alternative < length proposals
  pub current : previous ≡ current_ovn_of opening.ask.flight before
  pub few : length key ≤ most_ovns
  pub blind : IsBlind (is_strategic to) alternative key

-- an open job records one of its attempts
pub record MayHold (before : List Entry) (job tag : ℕ) : Type 0 where
  pub unfinished : is_open job before ≡ true
  pub own : owns job tag before ≡ true

-- after so many attempts, of so many that it may make, the job may decide to end so
abbrev pub MayEndSo : ℕ → ℕ → Ending → Type 0
MayEndSo tried rounds (Conflict flight manager rule) = Unit {0}
MayEndSo tried rounds (Stale missing) = tried ≡ rounds
MayEndSo tried rounds Cancelled = Unit {0}
MayEndSo tried rounds (Ended owed) = ⊥

-- a job that made attempts decides once to make no further one
pub record MayDecide (before : List Entry) (job : ℕ) (end : Ending) : Type 0 where
  pub opening : Opening
  pub to : State
  pub priority : ℕ
  pub rounds : ℕ
  pub proposals : List Proposal
  pub unfinished : IsOpenPut before job opening to priority rounds proposals
  pub tried : 1 ≤ length (trials_of job before)
  pub undecided : decision_of job before ≡ None
  pub so : MayEndSo (length (trials_of job before)) rounds end

-- an End ends its flight
abbrev pub EndsFlight : Ending → Type 0
EndsFlight (Conflict flight manager rule) = ⊥
EndsFlight (Stale missing) = ⊥
EndsFlight Cancelled = ⊥
EndsFlight (Ended owed) = Unit {0}

-- a job without an attempt is cancelled, or ends in conflict once its ticket was there
abbrev pub EndsUntried : Bool → Ending → Type 0
EndsUntried ticket_open (Conflict flight manager rule) = IsTrue ticket_open
EndsUntried ticket_open (Stale missing) = ⊥
EndsUntried ticket_open Cancelled = Unit {0}
EndsUntried ticket_open (Ended owed) = ⊥

-- a job that is to record something ends as it decided, or without an attempt
abbrev pub EndsPut : List Entry → ℕ → Ending → Type 0
EndsPut before job end =
    (decision_of job before ≡ Some (record { job = job; end = end })) ⊎ ((trials_of job before ≡ []) × EndsUntried (is_ticket_open job before) end)

abbrev pub EndsWish : List Entry → ℕ → Ending → Wish → Type 0
EndsWish before job end (Put to priority rounds proposals) = EndsPut before job end
EndsWish before job end End = EndsFlight end

-- an open job ends without recording anything
pub record MayEnd (before : List Entry) (job : ℕ) (end : Ending) : Type 0 where
  pub opening : Opening
  pub opened : opening_of job before ≡ Some opening
  pub unclosed : is_closed job before ≡ false
  pub wish : EndsWish before job end opening.ask.wish

-- the ticket of a closed job is gone, which isn't needed
pub record MayRetire (before : List Entry) (job : ℕ) : Type 0 where
  pub put : is_put_job job before ≡ true
  pub closed : is_closed job before ≡ true
  pub heard_open : is_ticket_open job before ≡ true
  pub not_gone : is_ticket_gone job before ≡ false
  pub unneeded : is_ticket_needed job before ≡ false

-- a notification that a closed job owes is answered once
pub record MaySend (before : List Entry) (job index : ℕ) : Type 0 where
  pub closed : is_closed job before ≡ true
  pub owed : index < length (owed_of job before)
  pub new : is_sent job index before ≡ false

-- the entry is allowed by the entries before it
abbrev pub IsDue : List Entry → Entry → Type 0
IsDue before (Enters.Owner owner) = Unit {0}
IsDue before (Opened o) = MayOpen before o.job o.ask
IsDue before (TicketOpen job) = MayOpenTicket before job
IsDue before (Pending t) = MayTry before t.job t.tag t.alternative t.previous t.key
IsDue before (Held h) = MayHold before h.job h.tag
IsDue before (Deciding d) = MayDecide before d.job d.end
IsDue before (Done d) = MayEnd before d.job d.end
IsDue before (TicketGone job) = MayRetire before job
IsDue before (Sent n) = MaySend before n.job n.index

abbrev pub is_owner : Entry → Bool
is_owner (Enters.Owner owner) = true
is_owner _ = false

-- the book has no entry yet
abbrev pub is_new : List Entry → Bool
is_new [] = true
is_new (e ∷ es) = false

-- the entry may follow the entries before it
pub record MayFollow (before : List Entry) (e : Entry) : Type 0 where
  -- the first entry says whose book it is, and no other does
  pub first : is_owner e ≡ is_new before
  pub coding : HasCoding e
  pub due : IsDue before e
  pub room_before : ReserveCovers before
  pub room_after : ReserveCovers (before ++ e ∷ [])

-- each of the entries may follow those before it
abbrev pub MayAllFollow : List Entry → List Entry → Type 0
MayAllFollow before [] = Unit {0}
MayAllFollow before (e ∷ es) = MayFollow before e × MayAllFollow (before ++ e ∷ []) es

-- a legal book
abbrev pub IsLegal : List Entry → Type 0
IsLegal book = MayAllFollow [] book
