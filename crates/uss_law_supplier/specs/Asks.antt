-- What comes of a request. The refusals are tried in this order. 301: its plan is none. 306: its number is below that of the flight's last
-- request. 307: it has that number and another wish. One that has that number and the same wish is a repeat: it resumes its job, or gets
-- the answer again that the book keeps. A new request is refused 305, where another is open; 309, where the flight has ended; 308, where
-- nothing is held of it to be changed or ended; 302, where the flight may not go to that state; 304, where an alternative is over; 303,
-- where one ends too late; 310, where the journal has no room. Else a job opens for it and goes on. All of this is this project's own.
use Rattle.std.specs.Prelude.{ℕ, ◌+◌, ℤ, pos, ◌+ℤ◌, int_lt, Bool, true, false, not, ◌&&◌, ◌==◌, nat_lt, nat_le, List, [], ◌∷◌, ◌++◌, length, map, Option, Some, None, option_and_then, is_none, if◌then◌else◌}
use Rattle.std.specs.List.{list_any, list_all}
use Rattle.uss_vol4.specs.Volume.{Volume4D}
use Rattle.uss_intent.specs.declared.records.State.{State}
use Rattle.uss_event.specs.Same.{differing}
use Rattle.uss_event.specs.Refusals.{number_of, refusal_of}
use Rattle.uss_event.specs.Transitions.{may_go, begins}
use Rattle.uss_event.specs.declared.details.Proposal.{Proposal}
use Rattle.uss_event.specs.declared.asks.Wish.{Wish}
use Rattle.uss_event.specs.declared.asks.Wish.TheVariants.{Put, End}
use Rattle.uss_event.specs.declared.asks.FlightAsk.{FlightAsk}
use Rattle.uss_event.specs.declared.asks.AskField.{AskField}
use Rattle.uss_event.specs.declared.asks.AskRefusal.{AskRefusal}
use Rattle.uss_event.specs.declared.asks.AskRefusal.TheVariants as Refuses
use Rattle.uss_event.specs.declared.entries.Entry.{Entry}
use Rattle.uss_event.specs.declared.entries.Entry.TheVariants as Enters
use Rattle.uss_event.specs.declared.events.Said.TheVariants as Says
use Rattle.uss_event.specs.declared.entries.Opening.{Opening}
use Rattle.uss_law_book.specs.Lists.{openings}
use Rattle.uss_law_book.specs.Contents.{is_closed, open_job_of, last_of, has_ended}
use Rattle.uss_law_book.specs.Attempts.{held_state}
use Rattle.uss_law_book.specs.Coding.{journal_length, record_length}
use Rattle.uss_law_book.specs.Reserve.{journal_limit, job_room, need}
use Rattle.uss_law_book.specs.Legal.{most_rounds, most_alternatives}
use Rattle.uss_law_duty.specs.Sends.{all_extents}
use Rattle.uss_law_duty.specs.Answers.{kept_answer}
use Rattle.uss_law_supplier.specs.Calls.{proposals_of}
use Rattle.uss_law_supplier.specs.Turns.{Standing, Turn, saying, said_of, entering}
use Rattle.uss_law_supplier.specs.Jobs.{going_on, resuming}

-- the first of these that there is
abbrev pub first_some : {X : Type 0} → List (Option X) → Option X
first_some [] = None
first_some (None ∷ xs) = first_some xs
first_some (Some x ∷ xs) = Some x

-- 301: by the number of what is wrong with the plan

-- what is wrong with an alternative, in a state and at a priority: 121 to 125
abbrev pub proposal_refusal : State → ℕ → Proposal → Option ℕ
proposal_refusal to priority p = option_and_then number_of (refusal_of to p.volumes p.off_nominal priority)

-- and with the first of several with which something is wrong
abbrev pub proposals_refusal : State → ℕ → List Proposal → Option ℕ
proposals_refusal to priority proposals = first_some (map (proposal_refusal to priority) proposals)

-- 127: not 1 to 16 rounds; 126: not 1 to 8 alternatives; else what is wrong with an alternative. With an End nothing is wrong
abbrev pub plan_refusal : Wish → Option ℕ
plan_refusal (Put to priority rounds proposals) =
    if not (nat_le 1 rounds && nat_le rounds most_rounds) then Some 127
    else if not (nat_le 1 (length proposals) && nat_le (length proposals) most_alternatives) then Some 126
    else proposals_refusal to priority proposals
plan_refusal End = None

-- the refusals of a new request, each where it applies

-- 305: another request for the flight is open, which has this number
abbrev pub busy_by : Option Opening → Option AskRefusal
busy_by None = None
busy_by (Some o) = Some (Refuses.Busy o.ask.number)

abbrev pub busy : List Entry → FlightAsk → Option AskRefusal
busy book ask = busy_by (open_job_of ask.flight book)

-- 309: the flight has ended
abbrev pub ended : List Entry → FlightAsk → Option AskRefusal
ended book ask = if has_ended ask.flight book then Some Refuses.Closed else None

-- 308: nothing is held of the flight, and the request isn't a Put into Accepted
abbrev pub begins_flight : Wish → Bool
begins_flight (Put to priority rounds proposals) = begins to
begins_flight End = false

abbrev pub unknown : List Entry → FlightAsk → Option AskRefusal
unknown book ask = if is_none (held_state ask.flight book) && not (begins_flight ask.wish) then Some Refuses.NoSuchFlight else None

-- 302: a flight doesn't go from the state in which it is held to the one wished for
abbrev pub wrong_way : Option State → Wish → Option AskRefusal
wrong_way (Some from) (Put to priority rounds proposals) = if may_go (Some from) to then None else Some (Refuses.WrongTransition from to)
wrong_way _ _ = None

abbrev pub wrong : List Entry → FlightAsk → Option AskRefusal
wrong book ask = wrong_way (held_state ask.flight book) ask.wish

-- 304: every extent of some alternative ends before the moment
abbrev pub is_over : ℤ → Proposal → Bool
is_over moment p = list_all (λ (v : Volume4D). int_lt v.end moment) (p.volumes ++ p.off_nominal)

abbrev pub past : ℤ → FlightAsk → Option AskRefusal
past moment ask = if list_any (is_over moment) (proposals_of ask.wish) then Some Refuses.Past else None

-- so far ahead a flight may be planned: 30 days, in ns, since nothing that is recorded expires by itself
abbrev pub horizon : ℤ
horizon = pos 2592000000000000

-- 303: some extent of some alternative ends later than that
abbrev pub too_far : ℤ → FlightAsk → Option AskRefusal
too_far moment ask =
    if list_any (λ (v : Volume4D). int_lt (moment +ℤ horizon) v.end) (all_extents (proposals_of ask.wish))
    then Some (Refuses.TooFar (moment +ℤ horizon)) else None

-- the entry that opens a job for the request: the next job
abbrev pub opening_entry : List Entry → ℤ → FlightAsk → Entry
opening_entry book moment ask = Enters.Opened (record { job = length (openings book) + 1; moment = moment; ask = ask })

-- 310: the journal hasn't the room that the job may need, and its first entry, beside what is kept free
abbrev pub full : List Entry → ℤ → FlightAsk → Option AskRefusal
full book moment ask =
    if nat_lt journal_limit (journal_length book + need book + job_room + record_length (opening_entry book moment ask))
    then Some (Refuses.BookFull (journal_length book) (need book)) else None

-- why a new request is refused: for the first of these that applies
unfoldable pub new_refusal : List Entry → ℤ → FlightAsk → Option AskRefusal
new_refusal book moment ask =
    first_some (busy book ask ∷ ended book ask ∷ unknown book ask ∷ wrong book ask ∷ past moment ask ∷ too_far moment ask
    ∷ full book moment ask ∷ [])

-- what comes of the request

-- a refusal enters nothing, calls nobody and changes nothing
abbrev pub refusing : Standing → AskRefusal → Turn
refusing s refusal = saying s.values (Says.Refused refusal)

-- a job opens for it, and goes on by the book
abbrev pub opening_for : Standing → ℤ → FlightAsk → Opening
opening_for s moment ask = record { job = length (openings s.book) + 1; moment = moment; ask = ask }

abbrev pub new_by : Standing → ℤ → FlightAsk → Option AskRefusal → Turn
new_by s moment ask (Some refusal) = refusing s refusal
new_by s moment ask None = entering s (opening_entry s.book moment ask) (λ after. going_on after (opening_for s moment ask))

abbrev pub asked_anew : Standing → ℤ → FlightAsk → Turn
asked_anew s moment ask = new_by s moment ask (new_refusal s.book moment ask)

-- a job that is closed has its answer
abbrev pub answered_again : Standing → Opening → Turn
answered_again s o = saying s.values (said_of (kept_answer s.owner o s.book))

-- an open job is resumed
abbrev pub asked_for : Standing → Opening → Bool → Turn
asked_for s o true = answered_again s o
asked_for s o false = resuming s o

-- it has the number of the flight's last request: with the same wish it repeats that one
abbrev pub repeated_by : Standing → Opening → Option AskField → Turn
repeated_by s o (Some field) = refusing s (Refuses.DifferentRepeat field)
repeated_by s o None = asked_for s o (is_closed o.job s.book)

abbrev pub repeated : Standing → Opening → FlightAsk → Turn
repeated s o ask = repeated_by s o (differing o.ask.wish ask.wish)

-- it is held against the flight's last request
abbrev pub asked_after : Standing → ℤ → FlightAsk → Option Opening → Turn
asked_after s moment ask None = asked_anew s moment ask
asked_after s moment ask (Some last) =
    if nat_lt ask.number last.ask.number then refusing s (Refuses.OldNumber last.ask.number)
    else if ask.number == last.ask.number then repeated s last ask
    else asked_anew s moment ask

abbrev pub asked_with : Standing → ℤ → FlightAsk → Option ℕ → Turn
asked_with s moment ask (Some number) = refusing s (Refuses.BadPlan number)
asked_with s moment ask None = asked_after s moment ask (last_of ask.flight s.book)

-- whatever else it is, it has to be a plan
abbrev pub asked : Standing → ℤ → FlightAsk → Turn
asked s moment ask = asked_with s moment ask (plan_refusal ask.wish)
