-- How a job goes on, and how each of its duties is carried out. Where a helper is given what a sound supplier never comes to, as a
-- reference without an OVN where one was recorded, it says nothing; that each step says something or makes a call is among the duties.
-- This project's own.
use Rattle.std.specs.Prelude.{ℕ, ◌+◌, Bool, true, false, List, [], ◌∷◌, length, map, slice_get, Option, Some, None, option_and_then, unwrap_or, is_some}
use Rattle.uss_intent.specs.Refusals.{refusal_number}
use Rattle.uss_intent.specs.declared.records.Reference.{Reference}
use Rattle.uss_intent.specs.declared.records.Subscriber.{Subscriber}
use Rattle.uss_intent.specs.declared.calls.DssAsk.{DssAsk}
use Rattle.uss_intent.specs.declared.calls.DssReply.{DssReply}
use Rattle.uss_intent.specs.declared.calls.DssReply.TheVariants as Replies
use Rattle.uss_intent.specs.declared.calls.DssRefusal.{DssRefusal}
use Rattle.uss_intent.specs.declared.calls.DssRefusal.TheVariants as Refuses
use Rattle.uss_intent.specs.States.{is_strategic}
use Rattle.uss_event.specs.Pairs.{OperationalIntent}
use Rattle.uss_event.specs.declared.rules.Verdict.{Verdict}
use Rattle.uss_event.specs.declared.asks.Wish.{Wish}
use Rattle.uss_event.specs.declared.asks.Wish.TheVariants.{Put, End}
use Rattle.uss_event.specs.declared.entries.Ending.{Ending}
use Rattle.uss_event.specs.declared.entries.Ending.TheVariants as Ends
use Rattle.uss_event.specs.declared.entries.Entry.{Entry}
use Rattle.uss_event.specs.declared.entries.Entry.TheVariants as Enters
use Rattle.uss_event.specs.declared.calls.PeerCall.{PeerCall}
use Rattle.uss_event.specs.declared.calls.PeerCall.TheVariants as Calls
use Rattle.uss_event.specs.declared.calls.PeerReply.{PeerReply}
use Rattle.uss_event.specs.declared.calls.PeerReply.TheVariants as Peers
use Rattle.uss_event.specs.declared.calls.Outgoing.{Outgoing}
use Rattle.uss_event.specs.declared.calls.Outgoing.TheVariants as Goes
use Rattle.uss_event.specs.declared.events.Answer.{Answer}
use Rattle.uss_event.specs.declared.events.Answer.TheVariants as Answers
use Rattle.uss_event.specs.declared.events.Said.TheVariants as Says
use Rattle.uss_plan.specs.declared.choice.Choice.{Choice}
use Rattle.uss_plan.specs.declared.choice.Choice.TheVariants.{Chosen, Blocked}
use Rattle.uss_event.specs.declared.entries.Opening.{Opening}
use Rattle.uss_event.specs.declared.entries.Trial.{Trial}
use Rattle.uss_event.specs.declared.entries.Closing.{Closing}
use Rattle.uss_law_book.specs.Lists.{trials}
use Rattle.uss_law_book.specs.Contents.{owns, decision_of, current_ovn_of, is_ticket_open, trials_of, rounds_of}
use Rattle.uss_law_duty.specs.Answers.{flight_of, kept_answer}
use Rattle.uss_law_duty.specs.Sayings.{others}
use Rattle.uss_law_duty.specs.Entered.{shown_tag}
use Rattle.uss_law_supplier.specs.declared.duties.Awaited.{Awaited}
use Rattle.uss_law_supplier.specs.declared.duties.Awaited.TheVariants as Waits
use Rattle.uss_law_supplier.specs.declared.duties.JobView.{JobView}
use Rattle.uss_law_supplier.specs.declared.duties.Heard.{Heard}
use Rattle.uss_law_supplier.specs.declared.duties.Heard.TheVariants as Hears
use Rattle.uss_law_supplier.specs.declared.duties.Duty.{Duty}
use Rattle.uss_law_supplier.specs.declared.duties.Duty.TheVariants as Duties
use Rattle.uss_law_supplier.specs.Values.{Values, awaited_of, round_of, without_job, in_round, round_with, asking_for, leaving_out}
use Rattle.uss_law_supplier.specs.Table.{by_book, on_reply}
use Rattle.uss_law_supplier.specs.Calls.{call_of, kind_of}
use Rattle.uss_law_supplier.specs.Turns.{Standing, Turn, saying, sending, said_of, calling, dss_call, entering}
use Rattle.uss_law_supplier.specs.Airspace.{next_unheard, is_left, pairs_in, key_of, choice_of}

-- what decides a job's next duty

-- the wish is held against others, and its attempts have a key: into Accepted or Activated
abbrev pub keeps_key : Wish → Bool
keeps_key (Put to priority rounds proposals) = is_strategic to
keeps_key End = false

abbrev pub is_end : Wish → Bool
is_end (Put to priority rounds proposals) = false
is_end End = true

unfoldable pub view_of : Standing → Opening → JobView
view_of s o =
    record {
      end = is_end o.ask.wish;
      keyed = keeps_key o.ask.wish;
      ticket_open = is_ticket_open o.job s.book;
      deciding = is_some (decision_of o.job s.book);
      attempts = length (trials_of o.job s.book);
      rounds = rounds_of o.ask.wish;
      awaited = option_and_then kind_of (awaited_of o.job s.values);
    }

-- what an event brings to the job

abbrev pub found_by : DssReply → List Reference
found_by (Replies.Found references) = references
found_by _ = []

abbrev pub reference_by : DssReply → Option Reference
reference_by (Replies.Landed reference subscribers) = Some reference
reference_by (Replies.Got reference) = Some reference
reference_by _ = None

abbrev pub owed_by : DssReply → List Subscriber
owed_by (Replies.Landed reference subscribers) = subscribers
owed_by (Replies.Removed reference subscribers) = subscribers
owed_by _ = []

abbrev pub missing_from : DssRefusal → List ℕ
missing_from (Refuses.MissingKey references) = map (λ (r : Reference). r.flight) references
missing_from _ = []

abbrev pub missing_by : DssReply → List ℕ
missing_by (Replies.Refused refusal) = missing_from refusal
missing_by _ = []

abbrev pub tag_by : DssReply → Option ℕ
tag_by reply = option_and_then shown_tag (reference_by reply)

-- the tag is that of one of the job's attempts
abbrev pub owns_tag : ℕ → List Entry → Option ℕ → Bool
owns_tag job book None = false
owns_tag job book (Some tag) = owns job tag book

-- what a reply says to a job, once its round is as the reply leaves it; a query's and a peer's with whether a reference is left to be
-- asked for
abbrev pub heard_of_dss : Standing → Opening → DssReply → Heard
heard_of_dss s o (Replies.Found references) =
    Hears.Found (length (others (flight_of s.owner o) references)) (is_left s.owner s.values.heard (round_of o.job s.values))
heard_of_dss s o (Replies.Got reference) = Hears.Got (owns_tag o.job s.book (shown_tag reference))
heard_of_dss s o (Replies.Landed reference subscribers) = Hears.Landed
heard_of_dss s o (Replies.Removed reference subscribers) = Hears.Removed
heard_of_dss s o (Replies.TicketMade ticket) = Hears.Made
heard_of_dss s o (Replies.TicketGot ticket) = Hears.Made
heard_of_dss s o (Replies.TicketRemoved ticket) = Hears.Removed
heard_of_dss s o (Replies.Refused refusal) = Hears.Refused (refusal_number refusal)

abbrev pub heard_of_peer : Standing → Opening → PeerReply → Heard
heard_of_peer s o (Peers.Status status) = Hears.Status status
heard_of_peer s o _ = Hears.Answered (is_left s.owner s.values.heard (round_of o.job s.values))

-- what a query finds begins a round, of the references of other flights; a flight of which its manager holds nothing is left out
abbrev pub round_by_dss : Standing → Opening → DssReply → Values
round_by_dss s o (Replies.Found references) = in_round o.job (round_with (others (flight_of s.owner o) references)) s.values
round_by_dss s o _ = s.values

abbrev pub round_by_peer : Standing → Opening → PeerCall → PeerReply → Values
round_by_peer s o (Calls.Details job flight manager base) Peers.Gone = in_round o.job (leaving_out flight (round_of o.job s.values)) s.values
round_by_peer s o call reply = s.values

-- how duties are carried out

-- the job makes its call of a kind, as its book has it, and waits for it
abbrev pub making : Standing → ℕ → Option DssAsk → Turn
making s job None = saying s.values Says.Nothing
making s job (Some ask) = calling job (dss_call job ask) s.values

abbrev pub asking : Standing → Opening → Awaited → Turn
asking s o kind = making s o.job (call_of s.owner s.book o kind)

-- it makes an attempt of an alternative, with a key: under the next tag of the book, from what is held of the flight; and makes its Put
abbrev pub pending : Standing → Opening → ℕ → List (List ℕ) → Entry
pending s o alternative key = Enters.Pending (record { job = o.job; tag = length (trials s.book) + 1; alternative = alternative; previous = current_ovn_of o.ask.flight s.book; key = key })

abbrev pub attempting : Standing → Opening → ℕ → List (List ℕ) → Turn
attempting s o alternative key = entering s (pending s o alternative key) (λ after. asking after o Waits.Put)

-- a job that an entry closes says what the book with that entry keeps of it, and waits for nothing
abbrev pub answering : Opening → Standing → Turn
answering o after = saying (without_job o.job after.values) (said_of (kept_answer after.owner o after.book))

abbrev pub ending : Standing → Opening → Ending → Turn
ending s o end = entering s (Enters.Done (record { job = o.job; end = end })) (answering o)

abbrev pub holding_as : Standing → Opening → List Subscriber → Reference → Option ℕ → Option (List ℕ) → Turn
holding_as s o owed r (Some tag) (Some ovn) = entering s (Enters.Held (record { job = o.job; tag = tag; ovn = ovn; version = r.version; owed = owed })) (answering o)
holding_as s o owed r tag ovn = saying s.values Says.Nothing

-- it holds what the reference shows: the tag, the OVN and the version; and owes a notification to each subscriber that the reply listed
abbrev pub recording : Standing → Opening → List Subscriber → Option Reference → Turn
recording s o owed None = saying s.values Says.Nothing
recording s o owed (Some r) = holding_as s o owed r (shown_tag r) r.ovn

-- it makes no further attempt, and takes its ticket out: once that is gone, no attempt of the job can be recorded
abbrev pub deciding : Standing → Opening → Ending → Turn
deciding s o end = entering s (Enters.Deciding (record { job = o.job; end = end })) (λ after. asking after o Waits.TicketRemove)

-- it gives up: at once where it made no attempt, since nothing can be recorded then
abbrev pub giving_up_after : Standing → Opening → Ending → List Trial → Turn
giving_up_after s o end [] = ending s o end
giving_up_after s o end (t ∷ ts) = deciding s o end

abbrev pub giving_up : Standing → Opening → Ending → Turn
giving_up s o end = giving_up_after s o end (trials_of o.job s.book)

-- it ends as it decided
abbrev pub ending_as : Standing → Opening → Option Closing → Turn
ending_as s o None = saying s.values Says.Nothing
ending_as s o (Some d) = ending s o d.end

-- an End ends its flight
abbrev pub closing : Standing → Opening → List Subscriber → Wish → Turn
closing s o owed (Put to priority rounds proposals) = ending_as s o (decision_of o.job s.book)
closing s o owed End = ending s o (Ends.Ended owed)

-- it stops: it says why and waits for nothing. It stays open, and its request resumes it
abbrev pub stopping : Standing → Opening → Answer → Turn
stopping s o answer = saying (without_job o.job s.values) (Says.Answer answer)

-- it asks the manager of the next reference for the details, and asks so once in a round
abbrev pub looking_at : Standing → Opening → Option Reference → Turn
looking_at s o None = saying s.values Says.Nothing
looking_at s o (Some r) =
    calling o.job (Goes.Peer (Calls.Details o.job r.flight r.manager r.base))
    (in_round o.job (asking_for r.flight (round_of o.job s.values)) s.values)

abbrev pub looking : Standing → Opening → Turn
looking s o = looking_at s o (next_unheard s.owner s.values.heard (round_of o.job s.values))

-- a pair stands against the flight: the job gives up, with that pair's flight and manager and by the rule that it breaks
abbrev pub blocked_by : Standing → Opening → Verdict → Option OperationalIntent → Turn
blocked_by s o rule None = saying s.values Says.Nothing
blocked_by s o rule (Some p) = giving_up s o (Ends.Conflict p.reference.flight p.reference.manager rule)

abbrev pub choosing_by : Standing → Opening → List OperationalIntent → Choice → Turn
choosing_by s o pairs (Chosen alternative) = attempting s o alternative (key_of pairs)
choosing_by s o pairs (Blocked place rule) = blocked_by s o rule (slice_get pairs place)

-- it chooses among its alternatives, against the pairs of its round
abbrev pub choosing_among : Standing → Opening → List OperationalIntent → Turn
choosing_among s o pairs = choosing_by s o pairs (choice_of s o pairs)

abbrev pub choosing : Standing → Opening → Turn
choosing s o = choosing_among s o (pairs_in s (round_of o.job s.values))

-- the job makes a call of this kind
abbrev pub call_made : Standing → Opening → Awaited → Turn
call_made s o Waits.Details = looking s o
call_made s o kind = asking s o kind

-- a duty is carried out that needs nothing of a reply
abbrev pub carry_on : Standing → Opening → Duty → Turn
carry_on s o (Duties.Call kind) = call_made s o kind
carry_on s o Duties.Attempt = attempting s o 0 []
carry_on s o _ = saying s.values Says.Nothing

-- the job goes on by its book
abbrev pub going_on : Standing → Opening → Turn
going_on s o = carry_on s o (by_book (view_of s o))

-- it is resumed: the call that it waits for goes out again; one that waits for nothing goes on by its book
abbrev pub resuming_by : Standing → Opening → Option Outgoing → Turn
resuming_by s o (Some call) = sending s.values (call ∷ [])
resuming_by s o None = going_on s o

abbrev pub resuming : Standing → Opening → Turn
resuming s o = resuming_by s o (awaited_of o.job s.values)

-- a duty is carried out that a reply of the discovery service brought
abbrev pub carry_out : Standing → Opening → DssReply → Duty → Turn
carry_out s o reply Duties.OpenTicket = entering s (Enters.TicketOpen o.job) (λ after. asking after o Waits.Query)
carry_out s o reply Duties.Choose = choosing s o
carry_out s o reply Duties.Hold = recording s o (owed_by reply) (reference_by reply)
carry_out s o reply Duties.DecideStale = deciding s o (Ends.Stale (missing_by reply))
carry_out s o reply Duties.Close = closing s o (owed_by reply) o.ask.wish
carry_out s o reply Duties.Crowded = stopping s o (Answers.Crowded (length (others (flight_of s.owner o) (found_by reply))))
carry_out s o reply Duties.Unsettled = stopping s o (Answers.Unsettled (unwrap_or (tag_by reply) 0))
carry_out s o reply (Duties.DssRefused number) = stopping s o (Answers.DssRefused number)
carry_out s o reply duty = carry_on s o duty

-- likewise of another supplier
abbrev pub manager_of : PeerCall → List ℕ
manager_of (Calls.Details job flight manager base) = manager
manager_of (Calls.Notify job index base note) = []

abbrev pub status_of : PeerReply → ℕ
status_of (Peers.Status status) = status
status_of _ = 0

abbrev pub carry_out_peer : Standing → Opening → PeerCall → PeerReply → Duty → Turn
carry_out_peer s o call reply Duties.Choose = choosing s o
carry_out_peer s o call reply Duties.PeerRefused = stopping s o (Answers.PeerRefused (manager_of call) (status_of reply))
carry_out_peer s o call reply duty = carry_on s o duty

-- the job acts on the fitting reply to the call that it waits for, by the table
abbrev pub acting_on_dss : Standing → Opening → DssReply → Turn
acting_on_dss s o reply = carry_out s o reply (on_reply (view_of s o) (heard_of_dss s o reply))

abbrev pub acting_on_peer : Standing → Opening → PeerCall → PeerReply → Turn
acting_on_peer s o call reply = carry_out_peer s o call reply (on_reply (view_of s o) (heard_of_peer s o reply))

abbrev pub with_values : Standing → Values → Standing
with_values s values = record { owner = s.owner; book = s.book; values = values }

-- a reply to an open job is acted on where it fits its call and the job waits for that call; any other resumes the job
abbrev pub open_by_dss : Standing → Opening → DssReply → Bool → Turn
open_by_dss s o reply true = acting_on_dss (with_values s (round_by_dss s o reply)) o reply
open_by_dss s o reply false = resuming s o

abbrev pub open_by_peer : Standing → Opening → PeerCall → PeerReply → Bool → Turn
open_by_peer s o call reply true = acting_on_peer (with_values s (round_by_peer s o call reply)) o call reply
open_by_peer s o call reply false = resuming s o
