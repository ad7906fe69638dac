-- Further worked steps: of a job with two attempts, of two open jobs of two flights, and of references whose version, manager or identifier
-- isn't what is kept.
use Rattle.std.specs.Prelude.{ℕ, List, [], ◌∷◌, ◌++◌, codes, Option, Some, None}
use Rattle.uss_intent.specs.Identifiers.{flight_number, ticket_number}
use Rattle.uss_intent.specs.declared.records.Reference.{Reference}
use Rattle.uss_intent.specs.declared.records.Ticket.{Ticket}
use Rattle.uss_intent.specs.declared.records.State.TheVariants.{Accepted}
use Rattle.uss_intent.specs.declared.calls.DssAsk.{DssAsk}
use Rattle.uss_intent.specs.declared.calls.DssAsk.TheVariants as Asks
use Rattle.uss_intent.specs.declared.calls.DssReply.{DssReply}
use Rattle.uss_intent.specs.declared.calls.DssReply.TheVariants as Replies
use Rattle.uss_intent.specs.declared.calls.DssRefusal.TheVariants as Refuses
use Rattle.uss_event.specs.Pairs.{OperationalIntent}
use Rattle.uss_event.specs.declared.entries.Entry.{Entry}
use Rattle.uss_event.specs.declared.entries.Entry.TheVariants as Enters
use Rattle.uss_event.specs.declared.calls.PeerCall.{PeerCall}
use Rattle.uss_event.specs.declared.calls.PeerCall.TheVariants as Calls
use Rattle.uss_event.specs.declared.calls.Outgoing.{Outgoing}
use Rattle.uss_event.specs.declared.calls.Outgoing.TheVariants as Goes
use Rattle.uss_event.specs.declared.events.Said.{Said}
use Rattle.uss_event.specs.declared.events.Said.TheVariants as Says
use Rattle.uss_event.specs.declared.events.Answer.TheVariants.{Planned}
use Rattle.uss_law_duty.specs.Worked.{now, volume, flight, ovn, ticket, above, tried_book, put, the_ticket, the_reference, other_ovn, other_reference, other_pair}
use Rattle.uss_law_supplier.specs.Cases.{newer_reference, upper_ask}
use Rattle.uss_law_supplier.specs.Values.{Values, Progress, Round, no_values, round_with, asking_for}
use Rattle.uss_law_supplier.specs.Turns.{dss_call}
use Rattle.uss_law_supplier.specs.Worked.{found_other, asked_round}

-- the job's second attempt has a key, and its Put another tag and that key
abbrev pub twice_book : List Entry
twice_book = tried_book ++ Enters.Pending (record { job = 1; tag = 2; alternative = 0; previous = None; key = other_ovn ∷ [] }) ∷ []

abbrev pub second_put : DssAsk
second_put = Asks.Put flight None (volume ∷ []) (other_ovn ∷ []) Accepted (codes "http://uss1.test/a/2") ticket

-- or it has the first's key, which is empty: then the Puts differ in their tags alone
abbrev pub alike_book : List Entry
alike_book = tried_book ++ Enters.Pending (record { job = 1; tag = 2; alternative = 0; previous = None; key = [] }) ∷ []

abbrev pub alike_put : DssAsk
alike_put = Asks.Put flight None (volume ∷ []) [] Accepted (codes "http://uss1.test/a/2") ticket

-- the second attempt was recorded
abbrev pub second_reference : Reference
second_reference = record the_reference { base = codes "http://uss1.test/a/2" }

abbrev pub second_recorded : Entry
second_recorded = Enters.Held (record { job = 1; tag = 2; ovn = ovn; version = 1; owed = [] })

abbrev pub planned_at_last : Said
planned_at_last = Says.Answer (Planned flight 2 0 ovn 1)

abbrev pub twice_held_book : List Entry
twice_held_book = twice_book ++ second_recorded ∷ []

-- how far a job is: it waits for this, in this round
abbrev pub at : ℕ → Option Outgoing → Round → Progress
at job awaited round = record { job = job; awaited = awaited; round = round }

abbrev pub in_progress : List Progress → Values
in_progress jobs = record no_values { jobs = jobs }

-- job 1 waits for its Put, and job 2, of flight 2, for what is found above flight 1; both have found something before
abbrev pub both_book : List Entry
both_book = tried_book ++ Enters.Opened (record { job = 2; moment = now; ask = upper_ask }) ∷ Enters.TicketOpen 2 ∷ []

abbrev pub upper_query : DssAsk
upper_query = Asks.Query above

abbrev pub first_waits : Progress
first_waits = at 1 (Some (dss_call 1 put)) asked_round

abbrev pub second_waits : Progress
second_waits = at 2 (Some (dss_call 2 upper_query)) found_other

abbrev pub both_wait : Values
both_wait = in_progress (first_waits ∷ second_waits ∷ [])

-- the attempt of job 2, where nothing is found
abbrev pub upper_first : Entry
upper_first = Enters.Pending (record { job = 2; tag = 2; alternative = 0; previous = None; key = [] })

abbrev pub upper_first_put : DssAsk
upper_first_put = Asks.Put (flight_number 1 2) None (above ∷ []) [] Accepted (codes "http://uss1.test/a/2") (ticket_number 1 2)

-- the other supplier's flight, as it was served at its next version
abbrev pub newer_ovn : List ℕ
newer_ovn = codes "ovn-0000000000000009"

abbrev pub newer_pair : OperationalIntent
newer_pair = record other_pair { reference = record newer_reference { ovn = Some newer_ovn } }

abbrev pub newer_keyed : Entry
newer_keyed = Enters.Pending (record { job = 1; tag = 1; alternative = 0; previous = None; key = newer_ovn ∷ [] })

abbrev pub newer_keyed_put : DssAsk
newer_keyed_put = Asks.Put flight None (volume ∷ []) (newer_ovn ∷ []) Accepted (codes "http://uss1.test/a/1") ticket

-- flight 1 of the supplier, as if another managed it; and the other supplier's flight, as if this one managed it
abbrev pub taken : Reference
taken = record other_reference { flight = flight }

abbrev pub taken_pair : OperationalIntent
taken_pair = record { reference = taken; details = record { volumes = volume ∷ []; off_nominal = []; priority = 0 } }

abbrev pub details_of_taken : PeerCall
details_of_taken = Calls.Details 2 flight (codes "uss2") (codes "http://uss2.test/a/1")

abbrev pub taken_asked : Round
taken_asked = asking_for flight (round_with (taken ∷ []))

abbrev pub taken_keyed : Entry
taken_keyed = Enters.Pending (record { job = 2; tag = 2; alternative = 0; previous = None; key = other_ovn ∷ [] })

abbrev pub taken_keyed_put : DssAsk
taken_keyed_put = Asks.Put (flight_number 1 2) None (above ∷ []) (other_ovn ∷ []) Accepted (codes "http://uss1.test/a/2") (ticket_number 1 2)

abbrev pub claimed : Reference
claimed = record the_reference { flight = flight_number 2 1 }

-- the ticket of job 3
abbrev pub third_ticket : Ticket
third_ticket = record the_ticket { id = ticket_number 1 3 }

-- the details of the other supplier's flight, asked for elsewhere; and those that job 2 asks for
abbrev pub details_elsewhere : PeerCall
details_elsewhere = Calls.Details 1 (flight_number 2 1) (codes "uss2") (codes "http://uss2.test/a/9")

abbrev pub details_for_second : PeerCall
details_for_second = Calls.Details 2 (flight_number 2 1) (codes "uss2") (codes "http://uss2.test/a/1")

abbrev pub second_asks : Progress
second_asks = at 2 (Some (Goes.Peer details_for_second)) asked_round

-- a flight that isn't the job's
abbrev pub not_its_own : Reference
not_its_own = record the_reference { flight = flight_number 1 2 }

-- the job's last attempt lacked two flights
abbrev pub lacked : ℕ → Reference
lacked id = record the_reference { flight = id; ovn = None }

abbrev pub missing_two : DssReply
missing_two = Replies.Refused (Refuses.MissingKey (lacked 2 ∷ lacked 3 ∷ []))
