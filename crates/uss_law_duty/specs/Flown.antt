-- Worked steps of a flight that is changed: it is flown, strays, or is to be flown again beside a flight of a greater priority.
use Rattle.std.specs.Prelude.{ℕ, ℤ, pos, List, [], ◌∷◌, ◌++◌, codes, Some}
use Rattle.uss_vol4.specs.Volume.{Volume4D}
use Rattle.uss_intent.specs.Identifiers.{flight_number, ticket_number}
use Rattle.uss_intent.specs.declared.records.Reference.{Reference}
use Rattle.uss_intent.specs.declared.records.State.TheVariants.{Activated, Nonconforming}
use Rattle.uss_intent.specs.declared.calls.DssAsk.{DssAsk}
use Rattle.uss_intent.specs.declared.calls.DssAsk.TheVariants as Asks
use Rattle.uss_intent.specs.declared.calls.DssReply.{DssReply}
use Rattle.uss_event.specs.Pairs.{OperationalIntent}
use Rattle.uss_event.specs.declared.details.Candidate.{Candidate}
use Rattle.uss_event.specs.declared.details.Proposal.{Proposal}
use Rattle.uss_event.specs.declared.asks.Wish.TheVariants.{Put}
use Rattle.uss_event.specs.declared.asks.FlightAsk.{FlightAsk}
use Rattle.uss_event.specs.declared.calls.Outgoing.{Outgoing}
use Rattle.uss_event.specs.declared.calls.Outgoing.TheVariants as Goes
use Rattle.uss_event.specs.declared.events.Event.{Event}
use Rattle.uss_event.specs.declared.events.Event.TheVariants as Comes
use Rattle.uss_event.specs.declared.calls.PeerCall.{PeerCall}
use Rattle.uss_event.specs.declared.calls.PeerCall.TheVariants as Calls
use Rattle.uss_event.specs.declared.entries.Entry.{Entry}
use Rattle.uss_event.specs.declared.entries.Entry.TheVariants as Enters
use Rattle.uss_event.specs.declared.events.Answer.TheVariants.{Changed}
use Rattle.uss_event.specs.declared.events.Said.{Said}
use Rattle.uss_event.specs.declared.events.Said.TheVariants as Says
use Rattle.uss_law_book.specs.Attempts.{Attempted, attempted, recorded_as}
use Rattle.uss_law_duty.specs.Entered.{candidate_of}
use Rattle.uss_law_duty.specs.Worked.{now, owner, volume, proposal, flight, ovn, held_book, the_reference, other_ovn, other_reference}

-- a call of a job, and its reply
abbrev pub calls : ℕ → DssAsk → List Outgoing
calls job ask = Goes.Dss (record { job = job; ask = ask }) ∷ []

abbrev pub replies_to : ℕ → DssAsk → DssReply → Event
replies_to job ask reply = Comes.Dss (record { job = job; ask = ask }) reply

-- the flight is to be flown, by its request number 2
abbrev pub flown_ask : FlightAsk
flown_ask = record { flight = 1; number = 2; wish = Put Activated 0 4 (proposal ∷ []) }

abbrev pub flown_opened : Entry
flown_opened = Enters.Opened (record { job = 2; moment = now; ask = flown_ask })

abbrev pub flown_ticket_book : List Entry
flown_ticket_book = held_book ++ flown_opened ∷ Enters.TicketOpen 2 ∷ []

-- the attempt is from what is held: its Put names the OVN of that
abbrev pub flown_pending : Entry
flown_pending = Enters.Pending (record { job = 2; tag = 2; alternative = 0; previous = Some ovn; key = [] })

abbrev pub flown_tried_book : List Entry
flown_tried_book = flown_ticket_book ++ flown_pending ∷ []

abbrev pub flown_put : DssAsk
flown_put = Asks.Put flight (Some ovn) (volume ∷ []) [] Activated (codes "http://uss1.test/a/2") (ticket_number 1 2)

abbrev pub flown_ovn : List ℕ
flown_ovn = codes "ovn-0000000000000002"

abbrev pub flown_reference : Reference
flown_reference =
    record the_reference { version = 2; state = Activated; ovn = Some flown_ovn; base = codes "http://uss1.test/a/2"; ticket = ticket_number 1 2 }

abbrev pub flown_held : Entry
flown_held = Enters.Held (record { job = 2; tag = 2; ovn = flown_ovn; version = 2; owed = [] })

abbrev pub changed : Said
changed = Says.Answer (Changed flight 2 0 flown_ovn 2)

-- the flight is flown
abbrev pub flown_book : List Entry
flown_book = flown_tried_book ++ flown_held ∷ []

-- 23:20:00
abbrev pub first_seen : ℤ
first_seen = pos 1700004000000000000

-- the flight strays: it is 500 mm above its volume, and may be in this one
abbrev pub around_it : Volume4D
around_it = record volume { high = pos 2000 }

abbrev pub with_around : Proposal
with_around = record { volumes = volume ∷ []; off_nominal = around_it ∷ [] }

abbrev pub straying : ℕ → FlightAsk
straying number = record { flight = 1; number = number; wish = Put Nonconforming 0 1 (with_around ∷ []) }

-- the job of the straying flight has its ticket, and makes its attempt
abbrev pub strayed_book : List Entry
strayed_book = flown_book ++ Enters.Opened (record { job = 3; moment = first_seen; ask = straying 3 }) ∷ Enters.TicketOpen 3 ∷ []

abbrev pub strayed_query : DssAsk
strayed_query = Asks.Query around_it

abbrev pub strayed_pending : Entry
strayed_pending = Enters.Pending (record { job = 3; tag = 3; alternative = 0; previous = Some flown_ovn; key = [] })

abbrev pub strayed_put : DssAsk
strayed_put = Asks.Put flight (Some flown_ovn) (volume ∷ around_it ∷ []) [] Nonconforming (codes "http://uss1.test/a/3") (ticket_number 1 3)

abbrev pub strayed_tried_book : List Entry
strayed_tried_book = strayed_book ++ strayed_pending ∷ []

abbrev pub returning : ℕ → FlightAsk
returning number = record { flight = 1; number = number; wish = Put Activated 0 4 (proposal ∷ []) }

-- what the flown flight is held as
abbrev pub flown_pair : OperationalIntent
flown_pair =
    recorded_as
    (attempted owner (record { job = 2; moment = now; ask = flown_ask }) (record { job = 2; tag = 2; alternative = 0; previous = Some ovn; key = [] }) Activated 0 proposal)
    flown_ovn
    2

-- a flight of a greater priority was planned into the same volume
abbrev pub urgent_pair : OperationalIntent
urgent_pair = record { reference = other_reference; details = record { volumes = volume ∷ []; off_nominal = []; priority = 100 } }

-- the flown flight is to be recorded again as it is: its job has its ticket, and hears of the other flight
abbrev pub staying_book : List Entry
staying_book = flown_book ++ Enters.Opened (record { job = 3; moment = now; ask = returning 3 }) ∷ Enters.TicketOpen 3 ∷ []

abbrev pub details_of_urgent : PeerCall
details_of_urgent = Calls.Details 3 (flight_number 2 1) (codes "uss2") (codes "http://uss2.test/a/1")

abbrev pub staying : Entry
staying = Enters.Pending (record { job = 3; tag = 3; alternative = 0; previous = Some flown_ovn; key = other_ovn ∷ [] })

abbrev pub staying_put : DssAsk
staying_put = Asks.Put flight (Some flown_ovn) (volume ∷ []) (other_ovn ∷ []) Activated (codes "http://uss1.test/a/3") (ticket_number 1 3)

abbrev pub staying_attempt : Attempted
staying_attempt =
    attempted owner (record { job = 3; moment = now; ask = returning 3 }) (record { job = 3; tag = 3; alternative = 0; previous = Some flown_ovn; key = other_ovn ∷ [] }) Activated 0 proposal

abbrev pub stays_as : Candidate
stays_as = candidate_of staying_attempt
