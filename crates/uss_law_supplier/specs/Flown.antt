-- Further worked steps of a flight that is changed, beside those of the duties: it strays, is lost or comes back.
use Rattle.std.specs.Prelude.{ℕ, ℤ, pos, true, false, List, [], ◌∷◌, ◌++◌, codes, Some}
use Rattle.uss_vol4.specs.Volume.{Volume4D}
use Rattle.uss_intent.specs.Identifiers.{ticket_number}
use Rattle.uss_intent.specs.declared.records.State.{State}
use Rattle.uss_intent.specs.declared.records.State.TheVariants.{Accepted, Activated, Nonconforming, Contingent}
use Rattle.uss_intent.specs.declared.calls.DssAsk.{DssAsk}
use Rattle.uss_intent.specs.declared.calls.DssAsk.TheVariants as Asks
use Rattle.uss_event.specs.declared.asks.Wish.TheVariants.{Put}
use Rattle.uss_event.specs.declared.asks.FlightAsk.{FlightAsk}
use Rattle.uss_event.specs.declared.asks.PositionAsk.{PositionAsk}
use Rattle.uss_event.specs.declared.entries.Entry.{Entry}
use Rattle.uss_event.specs.declared.entries.Entry.TheVariants as Enters
use Rattle.uss_event.specs.declared.details.Proposal.{Proposal}
use Rattle.uss_law_duty.specs.Worked.{now, volume, proposal, new_book, heard_open, pending, recorded, inside}
use Rattle.uss_law_supplier.specs.Values.{Values, Counted, no_values}
use Rattle.uss_law_duty.specs.Flown.{flown_pending, flown_held, first_seen, around_it, with_around, strayed_pending, strayed_tried_book}

abbrev pub flown_ticket_put : DssAsk
flown_ticket_put = Asks.TicketPut (ticket_number 1 2) volume (codes "http://uss1.test")

-- a minute after it was first seen, two minutes after that moment, and one nanosecond before that
abbrev pub a_minute_later : ℤ
a_minute_later = pos 1700004060000000000

abbrev pub two_minutes_later : ℤ
two_minutes_later = pos 1700004120000000000

abbrev pub just_before : ℤ
just_before = pos 1700004119999999999

-- the flight is inside its volume, as this request
abbrev pub within : ℕ → PositionAsk
within number = record inside { number = number }

-- the flight is 500 mm above its volume, and may be in the other one
abbrev pub strays : ℕ → PositionAsk
strays number =
    record { flight = 1; number = number; place = record { x = pos 0; y = pos 0 }; altitude = pos 1500; off_nominal = around_it ∷ [] }

-- it is lost
abbrev pub losing : ℕ → FlightAsk
losing number = record { flight = 1; number = number; wish = Put Contingent 0 1 (with_around ∷ []) }

-- lost, it may be seen inside: then no other volumes are given
abbrev pub losing_inside : ℕ → FlightAsk
losing_inside number = record { flight = 1; number = number; wish = Put Contingent 0 1 (proposal ∷ []) }

-- the call for the ticket of a job: round both volumes, or round the one
abbrev pub ticket_round : ℕ → Volume4D → DssAsk
ticket_round job area = Asks.TicketPut (ticket_number 1 job) area (codes "http://uss1.test")

-- the straying flight is held so
abbrev pub nonconforming_book : List Entry
nonconforming_book = strayed_tried_book ++ Enters.Held (record { job = 3; tag = 3; ovn = codes "ovn-0000000000000003"; version = 3; owed = [] }) ∷ []

-- and a lost flight is held so
abbrev pub contingent_book : List Entry
contingent_book =
    nonconforming_book
    ++ Enters.Opened (record { job = 4; moment = two_minutes_later; ask = losing 4 })
    ∷ Enters.TicketOpen 4
    ∷ Enters.Pending (record { job = 4; tag = 4; alternative = 0; previous = Some (codes "ovn-0000000000000003"); key = [] })
    ∷ Enters.Held (record { job = 4; tag = 4; ovn = codes "ovn-0000000000000004"; version = 4; owed = [] })
    ∷ []

-- a request of the flight at priority 5, which is then flown, and held as straying
abbrev pub at_five : ℕ → State → ℕ → Proposal → FlightAsk
at_five number to rounds p = record { flight = 1; number = number; wish = Put to 5 rounds (p ∷ []) }

abbrev pub prior_book : List Entry
prior_book =
    new_book
    ++ Enters.Opened (record { job = 1; moment = now; ask = at_five 1 Accepted 4 proposal })
    ∷ heard_open
    ∷ pending
    ∷ recorded
    ∷ Enters.Opened (record { job = 2; moment = now; ask = at_five 2 Activated 4 proposal })
    ∷ Enters.TicketOpen 2
    ∷ flown_pending
    ∷ flown_held
    ∷ []

abbrev pub prior_strayed_book : List Entry
prior_strayed_book =
    prior_book
    ++ Enters.Opened (record { job = 3; moment = first_seen; ask = at_five 3 Nonconforming 1 with_around })
    ∷ Enters.TicketOpen 3
    ∷ strayed_pending
    ∷ Enters.Held (record { job = 3; tag = 3; ovn = codes "ovn-0000000000000003"; version = 3; owed = [] })
    ∷ []

-- it was seen outside, or inside, at a moment
abbrev pub seen_outside : ℤ → Counted
seen_outside moment = record { flight = 1; sighting = record { moment = moment; inside = false } }

abbrev pub seen_inside : ℤ → Counted
seen_inside moment = record { flight = 1; sighting = record { moment = moment; inside = true } }

-- and so was flight 2
abbrev pub other_seen : Counted → Counted
other_seen c = record c { flight = 2 }

abbrev pub seen : List Counted → Values
seen positions = record no_values { positions = positions }

abbrev pub and_seen : List Counted → Values → Values
and_seen positions values = record values { positions = positions }
