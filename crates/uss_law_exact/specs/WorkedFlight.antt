-- A worked run of an exact supplier: the whole life of a flight, by a script that drains. It is planned, and flown; a position comes that
-- is above its volume, and acts as a request, so it goes into Nonconforming; it is ended; and a sweep takes its three tickets out.
use Rattle.std.specs.Prelude.{ℕ, List, [], ◌∷◌, ◌++◌, codes, Some, None}
use Rattle.uss_intent.specs.Identifiers.{ticket_number}
use Rattle.uss_intent.specs.declared.records.Landing.{Landing}
use Rattle.uss_event.specs.declared.asks.FlightAsk.{FlightAsk}
use Rattle.uss_event.specs.declared.asks.Wish.TheVariants.{End}
use Rattle.uss_event.specs.declared.entries.Ending.TheVariants.{Ended}
use Rattle.uss_event.specs.declared.entries.Entry.{Entry}
use Rattle.uss_event.specs.declared.entries.Entry.TheVariants as Enters
use Rattle.uss_event.specs.declared.events.Answer.TheVariants as Answers
use Rattle.uss_event.specs.declared.events.Said.{Said}
use Rattle.uss_event.specs.declared.events.Said.TheVariants as Says
use Rattle.uss_event.specs.declared.steps.Step.{Step}
use Rattle.uss_event.specs.declared.steps.Step.TheVariants as Steps
use Rattle.uss_law_duty.specs.Worked.{owner, now, ask, flight, ovn, planned}
use Rattle.uss_law_duty.specs.Flown.{flown_ask, flown_ovn, changed, first_seen}
use Rattle.uss_law_supplier.specs.Flown.{two_minutes_later, strays, nonconforming_book}
use Rattle.uss_law_world.specs.World.{Saying, World}
use Rattle.uss_law_exact.specs.Exact.{exact_start, exact_run}

abbrev pub ended_ask : FlightAsk
ended_ask = record { flight = 1; number = 4; wish = End }

abbrev pub whole_life : List Step
whole_life =
    Steps.Now now
    ∷ Steps.Ask 1 ask
    ∷ Steps.Drain 6
    ∷ Steps.Ask 1 flown_ask
    ∷ Steps.Drain 6
    ∷ Steps.Now first_seen
    ∷ Steps.Position 1 (strays 3)
    ∷ Steps.Drain 6
    ∷ Steps.Now two_minutes_later
    ∷ Steps.Ask 1 ended_ask
    ∷ Steps.Drain 2
    ∷ Steps.Sweep 1 0
    ∷ Steps.Drain 6
    ∷ []

abbrev pub whole_life_world : World
whole_life_world = (exact_run (exact_start (owner ∷ [])) whole_life).world

abbrev pub third_ovn : List ℕ
third_ovn = codes "ovn-0000000000000003"

-- what it says, of each request in turn
abbrev pub of_request : ℕ → Said → Saying
of_request number said = record { supplier = 1; flight = 1; number = number; said = said }

abbrev pub whole_life_sayings : List Saying
whole_life_sayings =
    of_request 1 planned
    ∷ of_request 2 changed
    ∷ of_request 3 (Says.Answer (Answers.Changed flight 3 0 third_ovn 3))
    ∷ of_request 4 (Says.Answer (Answers.Ended flight))
    ∷ []

-- what its book tells in the end
abbrev pub whole_life_book : List Entry
whole_life_book =
    nonconforming_book
    ++ Enters.Opened (record { job = 4; moment = two_minutes_later; ask = ended_ask })
    ∷ Enters.Done (record { job = 4; end = Ended [] })
    ∷ Enters.TicketGone 1
    ∷ Enters.TicketGone 2
    ∷ Enters.TicketGone 3
    ∷ []

-- the history of the discovery service, where nothing is recorded any more
abbrev pub whole_life_landings : List Landing
whole_life_landings =
    record { ovn = ovn; manager = codes "uss1"; tag = 1; flight = flight; previous = None; ticket = ticket_number 1 1 }
    ∷ record { ovn = flown_ovn; manager = codes "uss1"; tag = 2; flight = flight; previous = Some ovn; ticket = ticket_number 1 2 }
    ∷ record { ovn = third_ovn; manager = codes "uss1"; tag = 3; flight = flight; previous = Some flown_ovn; ticket = ticket_number 1 3 }
    ∷ []
