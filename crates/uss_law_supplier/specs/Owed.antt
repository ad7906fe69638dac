-- Worked steps of what closed jobs have still to do: two notifications that job 1 owes, one of job 2, which changed the same flight, and
-- the tickets of job 1, which isn't needed any more, and of job 3, which was cancelled.
use Rattle.std.specs.Prelude.{ℕ, List, [], ◌∷◌, ◌++◌, map, codes, Some, None}
use Rattle.std.specs.List.{range_with_len}
use Rattle.uss_intent.specs.Identifiers.{ticket_number}
use Rattle.uss_intent.specs.declared.records.Subscriber.{Subscriber}
use Rattle.uss_intent.specs.declared.calls.DssAsk.{DssAsk}
use Rattle.uss_intent.specs.declared.calls.DssAsk.TheVariants as Asks
use Rattle.uss_event.specs.declared.entries.Ending.TheVariants as Ends
use Rattle.uss_event.specs.declared.entries.Entry.{Entry}
use Rattle.uss_event.specs.declared.entries.Entry.TheVariants as Enters
use Rattle.uss_event.specs.declared.calls.PeerCall.{PeerCall}
use Rattle.uss_event.specs.declared.calls.PeerCall.TheVariants as Calls
use Rattle.uss_event.specs.declared.calls.Outgoing.{Outgoing}
use Rattle.uss_event.specs.declared.calls.Outgoing.TheVariants as Goes
use Rattle.uss_law_duty.specs.Worked.{now, flight, ovn, tried_book, subscriber}
use Rattle.uss_law_supplier.specs.Cases.{upper_ask, opens}
use Rattle.uss_law_duty.specs.Flown.{flown_opened, flown_pending, flown_ovn, flown_pair}

abbrev pub third_subscriber : Subscriber
third_subscriber = record { base = codes "http://uss3.test"; ticket = ticket_number 3 1; index = 5 }

abbrev pub chores_book : List Entry
chores_book =
    tried_book
    ++ Enters.Held (record { job = 1; tag = 1; ovn = ovn; version = 1; owed = subscriber ∷ third_subscriber ∷ [] })
    ∷ flown_opened
    ∷ Enters.TicketOpen 2
    ∷ flown_pending
    ∷ Enters.Held (record { job = 2; tag = 2; ovn = flown_ovn; version = 2; owed = subscriber ∷ [] })
    ∷ Enters.Opened (record { job = 3; moment = now; ask = upper_ask })
    ∷ Enters.TicketOpen 3
    ∷ Enters.Done (record { job = 3; end = Ends.Cancelled })
    ∷ []

-- beside these, so many jobs are open, of flights 104 and on
abbrev pub busy_chores_book : ℕ → List Entry
busy_chores_book jobs = chores_book ++ map opens (range_with_len 4 jobs)

-- a job notifies the subscriber with an index of what is held of the flight then
abbrev pub notifies_flown : ℕ → ℕ → Subscriber → Outgoing
notifies_flown job index s =
    Goes.Peer (Calls.Notify job index s.base (record { flight = flight; pair = Some flown_pair; ticket = s.ticket; index = s.index }))

-- the first of each is done
abbrev pub fewer_chores_book : List Entry
fewer_chores_book = chores_book ++ Enters.Sent (record { job = 1; index = 0 }) ∷ Enters.TicketGone 1 ∷ []

abbrev pub third_remove : DssAsk
third_remove = Asks.TicketRemove (ticket_number 1 3) 1

-- the flight has ended, of which another supplier is to be notified
abbrev pub ended_owing : Entry
ended_owing = Enters.Done (record { job = 2; end = Ends.Ended (subscriber ∷ []) })

abbrev pub notice_of_end : PeerCall
notice_of_end = Calls.Notify 2 0 subscriber.base (record { flight = flight; pair = None; ticket = subscriber.ticket; index = subscriber.index })
