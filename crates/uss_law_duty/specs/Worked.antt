-- A worked job of one supplier, step by step: the request, its ticket, what is found, the attempt and its record; and what else may come.
use Rattle.std.specs.Prelude.{ℕ, ℤ, pos, List, [], ◌∷◌, ◌++◌, codes, Some, None}
use Rattle.uss_shape.specs.Shape.{corners}
use Rattle.uss_vol4.specs.Volume.{Volume4D}
use Rattle.uss_intent.specs.Identifiers.{flight_number, ticket_number}
use Rattle.uss_intent.specs.declared.records.Reference.{Reference}
use Rattle.uss_intent.specs.declared.records.Ticket.{Ticket}
use Rattle.uss_intent.specs.declared.records.Subscriber.{Subscriber}
use Rattle.uss_intent.specs.declared.records.State.TheVariants.{Accepted}
use Rattle.uss_intent.specs.declared.calls.DssAsk.{DssAsk}
use Rattle.uss_intent.specs.declared.calls.DssAsk.TheVariants as Asks
use Rattle.uss_intent.specs.declared.calls.DssReply.{DssReply}
use Rattle.uss_intent.specs.declared.calls.DssReply.TheVariants as Replies
use Rattle.uss_intent.specs.declared.calls.DssRefusal.TheVariants as Refuses
use Rattle.uss_event.specs.declared.asks.FlightAsk.{FlightAsk}
use Rattle.uss_event.specs.declared.asks.PositionAsk.{PositionAsk}
use Rattle.uss_event.specs.declared.asks.Wish.TheVariants as Wishes
use Rattle.uss_event.specs.declared.details.Proposal.{Proposal}
use Rattle.uss_event.specs.declared.entries.Owner.{Owner}
use Rattle.uss_event.specs.declared.entries.Ending.TheVariants as Ends
use Rattle.uss_event.specs.declared.entries.Entry.{Entry}
use Rattle.uss_event.specs.declared.entries.Entry.TheVariants as Enters
use Rattle.uss_event.specs.declared.calls.Outgoing.{Outgoing}
use Rattle.uss_event.specs.declared.calls.Outgoing.TheVariants as Goes
use Rattle.uss_event.specs.Pairs.{OperationalIntent}
use Rattle.uss_event.specs.declared.calls.Note.{Note}
use Rattle.uss_event.specs.declared.calls.PeerCall.{PeerCall}
use Rattle.uss_event.specs.declared.calls.PeerCall.TheVariants as Calls
use Rattle.uss_law_book.specs.Attempts.{attempted, recorded_as}
use Rattle.uss_event.specs.declared.events.Answer.TheVariants.{Planned}
use Rattle.uss_event.specs.declared.events.Said.{Said}
use Rattle.uss_event.specs.declared.events.Said.TheVariants as Says
use Rattle.uss_event.specs.declared.events.Event.{Event}
use Rattle.uss_event.specs.declared.events.Event.TheVariants as Comes

-- 2023-11-14, 22:13:20 UTC
abbrev pub now : ℤ
now = pos 1700000000000000000

-- supplier 1, which forbids conflict at priority 0
abbrev pub owner : Owner
owner = record { number = 1; name = codes "uss1"; base = codes "http://uss1.test"; table = 0 ∷ [] }

-- the rectangle from (0, 0) to (100, 100), from 0 to 1000 mm, on 2023-11-14 from 23:13:20 to 23:43:20 UTC
abbrev pub volume : Volume4D
volume =
    record {
      outline = corners (record { x1 = pos 0; y1 = pos 0; x2 = pos 100; y2 = pos 100 });
      low = pos 0;
      high = pos 1000;
      start = pos 1700003600000000000;
      end = pos 1700005400000000000;
    }

abbrev pub proposal : Proposal
proposal = record { volumes = volume ∷ []; off_nominal = [] }

-- flight 1 is to be planned, by its request number 1, in four rounds
abbrev pub ask : FlightAsk
ask = record { flight = 1; number = 1; wish = Wishes.Put Accepted 0 4 (proposal ∷ []) }

abbrev pub flight : ℕ
flight = flight_number 1 1

abbrev pub ticket : ℕ
ticket = ticket_number 1 1

abbrev pub ovn : List ℕ
ovn = codes "ovn-0000000000000001"

-- the entries, and the book after each
abbrev pub opened : Entry
opened = Enters.Opened (record { job = 1; moment = now; ask = ask })

abbrev pub heard_open : Entry
heard_open = Enters.TicketOpen 1

abbrev pub pending : Entry
pending = Enters.Pending (record { job = 1; tag = 1; alternative = 0; previous = None; key = [] })

abbrev pub recorded : Entry
recorded = Enters.Held (record { job = 1; tag = 1; ovn = ovn; version = 1; owed = [] })

abbrev pub cancelling : Entry
cancelling = Enters.Deciding (record { job = 1; end = Ends.Cancelled })

abbrev pub new_book : List Entry
new_book = Enters.Owner owner ∷ []

abbrev pub asked_book : List Entry
asked_book = new_book ++ opened ∷ []

abbrev pub ticket_book : List Entry
ticket_book = asked_book ++ heard_open ∷ []

abbrev pub tried_book : List Entry
tried_book = ticket_book ++ pending ∷ []

-- the calls of the job
abbrev pub ticket_put : DssAsk
ticket_put = Asks.TicketPut ticket volume (codes "http://uss1.test")

abbrev pub query : DssAsk
query = Asks.Query volume

abbrev pub put : DssAsk
put = Asks.Put flight None (volume ∷ []) [] Accepted (codes "http://uss1.test/a/1") ticket

abbrev pub ticket_remove : DssAsk
ticket_remove = Asks.TicketRemove ticket 1

abbrev pub sends : DssAsk → List Outgoing
sends call = Goes.Dss (record { job = 1; ask = call }) ∷ []

abbrev pub replied : DssAsk → DssReply → Event
replied call reply = Comes.Dss (record { job = 1; ask = call }) reply

-- the replies
abbrev pub the_ticket : Ticket
the_ticket = record { id = ticket; manager = codes "uss1"; area = volume; base = codes "http://uss1.test"; index = 0 }

abbrev pub the_reference : Reference
the_reference =
    record {
      flight = flight;
      manager = codes "uss1";
      version = 1;
      state = Accepted;
      ovn = Some ovn;
      start = volume.start;
      end = volume.end;
      base = codes "http://uss1.test/a/1";
      ticket = ticket;
    }

abbrev pub planned : Said
planned = Says.Answer (Planned flight 1 0 ovn 1)

abbrev pub missing : DssReply
missing = Replies.Refused (Refuses.MissingKey (record the_reference { flight = 2; ovn = None } ∷ []))

abbrev pub cancelled_book : List Entry
cancelled_book = tried_book ++ cancelling ∷ []

abbrev pub held_book : List Entry
held_book = tried_book ++ recorded ∷ []

abbrev pub done : Entry
done = Enters.Done (record { job = 1; end = Ends.Cancelled })

abbrev pub get : DssAsk
get = Asks.Get flight

abbrev pub exists : DssReply
exists = Replies.Refused Refuses.Exists

-- another supplier's flight, 2 m above the volume, as its manager served it
abbrev pub above : Volume4D
above = record volume { low = pos 3000; high = pos 4000 }

abbrev pub other_ovn : List ℕ
other_ovn = codes "ovn-0000000000000007"

abbrev pub other_reference : Reference
other_reference =
    record {
      flight = flight_number 2 1;
      manager = codes "uss2";
      version = 1;
      state = Accepted;
      ovn = Some other_ovn;
      start = volume.start;
      end = volume.end;
      base = codes "http://uss2.test/a/1";
      ticket = ticket_number 2 1;
    }

abbrev pub other_pair : OperationalIntent
other_pair = record { reference = other_reference; details = record { volumes = above ∷ []; off_nominal = []; priority = 0 } }

abbrev pub keyed : Entry
keyed = Enters.Pending (record { job = 1; tag = 1; alternative = 0; previous = None; key = other_ovn ∷ [] })

abbrev pub keyed_put : DssAsk
keyed_put = Asks.Put flight None (volume ∷ []) (other_ovn ∷ []) Accepted (codes "http://uss1.test/a/1") ticket

abbrev pub keyed_book : List Entry
keyed_book = ticket_book ++ keyed ∷ []

abbrev pub details_of_other : PeerCall
details_of_other = Calls.Details 1 (flight_number 2 1) (codes "uss2") (codes "http://uss2.test/a/1")

-- what is held once the attempt is recorded
abbrev pub held_pair : OperationalIntent
held_pair = recorded_as (attempted owner (record { job = 1; moment = now; ask = ask }) (record { job = 1; tag = 1; alternative = 0; previous = None; key = [] }) Accepted 0 proposal) ovn 1

-- the end of the flight, by its request number 2
abbrev pub end_ask : FlightAsk
end_ask = record { flight = 1; number = 2; wish = Wishes.End }

abbrev pub end_opened : Entry
end_opened = Enters.Opened (record { job = 2; moment = now; ask = end_ask })

abbrev pub ending_book : List Entry
ending_book = held_book ++ end_opened ∷ []

abbrev pub remove : DssAsk
remove = Asks.Remove flight ovn

abbrev pub end_sends : DssAsk → List Outgoing
end_sends call = Goes.Dss (record { job = 2; ask = call }) ∷ []

abbrev pub end_replied : DssAsk → DssReply → Event
end_replied call reply = Comes.Dss (record { job = 2; ask = call }) reply

abbrev pub end_done : Entry
end_done = Enters.Done (record { job = 2; end = Ends.Ended [] })

-- the same record, of which another supplier is to be notified
abbrev pub subscriber : Subscriber
subscriber = record { base = codes "http://uss2.test"; ticket = ticket_number 2 1; index = 1 }

abbrev pub owing : Entry
owing = Enters.Held (record { job = 1; tag = 1; ovn = ovn; version = 1; owed = subscriber ∷ [] })

abbrev pub owing_book : List Entry
owing_book = tried_book ++ owing ∷ []

abbrev pub note : Note
note = record { flight = flight; pair = Some held_pair; ticket = ticket_number 2 1; index = 1 }

abbrev pub notify : PeerCall
notify = Calls.Notify 1 0 (codes "http://uss2.test") note

abbrev pub notified : Entry
notified = Enters.Sent (record { job = 1; index = 0 })

-- another supplier tells of its flight, and that it has ended
abbrev pub note_of_other : Note
note_of_other = record { flight = flight_number 2 1; pair = Some other_pair; ticket = ticket; index = 1 }

abbrev pub note_of_end : Note
note_of_end = record { flight = flight_number 2 1; pair = None; ticket = ticket; index = 2 }

-- 23:30:00
abbrev pub under_way : ℤ
under_way = pos 1700004600000000000

-- the flight is at the volume's first corner, 500 mm up, and then 500 mm above it
abbrev pub inside : PositionAsk
inside = record { flight = 1; number = 2; place = record { x = pos 0; y = pos 0 }; altitude = pos 500; off_nominal = [] }

abbrev pub above_it : PositionAsk
above_it = record { flight = 1; number = 2; place = record { x = pos 0; y = pos 0 }; altitude = pos 1500; off_nominal = [] }
