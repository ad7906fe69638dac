-- A worked run of two suppliers that want one volume at one time: the second's key lacks the first's OVN; it asks the first for the
-- details, and gives up.
use Rattle.std.specs.Prelude.{List, [], ◌∷◌, ◌++◌, codes, Option, Some, None}
use Rattle.uss_intent.specs.declared.records.Subscriber.{Subscriber}
use Rattle.uss_intent.specs.declared.records.Ticket.{Ticket}
use Rattle.uss_intent.specs.declared.calls.DssAsk.{DssAsk}
use Rattle.uss_intent.specs.declared.calls.DssAsk.TheVariants as Asks
use Rattle.uss_intent.specs.declared.calls.DssReply.{DssReply}
use Rattle.uss_intent.specs.declared.calls.DssReply.TheVariants as Replies
use Rattle.uss_law_duty.specs.Duties.{Choice}
use Rattle.uss_event.specs.declared.rules.Verdict.TheVariants.{EqualForbidden}
use Rattle.uss_event.specs.declared.entries.Ending.{Ending}
use Rattle.uss_event.specs.declared.entries.Ending.TheVariants as Ends
use Rattle.uss_event.specs.declared.entries.Entry.{Entry}
use Rattle.uss_event.specs.declared.entries.Entry.TheVariants as Enters
use Rattle.uss_event.specs.declared.calls.PeerCall.{PeerCall}
use Rattle.uss_event.specs.declared.calls.PeerCall.TheVariants as Calls
use Rattle.uss_event.specs.declared.calls.Outgoing.{Outgoing}
use Rattle.uss_event.specs.declared.calls.Outgoing.TheVariants as Goes
use Rattle.uss_event.specs.declared.events.Answer.{Answer}
use Rattle.uss_event.specs.declared.events.Answer.TheVariants as Answers
use Rattle.uss_event.specs.declared.events.Said.{Said}
use Rattle.uss_event.specs.declared.events.Said.TheVariants as Says
use Rattle.uss_event.specs.Heard.{News}
use Rattle.uss_event.specs.Heard.News.{Heard}
use Rattle.uss_law_duty.specs.Worked as One
use Rattle.uss_law_world.specs.World.{Saying}
use Rattle.uss_law_world.specs.Moves.{Move}
use Rattle.uss_law_world.specs.Worked.{does, idle, deliver, saying, second_ticket, the_second_ticket, second_tried_book, hidden, both_put, both_put_replies}

-- the first supplier is to tell the second of what it recorded
abbrev pub second_subscriber : Subscriber
second_subscriber = record { base = codes "http://uss2.test"; ticket = second_ticket; index = 1 }

abbrev pub landed_notifying : DssReply
landed_notifying = Replies.Landed One.the_reference (second_subscriber ∷ [])

abbrev pub recorded_owing : Entry
recorded_owing = Enters.Held (record { job = 1; tag = 1; ovn = One.ovn; version = 1; owed = second_subscriber ∷ [] })

abbrev pub owing_book : List Entry
owing_book = One.tried_book ++ recorded_owing ∷ []

-- the second asks the first for the details, and hears its intent
abbrev pub details : PeerCall
details = Calls.Details 1 One.flight (codes "uss1") (codes "http://uss1.test/a/1")

abbrev pub asks_details : List Outgoing
asks_details = Goes.Peer details ∷ []

abbrev pub heard_first : List News
heard_first = Heard One.held_pair ∷ []

-- it gives up: its ticket goes first
abbrev pub in_conflict : Ending
in_conflict = Ends.Conflict One.flight (codes "uss1") EqualForbidden

abbrev pub conflict : Answer
conflict = Answers.Conflict One.flight (codes "uss1") EqualForbidden

abbrev pub deciding : Entry
deciding = Enters.Deciding (record { job = 1; end = in_conflict })

abbrev pub second_deciding_book : List Entry
second_deciding_book = second_tried_book ++ deciding ∷ []

abbrev pub done : Entry
done = Enters.Done (record { job = 1; end = in_conflict })

abbrev pub second_ticket_remove : DssAsk
second_ticket_remove = Asks.TicketRemove second_ticket 1

abbrev pub notified_ticket : Ticket
notified_ticket = record the_second_ticket { index = 1 }

abbrev pub hears : Option Entry → List Outgoing → Said → Choice
hears entry sends said = record { entry = entry; sends = sends; said = said; heard = heard_first }

abbrev pub given_up : List Move
given_up =
    both_put
    ++ deliver 13 idle
    ∷ deliver 11 (does (Some recorded_owing) [] One.planned)
    ∷ deliver 14 (does None asks_details Says.Nothing)
    ∷ deliver 15 (does None [] (Says.Pair (Some One.held_pair)))
    ∷ deliver 16 (hears (Some deciding) (One.sends second_ticket_remove) Says.Nothing)
    ∷ deliver 17 idle
    ∷ deliver 18 (hears (Some done) [] (Says.Answer conflict))
    ∷ []

abbrev pub given_up_replies : List DssReply
given_up_replies = both_put_replies ++ Replies.Found (hidden ∷ []) ∷ Replies.TicketRemoved notified_ticket ∷ []

abbrev pub given_up_sayings : List Saying
given_up_sayings =
    saying One.planned
    ∷ record { supplier = 1; flight = 0; number = 0; said = Says.Pair (Some One.held_pair) }
    ∷ record { supplier = 2; flight = 1; number = 1; said = Says.Answer conflict }
    ∷ []
