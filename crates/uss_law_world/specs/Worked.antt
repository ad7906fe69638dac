-- Worked runs of the world. One supplier plans a flight, and the reply that it landed is lost; one cancels, and a late copy of its Put
-- comes after its ticket is gone; two put at once without keys over one volume.
use Rattle.std.specs.Prelude.{ℕ, true, List, [], ◌∷◌, ◌++◌, filter, codes, Option, Some, None}
use Rattle.uss_intent.specs.Identifiers.{flight_number, ticket_number}
use Rattle.uss_intent.specs.declared.records.Reference.{Reference}
use Rattle.uss_intent.specs.declared.records.Ticket.{Ticket}
use Rattle.uss_intent.specs.declared.records.State.TheVariants.{Accepted}
use Rattle.uss_intent.specs.declared.calls.DssAsk.{DssAsk}
use Rattle.uss_intent.specs.declared.calls.DssAsk.TheVariants as Asks
use Rattle.uss_intent.specs.declared.calls.DssReply.{DssReply}
use Rattle.uss_intent.specs.declared.calls.DssReply.TheVariants as Replies
use Rattle.uss_intent.specs.declared.calls.DssRefusal.TheVariants as Refuses
use Rattle.uss_event.specs.declared.entries.Owner.{Owner}
use Rattle.uss_event.specs.declared.entries.Entry.{Entry}
use Rattle.uss_event.specs.declared.entries.Entry.TheVariants as Enters
use Rattle.uss_event.specs.declared.calls.Outgoing.{Outgoing}
use Rattle.uss_event.specs.declared.events.Said.{Said}
use Rattle.uss_event.specs.declared.events.Said.TheVariants as Says
use Rattle.uss_event.specs.declared.events.Answer.TheVariants as Answers
use Rattle.uss_event.specs.declared.steps.Stopped.TheVariants as Turns
use Rattle.uss_law_duty.specs.Duties.{says_something, Choice}
use Rattle.uss_law_duty.specs.Worked as One
use Rattle.uss_law_world.specs.World.{Post, Saying, World}
use Rattle.uss_law_world.specs.World.Post.{Called, Replied, Asked, Answered}
use Rattle.uss_law_world.specs.Moves.{Move}
use Rattle.uss_law_world.specs.Moves.{Move as Moves}

-- what was said, but for nothing
abbrev pub said_in : World → List Saying
said_in w = filter (λ x. says_something x.said) w.sayings

-- the replies of the discovery service, oldest first
abbrev pub replies_of : List Post → List DssReply
replies_of [] = []
replies_of (Called from call ∷ posts) = replies_of posts
replies_of (Replied to answered call reply ∷ posts) = reply ∷ replies_of posts
replies_of (Asked from to call ∷ posts) = replies_of posts
replies_of (Answered to answered call reply ∷ posts) = replies_of posts

abbrev pub replies_in : World → List DssReply
replies_in w = replies_of w.posts

-- a supplier does this, and has heard nothing
abbrev pub does : Option Entry → List Outgoing → Said → Choice
does entry sends said = record { entry = entry; sends = sends; said = said; heard = [] }

-- it does nothing: the discovery service takes a call by itself
abbrev pub idle : Choice
idle = does None [] Says.Nothing

abbrev pub deliver : ℕ → Choice → Move
deliver k c = Moves.Takes (Turns.Deliver k) c

-- supplier 1 is asked to plan its flight 1
abbrev pub asks : Choice → Move
asks c = Moves.Takes (Turns.Ask 1 One.ask) c

abbrev pub saying : Said → Saying
saying said = record { supplier = 1; flight = 1; number = 1; said = said }

-- it stops when its attempt is entered and the Put didn't leave; the Put goes out when the request comes again; the reply that it
-- landed is lost, and the supplier restarts; the next Put is refused, and asking for the flight finds the landing
abbrev pub found_again : List Move
found_again =
    Moves.Now One.now
    ∷ asks (does (Some One.opened) (One.sends One.ticket_put) Says.Nothing)
    ∷ deliver 1 idle
    ∷ deliver 2 (does (Some One.heard_open) (One.sends One.query) Says.Nothing)
    ∷ deliver 3 idle
    ∷ Moves.Stop true 0 (Turns.Deliver 4) (does (Some One.pending) (One.sends One.put) Says.Nothing)
    ∷ asks (does None (One.sends One.put) Says.Nothing)
    ∷ deliver 5 idle
    ∷ Moves.Lose 6
    ∷ Moves.Restart 1
    ∷ asks (does None (One.sends One.put) Says.Nothing)
    ∷ deliver 7 idle
    ∷ deliver 8 (does None (One.sends One.get) Says.Nothing)
    ∷ Moves.Drain (idle ∷ does (Some One.recorded) [] One.planned ∷ [])
    ∷ []

abbrev pub found_again_replies : List DssReply
found_again_replies =
    Replies.TicketMade One.the_ticket
    ∷ Replies.Found []
    ∷ Replies.Landed One.the_reference []
    ∷ Replies.Refused Refuses.Exists
    ∷ Replies.Got One.the_reference
    ∷ []

-- the request is cancelled before its Put comes, and the Put comes late, twice
abbrev pub cancelled_early : List Move
cancelled_early =
    Moves.Now One.now
    ∷ asks (does (Some One.opened) (One.sends One.ticket_put) Says.Nothing)
    ∷ deliver 1 idle
    ∷ deliver 2 (does (Some One.heard_open) (One.sends One.query) Says.Nothing)
    ∷ deliver 3 idle
    ∷ deliver 4 (does (Some One.pending) (One.sends One.put) Says.Nothing)
    ∷ Moves.Takes (Turns.Cancel 1 1 1) (does (Some One.cancelling) (One.sends One.ticket_remove) Says.Nothing)
    ∷ deliver 6 idle
    ∷ deliver 7 (does (Some One.done) [] (Says.Answer Answers.Cancelled))
    ∷ deliver 5 idle
    ∷ deliver 5 idle
    ∷ []

abbrev pub cancelled_early_replies : List DssReply
cancelled_early_replies =
    Replies.TicketMade One.the_ticket
    ∷ Replies.Found []
    ∷ Replies.TicketRemoved One.the_ticket
    ∷ Replies.Refused Refuses.NoTicket
    ∷ Replies.Refused Refuses.NoTicket
    ∷ []

-- supplier 2, with the same table, is asked to plan its flight 1 over the same volume at the same time
abbrev pub second : Owner
second = record { number = 2; name = codes "uss2"; base = codes "http://uss2.test"; table = 0 ∷ [] }

abbrev pub second_flight : ℕ
second_flight = flight_number 2 1

abbrev pub second_ticket : ℕ
second_ticket = ticket_number 2 1

abbrev pub second_ticket_put : DssAsk
second_ticket_put = Asks.TicketPut second_ticket One.volume (codes "http://uss2.test")

abbrev pub second_put : DssAsk
second_put = Asks.Put second_flight None (One.volume ∷ []) [] Accepted (codes "http://uss2.test/a/1") second_ticket

abbrev pub the_second_ticket : Ticket
the_second_ticket = record { id = second_ticket; manager = codes "uss2"; area = One.volume; base = codes "http://uss2.test"; index = 0 }

-- the reference of supplier 1's flight, as supplier 2 sees it
abbrev pub hidden : Reference
hidden = record One.the_reference { ovn = None }

-- its book after each entry
abbrev pub second_book : List Entry
second_book = Enters.Owner second ∷ []

abbrev pub second_asked_book : List Entry
second_asked_book = second_book ++ One.opened ∷ []

abbrev pub second_ticket_book : List Entry
second_ticket_book = second_asked_book ++ One.heard_open ∷ []

abbrev pub second_tried_book : List Entry
second_tried_book = second_ticket_book ++ One.pending ∷ []

abbrev pub lacks_key : DssReply
lacks_key = Replies.Refused (Refuses.MissingKey (hidden ∷ []))

-- both find nothing, and put at once with empty keys: the first that comes lands, and the other lacks its OVN
abbrev pub both_put : List Move
both_put =
    Moves.Now One.now
    ∷ asks (does (Some One.opened) (One.sends One.ticket_put) Says.Nothing)
    ∷ Moves.Takes (Turns.Ask 2 One.ask) (does (Some One.opened) (One.sends second_ticket_put) Says.Nothing)
    ∷ deliver 1 idle
    ∷ deliver 2 idle
    ∷ deliver 3 (does (Some One.heard_open) (One.sends One.query) Says.Nothing)
    ∷ deliver 4 (does (Some One.heard_open) (One.sends One.query) Says.Nothing)
    ∷ deliver 5 idle
    ∷ deliver 6 idle
    ∷ deliver 7 (does (Some One.pending) (One.sends One.put) Says.Nothing)
    ∷ deliver 8 (does (Some One.pending) (One.sends second_put) Says.Nothing)
    ∷ deliver 9 idle
    ∷ deliver 10 idle
    ∷ deliver 12 (does None (One.sends One.query) Says.Nothing)
    ∷ []

abbrev pub both_put_replies : List DssReply
both_put_replies =
    Replies.TicketMade One.the_ticket
    ∷ Replies.TicketMade the_second_ticket
    ∷ Replies.Found []
    ∷ Replies.Found []
    ∷ Replies.Landed One.the_reference (record { base = codes "http://uss2.test"; ticket = second_ticket; index = 1 } ∷ [])
    ∷ lacks_key
    ∷ []
