-- A worked run of two suppliers: the first is to notify the second of its landing, whose ticket is for the same airspace, and notifies it once.
use Rattle.std.specs.Prelude.{List, [], ◌∷◌, ◌++◌, Some, None}
use Rattle.uss_intent.specs.declared.calls.DssReply.{DssReply}
use Rattle.uss_intent.specs.declared.calls.DssReply.TheVariants as Replies
use Rattle.uss_event.specs.declared.calls.Outgoing.TheVariants as Goes
use Rattle.uss_event.specs.declared.entries.Entry.{Entry}
use Rattle.uss_event.specs.declared.events.Said.TheVariants as Says
use Rattle.uss_event.specs.declared.steps.Stopped.TheVariants as Turns
use Rattle.uss_law_duty.specs.Worked as One
use Rattle.uss_law_world.specs.World.{Saying}
use Rattle.uss_law_world.specs.Moves.{Move}
use Rattle.uss_law_world.specs.Moves.{Move as Moves}
use Rattle.uss_law_world.specs.Worked.{does, idle, deliver, asks, saying, second_ticket_put, the_second_ticket}
use Rattle.uss_law_world.specs.Contested.{landed_notifying, recorded_owing, owing_book, hears}

-- the first's book once the second was notified
abbrev pub notifying_book : List Entry
notifying_book = owing_book ++ One.notified ∷ []

-- the second has its ticket, of which it doesn't hear; the first plans its flight. A sweep notifies the second, which notes it; the next
-- sweep has nothing to do
abbrev pub notifying : List Move
notifying =
    Moves.Now One.now
    ∷ Moves.Takes (Turns.Ask 2 One.ask) (does (Some One.opened) (One.sends second_ticket_put) Says.Nothing)
    ∷ deliver 1 idle
    ∷ asks (does (Some One.opened) (One.sends One.ticket_put) Says.Nothing)
    ∷ deliver 3 idle
    ∷ deliver 4 (does (Some One.heard_open) (One.sends One.query) Says.Nothing)
    ∷ deliver 5 idle
    ∷ deliver 6 (does (Some One.pending) (One.sends One.put) Says.Nothing)
    ∷ deliver 7 idle
    ∷ deliver 8 (does (Some recorded_owing) [] One.planned)
    ∷ Moves.Takes (Turns.Sweep 1 0) (does None (Goes.Peer One.notify ∷ []) Says.Nothing)
    ∷ deliver 9 (hears None [] Says.Noted)
    ∷ deliver 10 (does (Some One.notified) [] Says.Nothing)
    ∷ Moves.Takes (Turns.Sweep 1 0) (does None [] Says.Nothing)
    ∷ []

abbrev pub notifying_replies : List DssReply
notifying_replies = Replies.TicketMade the_second_ticket ∷ Replies.TicketMade One.the_ticket ∷ Replies.Found [] ∷ landed_notifying ∷ []

abbrev pub notifying_sayings : List Saying
notifying_sayings = saying One.planned ∷ record { supplier = 2; flight = 0; number = 0; said = Says.Noted } ∷ []
