-- Further worked runs of one supplier, whose flight was planned: it is watched; it is ended.
use Rattle.std.specs.Prelude.{List, [], ◌∷◌, ◌++◌, Some, None}
use Rattle.uss_intent.specs.declared.calls.DssReply.{DssReply}
use Rattle.uss_intent.specs.declared.calls.DssReply.TheVariants as Replies
use Rattle.uss_event.specs.declared.asks.AskRefusal.TheVariants as Refuses
use Rattle.uss_event.specs.declared.asks.Conform.TheVariants as Finds
use Rattle.uss_event.specs.declared.entries.Entry.{Entry}
use Rattle.uss_event.specs.declared.entries.Entry.TheVariants as Enters
use Rattle.uss_event.specs.declared.events.Answer.TheVariants as Answers
use Rattle.uss_event.specs.declared.events.Said.{Said}
use Rattle.uss_event.specs.declared.events.Said.TheVariants as Says
use Rattle.uss_event.specs.declared.steps.Stopped.TheVariants as Turns
use Rattle.uss_law_duty.specs.Worked as One
use Rattle.uss_law_world.specs.World.{Saying}
use Rattle.uss_law_world.specs.Moves.{Move}
use Rattle.uss_law_world.specs.Moves.{Move as Moves}
use Rattle.uss_law_world.specs.Worked.{does, idle, deliver, asks, saying}

-- it is asked to plan its flight, has its ticket, and nothing is found
abbrev pub until_found : List Move
until_found =
    Moves.Now One.now
    ∷ asks (does (Some One.opened) (One.sends One.ticket_put) Says.Nothing)
    ∷ deliver 1 idle
    ∷ deliver 2 (does (Some One.heard_open) (One.sends One.query) Says.Nothing)
    ∷ deliver 3 idle
    ∷ []

-- it hears that, and puts
abbrev pub until_put : List Move
until_put = until_found ++ deliver 4 (does (Some One.pending) (One.sends One.put) Says.Nothing) ∷ []

-- the Put lands, and the flight is planned
abbrev pub until_planned : List Move
until_planned = until_put ++ deliver 5 idle ∷ deliver 6 (does (Some One.recorded) [] One.planned) ∷ []

abbrev pub planned_replies : List DssReply
planned_replies = Replies.TicketMade One.the_ticket ∷ Replies.Found [] ∷ Replies.Landed One.the_reference [] ∷ []

-- a saying about its second request
abbrev pub second_saying : Said → Saying
second_saying said = record { supplier = 1; flight = 1; number = 2; said = said }

-- the flight is where its plan says, and then above that; a position from before these is refused as old
abbrev pub watched : List Move
watched =
    until_planned
    ++ Moves.Now One.under_way
    ∷ Moves.Takes (Turns.Position 1 One.inside) (does None [] (Says.Answer (Answers.Steady Finds.Conforming)))
    ∷ Moves.Takes (Turns.Position 1 One.above_it) (does None [] (Says.Answer (Answers.Steady Finds.Nonconforming)))
    ∷ Moves.Now One.now
    ∷ Moves.Takes (Turns.Position 1 One.inside) (does None [] (Says.Refused (Refuses.OldPosition One.under_way)))
    ∷ []

abbrev pub watched_sayings : List Saying
watched_sayings =
    saying One.planned
    ∷ second_saying (Says.Answer (Answers.Steady Finds.Conforming))
    ∷ second_saying (Says.Answer (Answers.Steady Finds.Nonconforming))
    ∷ second_saying (Says.Refused (Refuses.OldPosition One.under_way))
    ∷ []

-- the flight is ended by a second request: what was recorded is removed. A sweep then takes the ticket out, and the next one has nothing
-- to do
abbrev pub ended_book : List Entry
ended_book = One.ending_book ++ One.end_done ∷ []

abbrev pub ticket_gone : Entry
ticket_gone = Enters.TicketGone 1

abbrev pub gone_book : List Entry
gone_book = ended_book ++ ticket_gone ∷ []

abbrev pub ended : List Move
ended =
    until_planned
    ++ Moves.Takes (Turns.Ask 1 One.end_ask) (does (Some One.end_opened) (One.end_sends One.remove) Says.Nothing)
    ∷ deliver 7 idle
    ∷ deliver 8 (does (Some One.end_done) [] (Says.Answer (Answers.Ended One.flight)))
    ∷ Moves.Takes (Turns.Sweep 1 0) (does None (One.sends One.ticket_remove) Says.Nothing)
    ∷ deliver 9 idle
    ∷ deliver 10 (does (Some ticket_gone) [] Says.Nothing)
    ∷ Moves.Takes (Turns.Sweep 1 0) (does None [] Says.Nothing)
    ∷ []

abbrev pub ended_replies : List DssReply
ended_replies = planned_replies ++ Replies.Removed One.the_reference [] ∷ Replies.TicketRemoved One.the_ticket ∷ []

abbrev pub ended_sayings : List Saying
ended_sayings = saying One.planned ∷ second_saying (Says.Answer (Answers.Ended One.flight)) ∷ []
