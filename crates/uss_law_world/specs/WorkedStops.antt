-- Further worked runs of one supplier: a call fails that the discovery service took; the supplier stops once its Put left; it stops once
-- it gave its answer.
use Rattle.std.specs.Prelude.{true, false, List, [], ◌∷◌, ◌++◌, Some, None}
use Rattle.uss_event.specs.declared.events.Said.TheVariants as Says
use Rattle.uss_event.specs.declared.steps.Stopped.TheVariants as Turns
use Rattle.uss_law_duty.specs.Worked as One
use Rattle.uss_law_world.specs.World.{Saying}
use Rattle.uss_law_world.specs.Moves.{Move}
use Rattle.uss_law_world.specs.Moves.{Move as Moves}
use Rattle.uss_law_world.specs.Worked.{does, idle, deliver, asks, saying}
use Rattle.uss_law_world.specs.WorkedEnds.{until_found, until_put}

-- it is asked again: its second Put, message 7, is refused since the first is recorded, and it asks for the flight and finds its landing
abbrev pub asks_for_landing : List Move
asks_for_landing =
    asks (does None (One.sends One.put) Says.Nothing)
    ∷ deliver 7 idle
    ∷ deliver 8 (does None (One.sends One.get) Says.Nothing)
    ∷ deliver 9 idle
    ∷ deliver 10 (does (Some One.recorded) [] One.planned)
    ∷ []

-- it is told that its Put failed, and says that its attempt may still be recorded; and the Put lands
abbrev pub failed : List Move
failed = until_put ++ Moves.Fault 5 (does None [] (Says.Left (1 ∷ []))) ∷ deliver 5 idle ∷ asks_for_landing

abbrev pub failed_sayings : List Saying
failed_sayings = saying (Says.Left (1 ∷ [])) ∷ saying One.planned ∷ []

-- it stops when its attempt is entered and the Put has left; the Put lands; at the reply it stops before anything is kept
abbrev pub stopped_twice : List Move
stopped_twice =
    until_found
    ++ Moves.Stop true 1 (Turns.Deliver 4) (does (Some One.pending) (One.sends One.put) Says.Nothing)
    ∷ deliver 5 idle
    ∷ Moves.Stop false 1 (Turns.Deliver 6) (does None (One.sends One.put) Says.Nothing)
    ∷ asks_for_landing

-- it stops when its landing is entered and it answered; asked again, it gives the answer that it kept
abbrev pub answered_twice : List Move
answered_twice =
    until_put
    ++ deliver 5 idle
    ∷ Moves.Stop true 0 (Turns.Deliver 6) (does (Some One.recorded) [] One.planned)
    ∷ asks (does None [] One.planned)
    ∷ []

abbrev pub answered_twice_sayings : List Saying
answered_twice_sayings = saying One.planned ∷ saying One.planned ∷ []
