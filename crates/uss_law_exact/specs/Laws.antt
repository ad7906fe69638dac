-- What holds of the runs of exact suppliers.
use Rattle.std.specs.Prelude.{ℕ, ◌≡◌, List, ◌++◌, Some}
use Rattle.uss_intent.specs.declared.calls.DssAsk.TheVariants as Asks
use Rattle.uss_intent.specs.declared.calls.DssReply.{DssReply}
use Rattle.uss_event.specs.declared.entries.Owner.{Owner}
use Rattle.uss_event.specs.declared.calls.DssCall.{DssCall}
use Rattle.uss_event.specs.declared.events.Answer.TheVariants as Answers
use Rattle.uss_event.specs.declared.events.Said.{Said}
use Rattle.uss_event.specs.declared.events.Said.TheVariants as Says
use Rattle.uss_event.specs.declared.events.Event.TheVariants as Comes
use Rattle.uss_event.specs.declared.steps.Step.{Step}
use Rattle.uss_event.specs.declared.steps.Stopped.TheVariants as Turns
use Rattle.uss_law_dss.specs.Lists.{Has}
use Rattle.uss_law_world.specs.World.{Saying, World, start}
use Rattle.uss_law_world.specs.Moves.{Arrival, step_of, arrival_of, run}
use Rattle.uss_law_world.specs.Free.{AreSuppliers, IsFree}
use Rattle.uss_law_world.specs.Refused.{step_refusal}
use Rattle.uss_law_exact.specs.Exact.{Exact, exact_start, choice_for, move_by, exact_step, exact_run, moves_of, script_of, AreTyped}
use Rattle.uss_law_exact.specs.Drains.{Delivers}

-- it holds of every world that a script of exact suppliers leads to
abbrev pub InEachWorld : (List ℕ → List Owner → World → Type 0) → Type 0
InEachWorld P =
    (table : List ℕ) (owners : List Owner) (steps : List Step) → AreSuppliers table owners → AreTyped steps →
    P table owners (exact_run (exact_start owners) steps).world

-- and of each two worlds, the second of which the script leads to from the first
abbrev pub FromThenOn : (World → World → Type 0) → Type 0
FromThenOn P =
    (table : List ℕ) (owners : List Owner) (steps more : List Step) → AreSuppliers table owners → AreTyped (steps ++ more) →
    P (exact_run (exact_start owners) steps).world (exact_run (exact_start owners) (steps ++ more)).world

-- the run of exact suppliers is a free one, so what holds of free runs holds of it: its world is the one that its moves lead to
abbrev pub ExactRunsAreFree : Type 0
ExactRunsAreFree =
    (table : List ℕ) (owners : List Owner) (steps : List Step) → AreSuppliers table owners → AreTyped steps →
    IsFree (start owners) (moves_of (exact_start owners) steps)

abbrev pub ExactWorldsAreRun : Type 0
ExactWorldsAreRun =
    (owners : List Owner) (steps : List Step) →
    (exact_run (exact_start owners) steps).world ≡ run (start owners) (moves_of (exact_start owners) steps)

-- the move of a step is of that step, and so each step of the script has its move
abbrev pub EachMoveIsOfItsStep : Type 0
EachMoveIsOfItsStep = (e : Exact) (step : Step) → step_of (move_by e step) ≡ step

abbrev pub MovesAreOfScript : Type 0
MovesAreOfScript = (e : Exact) (steps : List Step) → script_of (moves_of e steps) ≡ steps

-- a step that the world refuses changes nothing, of what is kept beside the books either
abbrev pub RefusedStepsChangeNothing : Type 0
RefusedStepsChangeNothing = (e : Exact) (step : Step) (number : ℕ) → step_refusal e.world step ≡ Some number → exact_step e step ≡ e

-- no supplier says that its flight is recorded by another job's attempt
abbrev pub IsSettled : Said → Type 0
IsSettled (Says.Answer (Answers.Unsettled tag)) = ⊥
IsSettled _ = Unit {0}

abbrev pub NoJobIsUnsettled : Type 0
NoJobIsUnsettled = InEachWorld (λ table owners w. (x : Saying) → Has w.sayings x → IsSettled x.said)

-- nor that the discovery service refused it its own flight's reference, whether the reply comes alone, in a drain, or where the supplier
-- stops
abbrev pub IsUnrefused : Said → Type 0
IsUnrefused (Says.Answer (Answers.DssRefused number)) = ⊥
IsUnrefused _ = Unit {0}

abbrev pub NoOwnFlightIsRefused : Type 0
NoOwnFlightIsRefused =
    (table : List ℕ) (owners : List Owner) (steps : List Step) → AreSuppliers table owners → AreTyped steps →
    (step : Step) (at : Exact) (k : ℕ) → Delivers (exact_run (exact_start owners) steps) step at k →
    (a : Arrival) (call : DssCall) (reply : DssReply) (flight : ℕ) → arrival_of at.world (Turns.Deliver k) ≡ Some a →
    a.event ≡ Comes.Dss call reply → call.ask ≡ Asks.Get flight → IsUnrefused (choice_for at (Some a)).said
