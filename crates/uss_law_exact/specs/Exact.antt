-- The world in which each supplier does exactly what its definition says: there is one run for each script. This project's own.
use Rattle.std.specs.Prelude.{ℕ, zero, suc, ◌==◌, List, [], ◌∷◌, map, Option, Some, None, if◌then◌else◌}
use Rattle.uss_law_duty.specs.Duties.{Choice}
use Rattle.uss_event.specs.declared.entries.Owner.{Owner}
use Rattle.uss_event.specs.declared.events.Said.TheVariants as Says
use Rattle.uss_event.specs.declared.steps.Step.{Step}
use Rattle.uss_event.specs.declared.steps.Step.TheVariants as Steps
use Rattle.uss_event.specs.declared.steps.Stopped.{Stopped}
use Rattle.uss_event.specs.declared.steps.Stopped.TheVariants as Turns
use Rattle.uss_law_world.specs.World.{Supplier, World, supplier_in, start}
use Rattle.uss_law_world.specs.Moves.{Move, Arrival, step_of, arrival_of, fault_of, next_message, delivers, happens}
use Rattle.uss_law_world.specs.Moves.{Move as Moves}
use Rattle.uss_law_world.specs.Free.{arrival_of_next}
use Rattle.uss_law_supplier.specs.Values.{Values, no_values}
use Rattle.uss_law_supplier.specs.Turns.{Turn}
use Rattle.uss_law_supplier.specs.Typed.{IsRequest, IsPosition}
use Rattle.uss_law_supplier.specs.Step.{supplier_step}

-- a world, and what each supplier keeps beside its book
pub record Exact : Type 0 where
  pub world : World
  pub kept : ℕ → Values

abbrev pub exact_start : List Owner → Exact
exact_start owners = record { world = start owners; kept = λ s. no_values }

-- a supplier chooses what its step comes to
abbrev pub choice_by : Turn → Choice
choice_by t = record { entry = t.entry; sends = t.sends; said = t.said; heard = t.values.heard }

-- nothing is chosen where nothing comes to a supplier
abbrev pub no_choice : Choice
no_choice = record { entry = None; sends = []; said = Says.Nothing; heard = [] }

-- what a supplier does with what comes to it: its step is of its book, what it keeps beside the book, and the world's moment
abbrev pub turn_by : Exact → Arrival → Supplier → Turn
turn_by e a x = supplier_step x.owner x.book (e.kept a.supplier) e.world.moment a.event

abbrev pub chosen_by : Exact → Arrival → Option Supplier → Choice
chosen_by e a None = no_choice
chosen_by e a (Some x) = choice_by (turn_by e a x)

abbrev pub choice_for : Exact → Option Arrival → Choice
choice_for e None = no_choice
choice_for e (Some a) = chosen_by e a (supplier_in a.supplier e.world.suppliers)

-- one supplier keeps this beside its book, and the others what they kept
abbrev pub keeping : ℕ → Values → (ℕ → Values) → ℕ → Values
keeping s v kept i = if i == s then v else kept i

-- what is kept after a step of a supplier
abbrev pub kept_by : Exact → Arrival → Option Supplier → ℕ → Values
kept_by e a None = e.kept
kept_by e a (Some x) = keeping a.supplier (turn_by e a x).values e.kept

abbrev pub kept_for : Exact → Option Arrival → ℕ → Values
kept_for e None = e.kept
kept_for e (Some a) = kept_by e a (supplier_in a.supplier e.world.suppliers)

-- one that stops within its step, or restarts, keeps its book alone
abbrev pub kept_at_stop : Exact → Option Arrival → ℕ → Values
kept_at_stop e None = e.kept
kept_at_stop e (Some a) = keeping a.supplier no_values e.kept

abbrev pub kept_at_restart : Exact → ℕ → Option Supplier → ℕ → Values
kept_at_restart e s None = e.kept
kept_at_restart e s (Some x) = keeping s no_values e.kept

-- a message is delivered, if there is one
abbrev pub delivered : Exact → Option ℕ → Exact
delivered e None = e
delivered e (Some k) =
    record { world = delivers e.world k (choice_for e (arrival_of e.world (Turns.Deliver k))); kept = kept_for e (arrival_of e.world (Turns.Deliver k)) }

-- in a drain one after another is
abbrev pub drain_choices : ℕ → Exact → List Choice
drain_choices zero e = []
drain_choices (suc n) e =
    choice_for e (arrival_of_next e.world (next_message e.world)) ∷ drain_choices n (delivered e (next_message e.world))

abbrev pub drain_kept : ℕ → Exact → ℕ → Values
drain_kept zero e = e.kept
drain_kept (suc n) e = drain_kept n (delivered e (next_message e.world))

-- the move that a step of a script is: each supplier chooses what its step comes to
abbrev pub taking : Exact → Stopped → Move
taking e step = Moves.Takes step (choice_for e (arrival_of e.world step))

abbrev pub move_by : Exact → Step → Move
move_by e (Steps.Now moment) = Moves.Now moment
move_by e (Steps.Ask s ask) = taking e (Turns.Ask s ask)
move_by e (Steps.Cancel s flight number) = taking e (Turns.Cancel s flight number)
move_by e (Steps.Position s ask) = taking e (Turns.Position s ask)
move_by e (Steps.Sweep s skip) = taking e (Turns.Sweep s skip)
move_by e (Steps.Deliver k) = taking e (Turns.Deliver k)
move_by e (Steps.Lose k) = Moves.Lose k
move_by e (Steps.Drain n) = Moves.Drain (drain_choices n e)
move_by e (Steps.Fault k) = Moves.Fault k (choice_for e (fault_of e.world k))
move_by e (Steps.Restart s) = Moves.Restart s
move_by e (Steps.Stop kept sent step) = Moves.Stop kept sent step (choice_for e (arrival_of e.world step))

-- what is kept beside the books after it
abbrev pub kept_after : Exact → Step → ℕ → Values
kept_after e (Steps.Now moment) = e.kept
kept_after e (Steps.Ask s ask) = kept_for e (arrival_of e.world (Turns.Ask s ask))
kept_after e (Steps.Cancel s flight number) = kept_for e (arrival_of e.world (Turns.Cancel s flight number))
kept_after e (Steps.Position s ask) = kept_for e (arrival_of e.world (Turns.Position s ask))
kept_after e (Steps.Sweep s skip) = kept_for e (arrival_of e.world (Turns.Sweep s skip))
kept_after e (Steps.Deliver k) = kept_for e (arrival_of e.world (Turns.Deliver k))
kept_after e (Steps.Lose k) = e.kept
kept_after e (Steps.Drain n) = drain_kept n e
kept_after e (Steps.Fault k) = kept_for e (fault_of e.world k)
kept_after e (Steps.Restart s) = kept_at_restart e s (supplier_in s e.world.suppliers)
kept_after e (Steps.Stop kept sent step) = kept_at_stop e (arrival_of e.world step)

-- the world after a step of a script, and after a script
abbrev pub exact_step : Exact → Step → Exact
exact_step e step = record { world = happens e.world (move_by e step); kept = kept_after e step }

abbrev pub exact_run : Exact → List Step → Exact
exact_run e [] = e
exact_run e (x ∷ xs) = exact_run (exact_step e x) xs

-- and its moves: one for each step
abbrev pub moves_of : Exact → List Step → List Move
moves_of e [] = []
moves_of e (x ∷ xs) = move_by e x ∷ moves_of (exact_step e x) xs

-- the script of a list of moves is without what the suppliers chose
abbrev pub script_of : List Move → List Step
script_of moves = map step_of moves

-- what an operator asks in a step is of its types: each number within the range of its type, and each volume one that can be made
abbrev pub IsStoppedTyped : Stopped → Type 0
IsStoppedTyped (Turns.Ask s ask) = IsRequest ask
IsStoppedTyped (Turns.Position s ask) = IsPosition ask
IsStoppedTyped _ = Unit {0}

abbrev pub IsTyped : Step → Type 0
IsTyped (Steps.Ask s ask) = IsRequest ask
IsTyped (Steps.Position s ask) = IsPosition ask
IsTyped (Steps.Stop kept sent step) = IsStoppedTyped step
IsTyped _ = Unit {0}

abbrev pub AreTyped : List Step → Type 0
AreTyped [] = Unit {0}
AreTyped (x ∷ xs) = IsTyped x × AreTyped xs
