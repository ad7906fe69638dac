-- Which suppliers there may be, and which lists of moves are free: each step of a supplier is any that its duties allow. Messages may be
-- lost, late, or delivered again and again, and suppliers may stop and restart. This project's own.
use Rattle.std.specs.Prelude.{ℕ, ◌≡◌, Bool, true, false, List, [], ◌∷◌, Option, Some, None}
use Rattle.uss_event.specs.declared.entries.Owner.{Owner}
use Rattle.uss_event.specs.declared.steps.Stopped.{Stopped}
use Rattle.uss_event.specs.declared.steps.Stopped.TheVariants as Turns
use Rattle.uss_law_dss.specs.Lists.{Has}
use Rattle.uss_law_book.specs.Coding.{IsOwner}
use Rattle.uss_law_duty.specs.Duties.{MayStep, Choice, clamped}
use Rattle.uss_law_world.specs.World.{World, book_of, heard_of}
use Rattle.uss_law_world.specs.Moves.{Move, Arrival, arrival_of, fault_of, delivers_next, next_message, happens}
use Rattle.uss_law_world.specs.Moves.{Move as Moves}

-- suppliers with one table of rules, each with a name of its own. A number is one supplier's: the first's that has it.
pub record AreSuppliers (table : List ℕ) (owners : List Owner) : Type 0 where
  pub valid : (o : Owner) → Has owners o → IsOwner o
  pub one_table : (o : Owner) → Has owners o → o.table ≡ table
  pub names : (o p : Owner) → Has owners o → Has owners p → o.name ≡ p.name → o.number ≡ p.number

-- the supplier may do so when this comes to it; what comes to nobody asks for nothing
abbrev pub MayTake : World → Choice → Option Arrival → Type 0
MayTake w c None = Unit {0}
MayTake w c (Some a) = MayStep (book_of a.supplier w) (heard_of a.supplier w) (clamped w.moment) a.event c.entry c.sends c.said c.heard

abbrev pub arrival_of_next : World → Option ℕ → Option Arrival
arrival_of_next w None = None
arrival_of_next w (Some k) = arrival_of w (Turns.Deliver k)

abbrev pub MayDrain : World → List Choice → Type 0
MayDrain w [] = Unit {0}
MayDrain w (c ∷ cs) = MayTake w c (arrival_of_next w (next_message w)) × MayDrain (delivers_next w c (next_message w)) cs

-- a step whose entry isn't kept leaves nothing behind, so nothing is asked of it
abbrev pub MayStop : World → Bool → Stopped → Choice → Type 0
MayStop w true step c = MayTake w c (arrival_of w step)
MayStop w false step c = Unit {0}

-- the duties are kept in the move
abbrev pub IsAllowed : World → Move → Type 0
IsAllowed w (Moves.Now moment) = Unit {0}
IsAllowed w (Moves.Takes step c) = MayTake w c (arrival_of w step)
IsAllowed w (Moves.Lose k) = Unit {0}
IsAllowed w (Moves.Drain cs) = MayDrain w cs
IsAllowed w (Moves.Fault k c) = MayTake w c (fault_of w k)
IsAllowed w (Moves.Restart s) = Unit {0}
IsAllowed w (Moves.Stop kept sent step c) = MayStop w kept step c

-- and in each move of the list
abbrev pub IsFree : World → List Move → Type 0
IsFree w [] = Unit {0}
IsFree w (m ∷ ms) = IsAllowed w m × IsFree (happens w m) ms
