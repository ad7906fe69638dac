-- Each step of a script is a move that the duties allow, in every world where what holds of reached worlds holds.
use Rattle.std.proofs.Common.{ℕ, zero, suc, ◌≡◌, Bool, true, false, List, [], ◌∷◌, inl, length, refl, ap, Option, Some, None}
use Rattle.uss_event.specs.declared.entries.Owner.{Owner}
use Rattle.uss_event.specs.declared.events.Said.TheVariants as Says
use Rattle.uss_event.specs.declared.steps.Step.{Step}
use Rattle.uss_event.specs.declared.steps.Step.TheVariants as Steps
use Rattle.uss_event.specs.declared.steps.Stopped.{Stopped}
use Rattle.uss_event.specs.declared.steps.Stopped.TheVariants as Turns
use Rattle.uss_law_duty.specs.Duties.{Choice}
use Rattle.uss_law_world.specs.World.{Supplier, Post, World, supplier_in, heard_of, post_at, start}
use Rattle.uss_law_world.specs.World.Post.{Called, Replied, Asked, Answered}
use Rattle.uss_law_world.specs.Moves.{Move, step_of, Arrival, arrival_by, arrival_of, fault_by, fault_of, delivers_next, next_message, run}
use Rattle.uss_law_world.specs.Moves.{Move as Moves}
use Rattle.uss_law_world.specs.Free.{AreSuppliers, MayTake, arrival_of_next, MayDrain, MayStop, IsAllowed, IsFree}
use Rattle.uss_law_world.proofs.Lookups.{Came, came}
use Rattle.uss_law_world.proofs.Facts.{Facts}
use Rattle.uss_law_world.proofs.Parts.{stands}
use Rattle.uss_law_world.proofs.Runs.{next_facts, reached_facts}

-- whoever something comes to is there
abbrev pub IsThere : World → Arrival → Type 0
IsThere w a = (x : Supplier) × (supplier_in a.supplier w.suppliers ≡ Some x)

there : (w : World) (b a : Arrival) → Came w b a → IsThere w a
there w b a c = (c.supplier, c.there)

pub message_there : (w : World) (k : ℕ) (o : Option Post) (a : Arrival) → arrival_by w k o ≡ Some a → IsThere w a
message_there w k None a e = cc
message_there w k (Some (Called from call)) a e = cc
message_there w k (Some (Replied to answered call reply)) a e = there w _ a (came w _ a e)
message_there w k (Some (Asked from None call)) a e = cc
message_there w k (Some (Asked from (Some to) call)) a e = there w _ a (came w _ a e)
message_there w k (Some (Answered to answered call reply)) a e = there w _ a (came w _ a e)

pub step_there : (w : World) (step : Stopped) (a : Arrival) → arrival_of w step ≡ Some a → IsThere w a
step_there w (Turns.Ask s ask) a e = there w _ a (came w _ a e)
step_there w (Turns.Cancel s flight number) a e = there w _ a (came w _ a e)
step_there w (Turns.Position s ask) a e = there w _ a (came w _ a e)
step_there w (Turns.Sweep s skip) a e = there w _ a (came w _ a e)
step_there w (Turns.Deliver k) a e = message_there w k (post_at k w) a e

pub fault_there : (w : World) (o : Option Post) (a : Arrival) → fault_by w o ≡ Some a → IsThere w a
fault_there w None a e = cc
fault_there w (Some (Called from call)) a e = there w _ a (came w _ a e)
fault_there w (Some (Replied to answered call reply)) a e = cc
fault_there w (Some (Asked from to call)) a e = there w _ a (came w _ a e)
fault_there w (Some (Answered to answered call reply)) a e = cc

next_there : (w : World) (o : Option ℕ) (a : Arrival) → arrival_of_next w o ≡ Some a → IsThere w a
next_there w None a e = cc
next_there w (Some k) a e = step_there w (Turns.Deliver k) a e

-- a supplier may always enter and send nothing, and say that it leaves the matter
leaves_by : World → Option Arrival → Choice
leaves_by w None = record { entry = None; sends = []; said = Says.Left []; heard = [] }
leaves_by w (Some a) = record { entry = None; sends = []; said = Says.Left []; heard = heard_of a.supplier w }

module _ (table : List ℕ) (owners : List Owner) (names : AreSuppliers table owners) where
  may_leave : (w : World) → Facts table owners w → (o : Option Arrival) → ((a : Arrival) → o ≡ Some a → IsThere w a) → MayTake w (leaves_by w o) o
  unfolding leaves_by
  may_leave w j None t = tt
  may_leave w j (Some a) t =
      let x = t a refl in
      record {
        acts = record {
          owner = x.0.owner;
          owns_book = (stands table owners w j a.supplier x.0 x.1).own;
          records = λ x h. absurd h;
          pair = tt;
          notes = λ x h. absurd h;
          held = tt;
          removals = tt;
          tickets = tt;
          ticket_calls = λ x h. absurd h;
          ticket_removals = λ x h. absurd h;
          legal = tt;
          final = tt;
          cause = tt;
          goes_on = λ e. inl refl;
        };
        keys = tt;
        hears = inl refl;
      }

  abbrev leaves_next : World → Choice
  leaves_next w = leaves_by w (arrival_of_next w (next_message w))

  abbrev leaves_all : ℕ → World → List Choice
  leaves_all zero w = []
  leaves_all (suc n) w = leaves_next w ∷ leaves_all n (delivers_next w (leaves_next w) (next_message w))

  so_many : (n : ℕ) (w : World) → length (leaves_all n w) ≡ n
  so_many zero w = refl
  so_many (suc n) w = ap suc (so_many n (delivers_next w (leaves_next w) (next_message w)))

  may_leave_next : (w : World) → Facts table owners w → MayTake w (leaves_next w) (arrival_of_next w (next_message w))
  may_leave_next w j = may_leave w j (arrival_of_next w (next_message w)) (next_there w (next_message w))

  may_leave_all : (n : ℕ) (w : World) → Facts table owners w → MayDrain w (leaves_all n w)
  may_leave_all zero w j = tt
  may_leave_all (suc n) w j =
      let m = may_leave_next w j in
      (m, may_leave_all n (delivers_next w (leaves_next w) (next_message w)) (next_facts table owners names w (leaves_next w) (next_message w) m j))

  may_leave_stop : (w : World) → Facts table owners w → (kept : Bool) (step : Stopped) → MayStop w kept step (leaves_by w (arrival_of w step))
  may_leave_stop w j true step = may_leave w j (arrival_of w step) (step_there w step)
  may_leave_stop w j false step = tt

  taken : (w : World) → Facts table owners w → (step : Stopped) → IsAllowed w (Moves.Takes step (leaves_by w (arrival_of w step)))
  taken w j step = may_leave w j (arrival_of w step) (step_there w step)

  abbrev leaves : World → Stopped → Move
  leaves w step = Moves.Takes step (leaves_by w (arrival_of w step))

  each_step : (w : World) → Facts table owners w → (step : Step) → (m : Move) × (step_of m ≡ step) × IsAllowed w m
  each_step w j (Steps.Now moment) = (Moves.Now moment, refl, tt)
  each_step w j (Steps.Ask s ask) = (leaves w (Turns.Ask s ask), refl, taken w j (Turns.Ask s ask))
  each_step w j (Steps.Cancel s flight number) = (leaves w (Turns.Cancel s flight number), refl, taken w j (Turns.Cancel s flight number))
  each_step w j (Steps.Position s ask) = (leaves w (Turns.Position s ask), refl, taken w j (Turns.Position s ask))
  each_step w j (Steps.Sweep s skip) = (leaves w (Turns.Sweep s skip), refl, taken w j (Turns.Sweep s skip))
  each_step w j (Steps.Deliver k) = (leaves w (Turns.Deliver k), refl, taken w j (Turns.Deliver k))
  each_step w j (Steps.Lose k) = (Moves.Lose k, refl, tt)
  each_step w j (Steps.Drain n) = (Moves.Drain (leaves_all n w), ap Steps.Drain (so_many n w), may_leave_all n w j)
  each_step w j (Steps.Fault k) = (Moves.Fault k (leaves_by w (fault_of w k)), refl, may_leave w j (fault_of w k) (fault_there w (post_at k w)))
  each_step w j (Steps.Restart s) = (Moves.Restart s, refl, tt)
  each_step w j (Steps.Stop kept sent step) = (Moves.Stop kept sent step (leaves_by w (arrival_of w step)), refl, may_leave_stop w j kept step)

  pub each_step_reached : (moves : List Move) → IsFree (start owners) moves → (step : Step) → (m : Move) × (step_of m ≡ step) × IsAllowed (run (start owners) moves) m
  each_step_reached moves free step = each_step (run (start owners) moves) (reached_facts table owners names moves free) step
