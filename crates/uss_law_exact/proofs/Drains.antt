-- A drain is the deliveries that it makes.
use Rattle.std.proofs.Common.{ℕ, zero, suc, ◌≡◌, List, [], ◌∷◌, ◌++◌, refl, ap, sym, ◌∙◌, length, Option, Some, None}
use Rattle.uss_event.specs.declared.steps.Step.{Step}
use Rattle.uss_event.specs.declared.steps.Step.TheVariants as Steps
use Rattle.uss_law_world.specs.Moves.{step_of, next_message, delivers_next, drains}
use Rattle.uss_law_world.specs.Free.{arrival_of_next}
use Rattle.uss_law_exact.specs.Exact.{Exact, choice_for, delivered, drain_choices, drain_kept, move_by, exact_step, exact_run, moves_of, script_of}
use Rattle.uss_law_exact.specs.Drains.{delivery, next_delivery, deliveries}

-- a drain with this message next
abbrev with_next : Exact → ℕ → Option ℕ → Exact
with_next e n o =
    record { world = drains (delivers_next e.world (choice_for e (arrival_of_next e.world o)) o) (drain_choices n (delivered e o)); kept = drain_kept n (delivered e o) }

drain_first : (e : Exact) (n : ℕ) (o : Option ℕ) → with_next e n o ≡ exact_step (exact_run e (delivery o)) (Steps.Drain n)
drain_first e n None = refl
drain_first e n (Some k) = refl

run_on : (xs ys : List Step) (e : Exact) → exact_run e (xs ++ ys) ≡ exact_run (exact_run e xs) ys
run_on [] ys e = refl
run_on (x ∷ xs) ys e = run_on xs ys (exact_step e x)

-- one message comes, and the rest
pub drain_is_next : (e : Exact) (n : ℕ) → exact_step e (Steps.Drain (suc n)) ≡ exact_step (exact_run e (next_delivery e)) (Steps.Drain n)
drain_is_next e n = drain_first e n (next_message e.world)

pub drain_is_deliveries : (n : ℕ) (e : Exact) → exact_step e (Steps.Drain n) ≡ exact_run e (deliveries n e)
drain_is_deliveries zero e = refl
drain_is_deliveries (suc n) e =
    let v = exact_run e (next_delivery e) in
    drain_is_next e n ∙ (drain_is_deliveries n v ∙ sym (run_on (next_delivery e) (deliveries n v) e))

pub drain_goes_on : (n : ℕ) (e : Exact)
    → exact_step e (Steps.Drain (suc n)) ≡ exact_run (exact_step e (Steps.Drain n)) (next_delivery (exact_step e (Steps.Drain n)))
drain_goes_on zero e = drain_is_next e zero
drain_goes_on (suc n) e =
    let v = exact_run e (next_delivery e) in
    drain_is_next e (suc n) ∙ (drain_goes_on n v ∙ ap (λ z. exact_run z (next_delivery z)) (sym (drain_is_next e n)))

-- a move is of its step
so_many : (n : ℕ) (e : Exact) → length (drain_choices n e) ≡ n
so_many zero e = refl
so_many (suc n) e = ap suc (so_many n (delivered e (next_message e.world)))

pub move_is_of_step : (e : Exact) (step : Step) → step_of (move_by e step) ≡ step
move_is_of_step e (Steps.Drain n) = ap Steps.Drain (so_many n e)
move_is_of_step e _ = refl

pub moves_are_of_script : (steps : List Step) (e : Exact) → script_of (moves_of e steps) ≡ steps
moves_are_of_script [] e = refl
moves_are_of_script (x ∷ xs) e = (λ i. move_is_of_step e x i ∷ moves_are_of_script xs (exact_step e x) i)
