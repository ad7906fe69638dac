-- A step that the world refuses changes nothing.
use Rattle.std.proofs.Common.{ℕ, ◌≡◌, refl, ap, ◌∙◌, Some}
use Rattle.uss_event.specs.declared.steps.Step.{Step}
use Rattle.uss_event.specs.declared.steps.Step.TheVariants as Steps
use Rattle.uss_law_world.specs.World.{supplier_in, post_at}
use Rattle.uss_law_world.specs.Moves.{arrival_by, happens}
use Rattle.uss_law_world.specs.Refused.{step_refusal}
use Rattle.uss_law_world.proofs.Refused.{absent, nobody, unsent, stops_nobody, fails_nobody, unchanged}
use Rattle.uss_law_exact.specs.Exact.{Exact, kept_for, kept_at_stop, kept_at_restart, move_by, kept_after, exact_step}
use Rattle.uss_law_exact.proofs.Drains.{move_is_of_step}

kept_unchanged : (e : Exact) (step : Step) (n : ℕ) → step_refusal e.world step ≡ Some n → kept_after e step ≡ e.kept
kept_unchanged e (Steps.Now moment) n q = cc
kept_unchanged e (Steps.Ask s ask) n q = ap (kept_for e) (nobody e.world _ n q)
kept_unchanged e (Steps.Cancel s flight number) n q = ap (kept_for e) (nobody e.world _ n q)
kept_unchanged e (Steps.Position s ask) n q = ap (kept_for e) (nobody e.world _ n q)
kept_unchanged e (Steps.Sweep s skip) n q = ap (kept_for e) (nobody e.world _ n q)
kept_unchanged e (Steps.Deliver k) n q = ap (λ p. kept_for e (arrival_by e.world k p)) (unsent (post_at k e.world) n q)
kept_unchanged e (Steps.Lose k) n q = refl
kept_unchanged e (Steps.Drain m) n q = cc
kept_unchanged e (Steps.Fault k) n q = ap (kept_for e) (fails_nobody e.world (post_at k e.world) n q)
kept_unchanged e (Steps.Restart s) n q = ap (kept_at_restart e s) (absent (supplier_in s e.world.suppliers) n q)
kept_unchanged e (Steps.Stop kept sent step) n q = ap (kept_at_stop e) (stops_nobody e.world step n q)

pub refused_changes_nothing : (e : Exact) (step : Step) (n : ℕ) → step_refusal e.world step ≡ Some n → exact_step e step ≡ e
refused_changes_nothing e step n q =
    let w : happens e.world (move_by e step) ≡ e.world = unchanged e.world (move_by e step) n (ap (step_refusal e.world) (move_is_of_step e step) ∙ q) in
    let k = kept_unchanged e step n q in
    λ i. record { world = w i; kept = k i }
