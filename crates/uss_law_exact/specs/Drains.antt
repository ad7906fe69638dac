-- A drain is the deliveries that it makes, one after another. This project's own.
use Rattle.std.specs.Prelude.{ℕ, zero, suc, ◌<◌, ◌≡◌, true, List, [], ◌∷◌, ◌++◌, Option, Some, None}
use Rattle.uss_event.specs.declared.steps.Step.{Step}
use Rattle.uss_event.specs.declared.steps.Step.TheVariants as Steps
use Rattle.uss_event.specs.declared.steps.Stopped.{Stopped}
use Rattle.uss_event.specs.declared.steps.Stopped.TheVariants as Turns
use Rattle.uss_law_world.specs.Moves.{next_message}
use Rattle.uss_law_exact.specs.Exact.{Exact, exact_step, exact_run}

-- the step that delivers a message, if there is one
abbrev pub delivery : Option ℕ → List Step
delivery None = []
delivery (Some k) = Steps.Deliver k ∷ []

-- the next delivery of a drain: of the least message that was never delivered and isn't passed over
abbrev pub next_delivery : Exact → List Step
next_delivery e = delivery (next_message e.world)

-- so many of them, each in the world that the ones before come to; nothing where there is no such message
abbrev pub deliveries : ℕ → Exact → List Step
deliveries zero e = []
deliveries (suc n) e = next_delivery e ++ deliveries n (exact_run e (next_delivery e))

abbrev pub DrainsAreDeliveries : Type 0
DrainsAreDeliveries = (e : Exact) (n : ℕ) → exact_step e (Steps.Drain n) ≡ exact_run e (deliveries n e)

-- and a longer drain goes on where a shorter one ends
abbrev pub DrainsGoOn : Type 0
DrainsGoOn =
    (e : Exact) (n : ℕ) → exact_step e (Steps.Drain (suc n)) ≡
    exact_run (exact_step e (Steps.Drain n)) (next_delivery (exact_step e (Steps.Drain n)))

-- a message that a drain delivers: it is the next after fewer deliveries
pub record IsDrained (e : Exact) (n : ℕ) (at : Exact) (k : ℕ) : Type 0 where
  pub before : ℕ
  pub fewer : before < n
  pub world : at ≡ exact_step e (Steps.Drain before)
  pub next : next_message at.world ≡ Some k

-- the step in which a supplier stops delivers the message
abbrev pub IsStoppedAt : Stopped → ℕ → Type 0
IsStoppedAt (Turns.Deliver message) k = message ≡ k
IsStoppedAt _ k = ⊥

-- in a step of a script a message comes, in a world: the step delivers it, drains it, or stops its supplier once its entry is kept
abbrev pub Delivers : Exact → Step → Exact → ℕ → Type 0
Delivers e (Steps.Deliver message) at k = (at ≡ e) × (message ≡ k)
Delivers e (Steps.Drain n) at k = IsDrained e n at k
Delivers e (Steps.Stop true sent step) at k = (at ≡ e) × IsStoppedAt step k
Delivers e _ at k = ⊥
