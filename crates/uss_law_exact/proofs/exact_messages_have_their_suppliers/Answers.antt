use Rattle.std.proofs.Common.{◌≡◌, sym, subst, Some, None}
use Rattle.uss_event.specs.declared.steps.Step.TheVariants as Steps
use Rattle.uss_law_dss.specs.Lists.{Has}
use Rattle.uss_law_world.specs.World.{World}
use Rattle.uss_law_world.specs.Moves.{Arrival, fault_of}
use Rattle.uss_law_world.specs.Refused.{step_refusal}
use Rattle.uss_law_world.specs.Parties.{HasParties}
use Rattle.uss_law_world.proofs.Parties.{reached_placed, fault_comes}
use Rattle.uss_law_exact.specs.Exact.{exact_start, moves_of}
use Rattle.uss_law_exact.proofs.Running.{world_is_run}
use Rattle.uss_law_exact.proofs.exact_messages_have_their_suppliers.Goals as goal

pub returns : goal.returns
returns c =
    record {
      messages = λ owners steps post. subst (λ (w : World). Has w.posts post → HasParties w.suppliers post) (sym (world_is_run steps (exact_start owners))) (reached_placed owners (moves_of (exact_start owners) steps) post);
      faults = λ owners steps k.
          subst (λ (w : World). step_refusal w (Steps.Fault k) ≡ None → (arrival : Arrival) × (fault_of w k ≡ Some arrival)) (sym (world_is_run steps (exact_start owners)))
          (fault_comes owners (moves_of (exact_start owners) steps) k);
    }
