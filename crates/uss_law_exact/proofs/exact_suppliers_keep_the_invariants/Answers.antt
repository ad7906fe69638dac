use Rattle.uss_law_dss.specs.Orderly.{IsOrderly}
use Rattle.uss_law_world.specs.World.{World}
use Rattle.uss_law_world.specs.Invariants.{BooksAreLegal, EachCallWasDue, EachLandingIsTried, RepliesAreSo, KeysAreClear, OpenJobsAgree, JobsLandWhatTheyHold}
use Rattle.uss_law_world.proofs.Invariants.{legal_after, due_after, orderly_after, tried_after, keys_after, open_jobs_after, jobs_land_after, so_ever}
use Rattle.uss_law_exact.proofs.Claims.{carried, carried_on}
use Rattle.uss_law_exact.proofs.exact_suppliers_keep_the_invariants.Goals as goal

pub returns : goal.returns
returns c =
    record {
      legal = λ table owners steps names typed. carried table owners names (BooksAreLegal owners) (λ moves free. legal_after table owners names moves free) steps typed;
      due = λ table owners steps names typed. carried table owners names EachCallWasDue (λ moves free. due_after table owners names moves free) steps typed;
      orderly = λ table owners steps names typed. carried table owners names (λ (w : World). IsOrderly w.service) (λ moves free. orderly_after table owners names moves free) steps typed;
      tried = λ table owners steps names typed. carried table owners names EachLandingIsTried (λ moves free. tried_after table owners names moves free) steps typed;
      replies = λ table owners steps more names typed. carried_on table owners names RepliesAreSo (λ ms ns free. so_ever table owners names ms ns free) steps more typed;
      keys = λ table owners steps names typed. carried table owners names (KeysAreClear table) (λ moves free. keys_after table owners names moves free) steps typed;
      open_jobs = λ table owners steps names typed. carried table owners names OpenJobsAgree (λ moves free. open_jobs_after table owners names moves free) steps typed;
      closed_jobs = λ table owners steps names typed. carried table owners names JobsLandWhatTheyHold (λ moves free. jobs_land_after table owners names moves free) steps typed;
    }
