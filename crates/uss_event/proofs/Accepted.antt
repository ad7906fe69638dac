-- What is refused is no plan of an intent, and what isn't is one.
use Rattle.std.proofs.Common.{◌≡◌, ℕ, List, arith}
use Rattle.std.specs.Option.{is_none}
use Rattle.std.proofs.lemmas.Bool.Decides.{nat_tests}
use Rattle.uss_vol4.specs.Volume.{Volume4D}
use Rattle.uss_intent.specs.declared.records.State.{State}
use Rattle.uss_intent.specs.declared.records.State.TheVariants.{Accepted, Activated, Nonconforming, Contingent}
use Rattle.uss_event.specs.Plans.{is_plan}
use Rattle.uss_event.specs.Refusals.{refusal_of}

pub plan_unless_refused : (state : State) (volumes off_nominal : List Volume4D) (priority : ℕ) → is_none (refusal_of state volumes off_nominal priority) ≡ is_plan state volumes off_nominal priority
unfolding refusal_of is_plan
plan_unless_refused Accepted volumes off_nominal priority = grind (arith, nat_tests)
plan_unless_refused Activated volumes off_nominal priority = grind (arith, nat_tests)
plan_unless_refused Nonconforming volumes off_nominal priority = grind (arith, nat_tests)
plan_unless_refused Contingent volumes off_nominal priority = grind (arith, nat_tests)
