use Rattle.std.proofs.Common.{◌≡◌, ◌++◌, true, drop, option_copied}
use Rattle.uss_plan.specs.Firsts.{first_from, first_passing}
use Rattle.uss_plan.specs.Choice.{wanted, stands}
use Rattle.uss_plan.specs.Times.{are_within}
use Rattle.uss_plan.proofs.choice.first_standing.Given as goal

abbrev pub invariant-loop-place : goal.invariant-loop-place
invariant-loop-place l =
    let w = wanted l.table l.flight l.to l.priority (option_copied l.previous) in
    record {
      walked : first_passing (stands w l.proposal) l.pairs ≡ first_from l.place (stands w l.proposal) (drop l.place l.pairs);
      within : are_within l.times (l.proposal.volumes ++ l.proposal.off_nominal) ≡ true;
    }
