use Rattle.std.proofs.Common.{◌≡◌, drop, option_copied}
use Rattle.uss_plan.specs.Firsts.{first_from}
use Rattle.uss_plan.specs.Choice.{wanted, is_free}
use Rattle.uss_plan.proofs.choice.first_free.Given as goal

abbrev pub invariant-loop-alternative : goal.invariant-loop-alternative
invariant-loop-alternative l =
    let w = wanted l.table l.flight l.to l.priority (option_copied l.previous) in
    first_from l.from (is_free w l.pairs) (drop l.from l.proposals) ≡ first_from l.alternative (is_free w l.pairs) (drop l.alternative l.proposals)
