use Rattle.std.proofs.Common.{option_copied}
use Rattle.uss_plan.specs.Choice.{wanted}
use Rattle.uss_plan.proofs.Walks.{free_at_the_end}
use Rattle.uss_plan.proofs.choice.first_standing.Goals as goal

pub returns-clause-free : goal.returns-clause-free
returns-clause-free c =
    let w = wanted c.args.table.now c.args.flight c.args.to c.args.priority (option_copied c.args.previous) in
    free_at_the_end w c.args.proposal.now c.loop-place.place c.args.pairs.now c.loop-place-test.false c.loop-place.invariant.walked
