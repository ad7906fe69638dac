use Rattle.std.proofs.Common.{◌++◌, option_copied}
use Rattle.uss_plan.specs.Choice.{wanted}
use Rattle.uss_plan.proofs.Apart.{clear_apart}
use Rattle.uss_plan.proofs.choice.verdict_on.Goals as goal

pub returns-then-is_apart : goal.returns-then-is_apart
returns-then-is_apart c =
    let p = c.args.proposal.now in
    clear_apart (wanted c.args.table.now c.args.flight c.args.to c.args.priority (option_copied c.args.previous)) p c.args.pair.now (c.is_apart.ensures c.if-is_apart.true (p.volumes ++ p.off_nominal) c.requires)
