use Rattle.std.proofs.Common.{◌*◌, ◌<◌, arith, sym, subst}
use Rattle.uss_wire_base.proofs.Decimals.{scaled_bound}
use Rattle.uss_wire_base.proofs.instants.scaled.Goals as goal

pub overflow_mul-result : goal.overflow_mul-result
overflow_mul-result c =
    let b : c.args.decimals * c.pow.result < 1_000_000_000 = subst (λ p. c.args.decimals * p < 1_000_000_000) (sym c.pow.ensures) (scaled_bound c.args.decimals c.args.count c.requires.few c.requires.decimals) in
    omega arith

pub returns-clause-bound : goal.returns-clause-bound
returns-clause-bound c =
    let b : c.args.decimals * c.pow.result < 1_000_000_000 = subst (λ p. c.args.decimals * p < 1_000_000_000) (sym c.pow.ensures) (scaled_bound c.args.decimals c.args.count c.requires.few c.requires.decimals) in
    omega arith
