use Rattle.std.proofs.Common.{arith}
use Rattle.uss_route.proofs.Cutting.{before_separator}
use Rattle.uss_route.proofs.paths.length_before.Goals as goal

pub returns-else-bytes-count-clause-before : goal.returns-else-bytes-count-clause-before
returns-else-bytes-count-clause-before c = before_separator c.args.bytes.now c.args.separator c.counting.count c.counting.invariant.within c.counting.invariant.passed (λ lt. c.if-bytes-count.false)

pub returns-after-counting-clause-before : goal.returns-after-counting-clause-before
returns-after-counting-clause-before c = before_separator c.args.bytes.now c.args.separator c.counting.count c.counting.invariant.within c.counting.invariant.passed (λ lt. absurd (omega (arith, c.counting-test.false)))
