use Rattle.std.proofs.Common.{arith}
use Rattle.uss_wire_base.proofs.Decimals.{further, number_bound}
use Rattle.uss_wire_base.proofs.instants.number.Goals as goal

pub overflow_mul-number : goal.overflow_mul-number
overflow_mul-number c = let f = further c.args.digits.now c.loop-digit.digit-index c.requires.digits c.requires.few c.loop-digit-test.true in omega arith

pub loop-digit-preserved : goal.loop-digit-preserved
loop-digit-preserved c = let f = further c.args.digits.now c.loop-digit.digit-index c.requires.digits c.requires.few c.loop-digit-test.true in omega arith

pub overflow_add-number : goal.overflow_add-number
overflow_add-number c = let f = further c.args.digits.now c.loop-digit.digit-index c.requires.digits c.requires.few c.loop-digit-test.true in omega arith

pub returns-clause-bound : goal.returns-clause-bound
returns-clause-bound c = number_bound c.args.digits.now c.loop-digit.digit-index c.loop-digit.number c.requires.digits c.loop-digit-test.false c.loop-digit.invariant
