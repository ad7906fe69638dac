use Rattle.uss_event.proofs.Ascending.{goes_on}
use Rattle.uss_event.proofs.rules.ascend.Goals as goal

pub loop-i-preserved : goal.loop-i-preserved
loop-i-preserved c = goes_on c.args.numbers.now c.loop-i.i _ _ c.loop-i-test.true c.rises_at.ensures c.if-not-rises_at.false c.loop-i.invariant
