use Rattle.uss_rest.proofs.Ascending.{goes_on}
use Rattle.uss_rest.proofs.replies.ascend.Goals as goal

pub loop-i-preserved : goal.loop-i-preserved
loop-i-preserved c = goes_on c.args.references.now c.loop-i.i _ _ c.rises_at.ensures c.if-not-rises_at.false c.loop-i.invariant
