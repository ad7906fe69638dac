use Rattle.std.proofs.Common.{refl, arith}
use Rattle.uss_app.proofs.Replies.{go_on, all_done}
use Rattle.uss_app.proofs.discover.replies.Goals as goal

pub loop-line-preserved : goal.loop-line-preserved
loop-line-preserved c = go_on _ _ _ _ _ c.line-item.result _ _ _ c.loop-line.invariant (omega arith) c.line-item.is refl c.in_ok-carry_out.ensures.state c.in_ok-carry_out.ensures.text

pub returns : goal.returns
returns c = all_done _ _ _ _ _ c.loop-line.invariant (omega arith)
