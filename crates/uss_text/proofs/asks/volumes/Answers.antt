use Rattle.std.proofs.Common.{arith}
use Rattle.uss_text.specs.Volumes.{volume_at}
use Rattle.uss_text.proofs.Many.{none_so_far, go_on, stop_at, end_with}
use Rattle.uss_text.proofs.asks.volumes.Goals as goal

pub loop-left-init : goal.loop-left-init
loop-left-init c = none_so_far _ _ c.new-volumes.ensures

pub returns-in-Err : goal.returns-in-Err
returns-in-Err c = λ real. stop_at _ volume_at _ _ _ _ (omega arith) c.loop-left.invariant (c.in-Err.ensures real)

pub loop-left-preserved : goal.loop-left-preserved
loop-left-preserved c = go_on _ volume_at _ _ _ _ _ _ (omega arith) c.loop-left.invariant c.in-Ok.ensures c.in_ok-push-in-Ok.ensures.items

pub returns : goal.returns
returns c = end_with _ volume_at _ _ _ (omega arith) c.loop-left.invariant
