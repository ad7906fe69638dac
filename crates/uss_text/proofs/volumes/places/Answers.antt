use Rattle.std.proofs.Common.{arith}
use Rattle.uss_text.proofs.Places.{none_so_far, go_on, stop_at, end_with}
use Rattle.uss_text.proofs.volumes.places.Goals as goal

pub loop-left-init : goal.loop-left-init
loop-left-init c = none_so_far _ _ c.new-places.ensures.items

pub keep-requires : goal.keep-requires
keep-requires c = c.loop-left.invariant.few

pub returns-in-Err : goal.returns-in-Err
returns-in-Err c = λ real. stop_at _ _ _ _ _ (omega arith) c.loop-left.invariant (c.in-Err.ensures real)

pub loop-left-preserved : goal.loop-left-preserved
loop-left-preserved c = go_on _ _ _ _ _ _ _ (omega arith) c.loop-left.invariant c.in-Ok.ensures c.in_ok-keep-in-Ok.ensures.ok

pub returns : goal.returns
returns c = end_with _ _ _ _ (omega arith) c.loop-left.invariant
