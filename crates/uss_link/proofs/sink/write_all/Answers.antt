use Rattle.std.proofs.Common.{◌∙◌, arith}
use Rattle.std.proofs.lemmas.List.{take_rest}
use Rattle.uss_link.proofs.Loops.{took_more}
use Rattle.uss_link.proofs.sink.write_all.Goals as goal

pub loop-done-preserved : goal.loop-done-preserved
loop-done-preserved g c = (omega (arith, c.in_ok-done.ensures.bytes.within), c.in_ok-done.ensures.counts.calm ∙ c.loop-done.invariant.1, took_more _ _ _ _ _ _ _ c.loop-done.invariant.2 (take_rest c.args.bytes.now c.loop-done.done) c.in_ok-done.ensures.bytes)
