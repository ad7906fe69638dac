use Rattle.std.proofs.Common.{◌∙◌, arith}
use Rattle.std.proofs.lemmas.List.{take_rest}
use Rattle.uss_link.proofs.Sending.{sent_more, sent_same, sent_all, over_more, over_same, over_all}
use Rattle.uss_link.proofs.dial.send_all.Goals as goal

pub loop-done-preserved : goal.loop-done-preserved
loop-done-preserved g c = (omega (arith, c.in-Ok.ensures.bytes.within), c.in-Ok.ensures.counts.calm ∙ c.loop-done.invariant.1, sent_more _ _ _ _ _ _ _ c.loop-done.invariant.2 c.loop-done-test.true (take_rest c.args.bytes.now c.loop-done.done) c.in-Ok.ensures.bytes, over_more _ _ _ _ _ _ c.loop-done.invariant.3 c.in-Ok.ensures.stream)

pub returns-in-Err-clause-front : goal.returns-in-Err-clause-front
returns-in-Err-clause-front g c talks is = (c.loop-done.done, sent_same _ _ _ _ _ _ _ c.loop-done.invariant.2 c.in-Err.ensures.bytes talks is)

pub returns-clause-sent : goal.returns-clause-sent
returns-clause-sent g c talks is = sent_all _ _ _ _ c.loop-done.invariant.2 c.loop-done-test.false c.loop-done.invariant.0 talks is

pub returns-in-Err-clause-stream : goal.returns-in-Err-clause-stream
returns-in-Err-clause-stream g c = over_same _ _ _ _ _ c.loop-done.invariant.3 c.in-Err.ensures.stream

pub returns-clause-stream : goal.returns-clause-stream
returns-clause-stream g c = c.loop-done.invariant.3.stays

pub returns-clause-over : goal.returns-clause-over
returns-clause-over g c was is some = over_all _ _ _ _ c.loop-done.invariant.3 c.loop-done-test.false was is some
