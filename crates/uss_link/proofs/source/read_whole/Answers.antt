use Rattle.std.proofs.Common.{◌≡◌, ◌∙◌, arith, length}
use Rattle.uss_link.proofs.Loops.{gave_more, gave_all, gave_some, gave_at_most, room_stays}
use Rattle.uss_link.proofs.source.read_whole.Goals as goal

pub returns-then-count-eq0-clause-whole : goal.returns-then-count-eq0-clause-whole
returns-then-count-eq0-clause-whole g c left is = (gave_all _ _ _ _ _ _ c.loop-bytes.invariant.3 (record { told = c.in_ok-count.ensures.told }) c.if-count-eq0.true left is).bytes

pub returns-then-count-eq0-clause-ended : goal.returns-then-count-eq0-clause-ended
returns-then-count-eq0-clause-ended g c left is = (gave_all _ _ _ _ _ _ c.loop-bytes.invariant.3 (record { told = c.in_ok-count.ensures.told }) c.if-count-eq0.true left is).none

pub returns-then-len-limit-clause-too_large : goal.returns-then-len-limit-clause-too_large
returns-then-len-limit-clause-too_large g c left is _ = gave_some _ _ _ _ (gave_more _ _ _ _ _ _ c.loop-bytes.invariant.3 (record { told = c.in_ok-count.ensures.told })) (omega arith) left is

pub returns-then-len-limit-clause-bounded : goal.returns-then-len-limit-clause-bounded
returns-then-len-limit-clause-bounded g c left is _ =
    gave_at_most _ _ _ c.args.limit 65536 (gave_more _ _ _ _ _ _ c.loop-bytes.invariant.3 (record { told = c.in_ok-count.ensures.told })) (omega (arith, c.loop-bytes.invariant.0, c.loop-bytes.invariant.1, c.in_ok-count.ensures.count, c.in_ok-count.ensures.few)) left is

pub loop-bytes-preserved : goal.loop-bytes-preserved
loop-bytes-preserved g c = (
  omega arith,
  room_stays _ _ _ (c.loop-bytes.piece.ok.0) (let h : length c.read_on.new.piece ≡ c.loop-bytes.piece.len = omega (arith, c.read_on.auto.piece, c.as_mut_slice.ensures.len, c.as_mut_slice.ensures.value, c.loop-bytes.piece.ok.0) in h) ∙ c.loop-bytes.invariant.1,
  c.in_ok-count.ensures.calm (λ e. cc) ∙ c.loop-bytes.invariant.2,
  gave_more _ _ _ _ _ _ c.loop-bytes.invariant.3 (record { told = c.in_ok-count.ensures.told }),
)
