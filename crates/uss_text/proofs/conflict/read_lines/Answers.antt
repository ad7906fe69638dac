use Rattle.std.proofs.Common.{◌∙◌, ap, Err, sym, arith, length, List, ℕ}
use Rattle.uss_text.proofs.Script.{go_on_from, stop_from, end_from, word_real}
use Rattle.uss_text.proofs.conflict.read_lines.Goals as goal

pub loop-line-preserved : goal.loop-line-preserved
loop-line-preserved c = (
  omega (arith, c.loop-line.invariant.0, ap (λ (ls : List (List ℕ)). length ls) c.in-Some.ensures),
  go_on_from _ _ _ _ _ _ _ _ c.loop-line.invariant.1 c.in-Some.ensures c.in-Ok.ensures c.in_ok-add-in-Ok.ensures.ok,
)

pub returns-in-Err : goal.returns-in-Err
returns-in-Err c = λ real.
    stop_from _ _ _ _ _ _ _ c.loop-line.invariant.1 c.in-Some.ensures (c.in-Err.ensures (word_real _ _ _ c.at_line.ensures real)) ∙ ap Err (sym c.at_line.ensures)

pub returns : goal.returns
returns c = end_from _ _ _ _ c.loop-line.invariant.1 c.in_default.ensures.0
