use Rattle.std.proofs.Common.{◌∙◌, ap, Err, sym, arith, length, List, ℕ}
use Rattle.uss_text.specs.Discover.{discover_line}
use Rattle.uss_text.proofs.Script.{word_real}
use Rattle.uss_text.proofs.Each.{none_so_far, go_on, stop_at, end_with}
use Rattle.uss_text.proofs.discover.read_lines.Goals as goal

pub loop-line-init : goal.loop-line-init
loop-line-init c = (omega arith, none_so_far _ _ c.new-script.ensures)

pub loop-line-preserved : goal.loop-line-preserved
loop-line-preserved c = (
  omega (arith, c.loop-line.invariant.0, ap (λ (ls : List (List ℕ)). length ls) c.in-Some.ensures),
  go_on discover_line _ _ _ _ _ _ _ _ c.loop-line.invariant.1 c.in-Some.ensures c.in-Ok.ensures c.in_ok-push-in-Ok.ensures.items,
)

pub returns-in-Err : goal.returns-in-Err
returns-in-Err c = λ real.
    stop_at discover_line _ _ _ _ _ _ _ c.loop-line.invariant.1 c.in-Some.ensures (c.in-Err.ensures (word_real _ _ _ c.at_line.ensures real)) ∙ ap Err (sym c.at_line.ensures)

pub returns : goal.returns
returns c = end_with discover_line _ _ _ _ c.loop-line.invariant.1 c.in_default.ensures.0
