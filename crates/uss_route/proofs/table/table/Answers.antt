use Rattle.std.proofs.Common.{sym, ◌∙◌}
use Rattle.uss_route.proofs.PatternTable.{empty_rows, one_more, free_at, all_free, at_end}
use Rattle.uss_route.proofs.PathRows.{finds_rows}
use Rattle.uss_route.proofs.table.table.Goals as goal

pub loop-pattern-init : goal.loop-pattern-init
loop-pattern-init c = c.new-router.ensures ∙ sym empty_rows

pub put-requires : goal.put-requires
put-requires c = free_at c.loop-pattern.router _ c.loop-pattern.pattern-index _ c.loop-pattern.invariant c.loop-pattern-test.true all_free

pub loop-pattern-preserved : goal.loop-pattern-preserved
loop-pattern-preserved c = c.in_ok-put.ensures ∙ one_more c.loop-pattern.router _ c.loop-pattern.pattern-index _ c.loop-pattern.invariant c.loop-pattern-test.true

pub returns : goal.returns
returns c = at_end c.loop-pattern.router _ c.loop-pattern.pattern-index c.loop-pattern.invariant c.loop-pattern-test.false finds_rows
