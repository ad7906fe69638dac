use Rattle.std.proofs.Common.{◌≡◌, [], take}
use Rattle.uss_route.proofs.PatternTable.{rows_from, listed}
use Rattle.uss_route.proofs.table.table.Given as goal

abbrev pub invariant-loop-pattern : goal.invariant-loop-pattern
invariant-loop-pattern l = l.router ≡ rows_from [] (listed (take l.pattern-index l.pattern-items))
