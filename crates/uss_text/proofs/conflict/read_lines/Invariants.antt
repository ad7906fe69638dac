use Rattle.std.proofs.Common.{◌+◌, ◌<◌, ◌^◌, length}
use Rattle.uss_text.specs.Conflict.{lists, lists_behind}
use Rattle.uss_text.proofs.Script.{SoFar}
use Rattle.uss_text.proofs.conflict.read_lines.Given as goal

abbrev pub invariant-loop-line : goal.invariant-loop-line
invariant-loop-line l =
    (l.number + length l.lines < 2 ^ 64)
    × SoFar (lists_behind 0 l.initial.lines) (lists_behind l.number l.lines) (lists l.script.a l.script.b)

abbrev pub decreases-loop-line : goal.decreases-loop-line
decreases-loop-line l = length l.lines
