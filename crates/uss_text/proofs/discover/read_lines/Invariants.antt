use Rattle.std.proofs.Common.{◌+◌, ◌<◌, ◌^◌, length}
use Rattle.uss_text.specs.Reading.{each_behind}
use Rattle.uss_text.specs.Discover.{discover_line}
use Rattle.uss_text.proofs.Each.{SoFar}
use Rattle.uss_text.proofs.discover.read_lines.Given as goal

abbrev pub invariant-loop-line : goal.invariant-loop-line
invariant-loop-line l =
    (l.number + length l.lines < 2 ^ 64)
    × SoFar (each_behind discover_line 0 l.initial.lines) (each_behind discover_line l.number l.lines) l.script

abbrev pub decreases-loop-line : goal.decreases-loop-line
decreases-loop-line l = length l.lines
