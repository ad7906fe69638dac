use Rattle.std.proofs.Common.{◌≡◌, length, ◌-◌, ◌+◌, ◌≤◌}
use Rattle.uss_link.proofs.Loops.{Gave}
use Rattle.uss_link.proofs.source.read_whole.Given as goal

abbrev pub invariant-loop-bytes : goal.invariant-loop-bytes
invariant-loop-bytes g l =
    (length l.bytes.items ≤ l.limit)
    × (length l.piece.items ≡ 65536)
    × (g.S.Source.faults l.input ≡ g.S.Source.faults l.initial.input)
    × Gave (g.S.Source.left l.initial.input) (g.S.Source.left l.input) l.bytes.items

abbrev pub decreases-loop-bytes : goal.decreases-loop-bytes
decreases-loop-bytes g l = l.limit + 1 - length l.bytes.items
