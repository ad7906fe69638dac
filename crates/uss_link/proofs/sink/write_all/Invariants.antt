use Rattle.std.proofs.Common.{◌≡◌, length, ◌-◌, ◌≤◌}
use Rattle.uss_link.proofs.Loops.{Took}
use Rattle.uss_link.proofs.sink.write_all.Given as goal

abbrev pub invariant-loop-done : goal.invariant-loop-done
invariant-loop-done g l =
    (l.done ≤ length l.bytes)
    × (g.K.Sink.faults l.output ≡ g.K.Sink.faults l.initial.output)
    × Took (g.K.Sink.taken l.initial.output) (g.K.Sink.taken l.output) l.bytes l.done

abbrev pub decreases-loop-done : goal.decreases-loop-done
decreases-loop-done g l = length l.bytes - l.done
