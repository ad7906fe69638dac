use Rattle.std.proofs.Common.{◌≡◌, length, ◌-◌, ◌≤◌}
use Rattle.uss_link.proofs.Sending.{SentSince, OverSince}
use Rattle.uss_link.proofs.dial.send_all.Given as goal

abbrev pub invariant-loop-done : goal.invariant-loop-done
invariant-loop-done g l =
    (l.done ≤ length l.bytes)
    × (g.G.Dial.faults l.dial ≡ g.G.Dial.faults l.initial.dial)
    × SentSince (g.G.Dial.talks l.initial.dial) (g.G.Dial.talks l.dial) l.bytes l.done
    × OverSince (g.G.Dial.is_open l.initial.dial) (g.G.Dial.is_open l.dial) l.done

abbrev pub decreases-loop-done : goal.decreases-loop-done
decreases-loop-done g l = length l.bytes - l.done
