use Rattle.uss_text.specs.Reading.{many_at}
use Rattle.uss_text.specs.Intents.{ovn_at}
use Rattle.uss_text.proofs.Many.{SoFar}
use Rattle.uss_text.proofs.asks.ovns.Given as goal

abbrev pub invariant-loop-left : goal.invariant-loop-left
invariant-loop-left l = SoFar (many_at ovn_at l.count l.initial.words) (many_at ovn_at l.left l.words) l.ovns

abbrev pub decreases-loop-left : goal.decreases-loop-left
decreases-loop-left l = l.left
