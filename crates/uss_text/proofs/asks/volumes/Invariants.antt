use Rattle.uss_text.specs.Reading.{many_at}
use Rattle.uss_text.specs.Volumes.{volume_at}
use Rattle.uss_text.proofs.Many.{SoFar}
use Rattle.uss_text.proofs.asks.volumes.Given as goal

abbrev pub invariant-loop-left : goal.invariant-loop-left
invariant-loop-left l = SoFar (many_at volume_at l.count l.initial.words) (many_at volume_at l.left l.words) l.volumes

abbrev pub decreases-loop-left : goal.decreases-loop-left
decreases-loop-left l = l.left
