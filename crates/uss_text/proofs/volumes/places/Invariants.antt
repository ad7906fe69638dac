use Rattle.uss_text.specs.Reading.{many_at}
use Rattle.uss_text.specs.Volumes.{place_at}
use Rattle.uss_text.proofs.Places.{SoFar}
use Rattle.uss_text.proofs.volumes.places.Given as goal

abbrev pub invariant-loop-left : goal.invariant-loop-left
invariant-loop-left l = SoFar (many_at place_at l.count l.initial.words) (many_at place_at l.left l.words) l.places.items

abbrev pub decreases-loop-left : goal.decreases-loop-left
decreases-loop-left l = l.left
