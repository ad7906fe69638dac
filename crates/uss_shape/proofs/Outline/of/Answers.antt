use Rattle.uss_shape.proofs.Walk.{origin}
use Rattle.uss_shape.proofs.Within.{false_true}
use Rattle.uss_shape.proofs.Outline.of.Goals as goal

pub returns-in-Some-clause-accepted : goal.returns-in-Some-clause-accepted
returns-in-Some-clause-accepted c = (
  λ h. absurd (false_true h),
  λ o. let n = rw c.as_slice.ensures.value at c.in-Some.ensures in absurd (n.out origin (o.in_plane c.in-Some.index origin n.within)),
)
