use Rattle.uss_shape.proofs.Same.{same_vertices_tells}
use Rattle.uss_shape.proofs.Outline.is_same.Goals as goal

pub returns : goal.returns
returns c = rw c.eq.ensures (same_vertices_tells c.args.self.now c.args.other.now)
