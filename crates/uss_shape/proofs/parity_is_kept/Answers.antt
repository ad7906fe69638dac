use Rattle.uss_shape.proofs.First.{parity_is_kept}
use Rattle.uss_shape.proofs.parity_is_kept.Goals as goal

pub returns : goal.returns
returns c = parity_is_kept
