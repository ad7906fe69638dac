use Rattle.std.proofs.Common.{arith}
use Rattle.std.proofs.lemmas.Int.{to_z-of_z}
use Rattle.uss_index.proofs.points.touch.Goals as goal

pub returns-then-min-max : goal.returns-then-min-max
returns-then-min-max c = grind (arith, to_z-of_z)
