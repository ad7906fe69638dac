use Rattle.uss_law_world.proofs.Invariants.{keys_after}
use Rattle.uss_law_world.proofs.keys_are_clear.Goals as goal

pub returns : goal.returns
returns c = λ table owners moves names free. keys_after table owners names moves free
