use Rattle.uss_law_world.proofs.Invariants.{orderly_after, tried_after}
use Rattle.uss_law_world.proofs.landings_are_of_attempts.Goals as goal

pub returns : goal.returns
returns c = record { orderly = λ table owners moves names free. orderly_after table owners names moves free; tried = λ table owners moves names free. tried_after table owners names moves free }
