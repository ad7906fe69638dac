use Rattle.uss_law_world.proofs.Headline.{clear_after}
use Rattle.uss_law_world.proofs.landings_are_clear.Goals as goal

pub returns : goal.returns
returns c = λ table owners moves names free. clear_after table owners names moves free
