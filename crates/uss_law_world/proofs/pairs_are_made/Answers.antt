use Rattle.uss_law_world.proofs.Headline.{made_after}
use Rattle.uss_law_world.proofs.pairs_are_made.Goals as goal

pub returns : goal.returns
returns c = λ table owners moves names free. made_after table owners names moves free
