use Rattle.uss_law_world.proofs.Headline.{once_after}
use Rattle.uss_law_world.proofs.requests_are_recorded_at_most_once.Goals as goal

pub returns : goal.returns
returns c = λ table owners moves names free. once_after table owners names moves free
