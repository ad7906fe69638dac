use Rattle.uss_law_world.proofs.Headline.{intended_after, none_forbidden_after}
use Rattle.uss_law_world.proofs.intents_stay_apart.Goals as goal

pub returns : goal.returns
returns c = record { intended = λ table owners moves names free. intended_after table owners names moves free; apart = λ table owners moves names free. none_forbidden_after table owners names moves free }
