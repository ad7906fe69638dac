use Rattle.uss_law_dss.proofs.EachEffect.{effect}
use Rattle.uss_law_dss.proofs.effects.Goals as goal

pub returns : goal.returns
returns c = λ s client ask. effect s client ask
