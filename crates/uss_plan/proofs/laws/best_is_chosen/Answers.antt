use Rattle.uss_plan.proofs.Best.{best_is_chosen}
use Rattle.uss_plan.proofs.laws.best_is_chosen.Goals as goal

pub returns : goal.returns
returns c = best_is_chosen
