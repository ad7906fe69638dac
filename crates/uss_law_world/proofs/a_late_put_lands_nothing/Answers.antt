use Rattle.uss_law_world.proofs.WorkedRuns.{cancelled_early_is_free, cancelled_early_replied, cancelled_early_said}
use Rattle.uss_law_world.proofs.a_late_put_lands_nothing.Goals as goal

pub returns : goal.returns
returns c = record { free = cancelled_early_is_free; replies = cancelled_early_replied; said = cancelled_early_said }
