use Rattle.uss_law_world.proofs.WorkedRuns.{found_again_is_free, found_again_replied, found_again_said}
use Rattle.uss_law_world.proofs.a_lost_landing_is_found_again.Goals as goal

pub returns : goal.returns
returns c = record { free = found_again_is_free; replies = found_again_replied; said = found_again_said }
