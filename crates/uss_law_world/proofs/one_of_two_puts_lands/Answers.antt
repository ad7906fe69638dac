use Rattle.uss_law_world.proofs.WorkedRuns.{both_put_is_free, both_put_replied}
use Rattle.uss_law_world.proofs.one_of_two_puts_lands.Goals as goal

pub returns : goal.returns
returns c = record { free = both_put_is_free; replies = both_put_replied }
