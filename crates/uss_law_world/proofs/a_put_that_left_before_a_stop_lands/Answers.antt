use Rattle.uss_law_world.proofs.FurtherRuns.{stopped_twice_is_free, stopped_twice_replied, stopped_twice_said}
use Rattle.uss_law_world.proofs.a_put_that_left_before_a_stop_lands.Goals as goal

pub returns : goal.returns
returns c = record { free = stopped_twice_is_free; replies = stopped_twice_replied; said = stopped_twice_said }
