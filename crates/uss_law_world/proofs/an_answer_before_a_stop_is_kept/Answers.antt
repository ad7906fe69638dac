use Rattle.uss_law_world.proofs.FurtherRuns.{answered_twice_is_free, answered_twice_replied, answered_twice_said}
use Rattle.uss_law_world.proofs.an_answer_before_a_stop_is_kept.Goals as goal

pub returns : goal.returns
returns c = record { free = answered_twice_is_free; replies = answered_twice_replied; said = answered_twice_said }
