use Rattle.uss_law_world.proofs.FurtherRuns.{failed_is_free, failed_replied, failed_said}
use Rattle.uss_law_world.proofs.a_call_that_failed_may_have_landed.Goals as goal

pub returns : goal.returns
returns c = record { free = failed_is_free; replies = failed_replied; said = failed_said }
