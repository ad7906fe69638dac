use Rattle.uss_law_world.proofs.FurtherRuns.{notifying_is_free, notifying_replied, notifying_said}
use Rattle.uss_law_world.proofs.a_landing_is_notified_once.Goals as goal

pub returns : goal.returns
returns c = record { free = notifying_is_free; replies = notifying_replied; said = notifying_said }
