use Rattle.uss_law_world.proofs.FurtherRuns.{ended_is_free, ended_replied, ended_said}
use Rattle.uss_law_world.proofs.a_planned_flight_is_ended.Goals as goal

pub returns : goal.returns
returns c = record { free = ended_is_free; replies = ended_replied; said = ended_said }
