use Rattle.uss_law_world.proofs.FurtherRuns.{watched_is_free, watched_replied, watched_said}
use Rattle.uss_law_world.proofs.a_planned_flight_is_watched.Goals as goal

pub returns : goal.returns
returns c = record { free = watched_is_free; replies = watched_replied; said = watched_said }
