use Rattle.uss_law_world.proofs.Invariants.{jobs_land_after}
use Rattle.uss_law_world.proofs.jobs_land_what_they_hold.Goals as goal

pub returns : goal.returns
returns c = λ table owners moves names free. jobs_land_after table owners names moves free
