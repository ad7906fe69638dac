use Rattle.uss_law_world.proofs.Invariants.{open_jobs_after}
use Rattle.uss_law_world.proofs.open_jobs_agree_with_the_service.Goals as goal

pub returns : goal.returns
returns c = λ table owners moves names free. open_jobs_after table owners names moves free
