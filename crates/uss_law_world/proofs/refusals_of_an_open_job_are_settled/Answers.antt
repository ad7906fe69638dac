use Rattle.uss_law_world.proofs.Headline.{settled_after}
use Rattle.uss_law_world.proofs.refusals_of_an_open_job_are_settled.Goals as goal

pub returns : goal.returns
returns c = λ table owners moves names free. settled_after table owners names moves free
