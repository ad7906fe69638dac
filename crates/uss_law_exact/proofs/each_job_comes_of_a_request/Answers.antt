use Rattle.uss_law_exact.proofs.Requests.{comes_of_request}
use Rattle.uss_law_exact.proofs.each_job_comes_of_a_request.Goals as goal

pub returns : goal.returns
returns c = λ owners steps s job moment ask there. comes_of_request s job moment ask owners steps there
