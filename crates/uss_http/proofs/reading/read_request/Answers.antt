use Rattle.uss_http.proofs.ReadSteps.{fault_of}
use Rattle.uss_http.proofs.reading.read_request.Goals as goal

pub returns-in-Err-clause-prompt : goal.returns-in-Err-clause-prompt
returns-in-Err-clause-prompt g c = λ bytes is. rw c.of_source.ensures (fault_of c.in-Err.refusal _ (c.in-Err.ensures.prompt bytes is))
