use Rattle.uss_http.proofs.ReadSteps.{read_ok, read_err, fault_over}
use Rattle.uss_http.proofs.reading.read_response.Goals as goal

pub returns-in-Ok-clause-exact : goal.returns-in-Ok-clause-exact
returns-in-Ok-clause-exact g c = λ talks is. read_ok talks (g.G.Dial.talks c.response_from.new.dial) c.in-Ok.response (c.in-Ok.ensures.exact talks is)

pub returns-in-Err-clause-exact : goal.returns-in-Err-clause-exact
returns-in-Err-clause-exact g c = λ talks is. rw c.of_dial.ensures (read_err talks (g.G.Dial.talks c.response_from.new.dial) c.in-Err.refusal (c.in-Err.ensures.exact talks is))

pub returns-in-Err-clause-prompt : goal.returns-in-Err-clause-prompt
returns-in-Err-clause-prompt g c = λ talks is. rw c.of_dial.ensures (fault_over c.in-Err.refusal _ (c.in-Err.ensures.prompt talks is))
