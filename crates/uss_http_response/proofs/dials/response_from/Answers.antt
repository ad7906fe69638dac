use Rattle.uss_http_response.proofs.ResponseSteps.{received, over_open}
use Rattle.uss_http_response.proofs.PromptSteps.{dial_prompt}
use Rattle.uss_http_response.proofs.dials.response_from.Goals as goal

pub returns-clause-exact : goal.returns-clause-exact
returns-clause-exact g c = λ talks is. received g.G.Dial.talks g.G.Dial.is_open c.args.dial.now c.take_response.new.stream talks c.take_response.result is c.take_response.ensures.answer

pub returns-clause-prompt : goal.returns-clause-prompt
returns-clause-prompt g c = λ talks is. dial_prompt g.G.Dial.talks g.G.Dial.is_open c.args.dial.now c.take_response.new.stream talks c.take_response.result is c.take_response.ensures.prompt

pub returns-clause-stream : goal.returns-clause-stream
returns-clause-stream g c = c.take_response.ensures.answer.given.stays

pub returns-clause-over : goal.returns-clause-over
returns-clause-over g c = λ was is. over_open g.G.Dial.talks g.G.Dial.is_open c.args.dial.now c.take_response.new.stream was c.take_response.result is c.take_response.ensures.answer
