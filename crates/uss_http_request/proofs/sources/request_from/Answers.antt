use Rattle.uss_http_request.proofs.Lifting.{answer_is}
use Rattle.uss_http_request.proofs.SourceSteps.{source_prompt}
use Rattle.uss_http_request.proofs.sources.request_from.Goals as goal

pub returns-clause-exact : goal.returns-clause-exact
returns-clause-exact g c = λ bytes is. answer_is g.S.Source.left c.args.input.now c.take_request.new.stream bytes c.take_request.result is c.take_request.ensures.answer

pub returns-clause-prompt : goal.returns-clause-prompt
returns-clause-prompt g c = λ bytes is. source_prompt g.S.Source.left c.args.input.now c.take_request.new.stream bytes c.take_request.result is c.take_request.ensures.prompt
