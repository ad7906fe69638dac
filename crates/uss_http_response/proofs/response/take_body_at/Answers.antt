use Rattle.uss_http_response.proofs.PromptSteps.{framed_prompt}
use Rattle.uss_http_response.proofs.response.take_body_at.Goals as goal

pub returns-in-Framed-clause-prompt : goal.returns-in-Framed-clause-prompt
returns-in-Framed-clause-prompt g c = framed_prompt g.T.Stream.gave c.args.stream.now c.take_body.new.stream c.args.intake.now c.in-Framed.framing c.args.end c.take_body.result c.in-Framed.is c.take_body.ensures.prompt
