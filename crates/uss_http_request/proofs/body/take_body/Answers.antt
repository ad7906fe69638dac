use Rattle.uss_http_request.proofs.BodySteps.{nothing_taken}
use Rattle.uss_http_request.proofs.body.take_body.Goals as goal

pub returns-in-Nothing-clause-taken : goal.returns-in-Nothing-clause-taken
returns-in-Nothing-clause-taken g c = rw c.in-Nothing.is (nothing_taken g.T.Stream.gave c.args.stream.now c.args.intake.now c.new-body.result.items c.new-body.ensures.items)

pub returns-in-Ok-take_chunked-clause-prompt : goal.returns-in-Ok-take_chunked-clause-prompt
returns-in-Ok-take_chunked-clause-prompt g c = rw c.in-Chunked.is c.in-Ok-take_chunked.ensures.prompt

pub returns-in-Err-take_chunked-clause-prompt : goal.returns-in-Err-take_chunked-clause-prompt
returns-in-Err-take_chunked-clause-prompt g c = rw c.in-Chunked.is c.in-Err-take_chunked.ensures.prompt
