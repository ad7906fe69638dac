use Rattle.std.proofs.Common.{arith}
use Rattle.uss_http_request.proofs.BodySteps.{sized_too_large, sized_prompt}
use Rattle.uss_http_request.proofs.body.take_sized.Goals as goal

pub returns-then-count-gt-BODY_LIMIT-clause-refused : goal.returns-then-count-gt-BODY_LIMIT-clause-refused
returns-then-count-gt-BODY_LIMIT-clause-refused g c = sized_too_large g.T.Stream.gave g.T.Stream.ended c.args.stream.now c.args.intake.now c.args.count (omega arith)

pub returns-in-Ok-clause-prompt : goal.returns-in-Ok-clause-prompt
returns-in-Ok-clause-prompt g c = sized_prompt g.T.Stream.gave c.args.stream.now c.take_data.new.stream c.args.intake.now c.args.count (omega arith) c.in-Ok.ensures.prompt
