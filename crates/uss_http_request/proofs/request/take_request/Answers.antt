use Rattle.std.proofs.Common.{refl}
use Rattle.uss_http_request.proofs.RequestSteps.{head_missing, body_missing, request_taken}
use Rattle.uss_http_request.proofs.RequestSteps.{head_prompt, body_prompt}
use Rattle.uss_http_request.proofs.Prompting.{refused_map}
use Rattle.uss_http_request.proofs.request.take_request.Goals as goal

pub returns-in-Err-take_head-clause-answer : goal.returns-in-Err-take_head-clause-answer
returns-in-Err-take_head-clause-answer g c = head_missing g.T.Stream.gave g.T.Stream.ended c.args.stream.now c.take_head.new.stream c.in-Ok.intake c.in-Err-take_head.refusal (g.met.T.Stream.nothing c.args.stream.now) c.in-Ok.ensures c.in-Err-take_head.ensures.refused

pub returns-in-Err-take_body-clause-answer : goal.returns-in-Err-take_body-clause-answer
returns-in-Err-take_body-clause-answer g c = body_missing g.T.Stream.gave g.T.Stream.ended c.args.stream.now c.take_head.new.stream c.take_body.new.stream c.in-Ok.intake c.take_head.new.intake c.in-Ok-take_head.head c.in-Err-take_body.refusal (g.met.T.Stream.nothing c.args.stream.now) c.in-Ok.ensures c.in-Ok-take_head.ensures.taken c.in-Err-take_body.ensures.refused

pub returns-clause-answer : goal.returns-clause-answer
returns-clause-answer g c = request_taken g.T.Stream.gave g.T.Stream.ended c.args.stream.now c.take_head.new.stream c.take_body.new.stream c.in-Ok.intake c.take_head.new.intake c.in-Ok-take_body.body.items c.in-Ok-take_head.head _ (g.met.T.Stream.nothing c.args.stream.now) c.in-Ok.ensures c.in-Ok-take_head.ensures.taken c.in-Ok-take_body.ensures.taken refl refl refl c.from_vec.ensures

pub returns-in-Err-take_head-clause-prompt : goal.returns-in-Err-take_head-clause-prompt
returns-in-Err-take_head-clause-prompt g c = refused_map c.in-Err-take_head.refusal _ _ (λ p. head_prompt g.T.Stream.gave c.args.stream.now c.take_head.new.stream c.in-Ok.intake c.in-Ok.ensures p) c.in-Err-take_head.ensures.prompt

pub returns-in-Err-take_body-clause-prompt : goal.returns-in-Err-take_body-clause-prompt
returns-in-Err-take_body-clause-prompt g c = refused_map c.in-Err-take_body.refusal _ _ (λ p. body_prompt g.T.Stream.gave c.args.stream.now c.take_head.new.stream c.take_body.new.stream c.in-Ok.intake c.take_head.new.intake c.in-Ok-take_head.head c.in-Ok.ensures c.in-Ok-take_head.ensures.taken c.in-Ok-take_head.ensures.prompt p) c.in-Err-take_body.ensures.prompt

pub returns-clause-prompt : goal.returns-clause-prompt
returns-clause-prompt g c = body_prompt g.T.Stream.gave c.args.stream.now c.take_head.new.stream c.take_body.new.stream c.in-Ok.intake c.take_head.new.intake c.in-Ok-take_head.head c.in-Ok.ensures c.in-Ok-take_head.ensures.taken c.in-Ok-take_head.ensures.prompt c.in-Ok-take_body.ensures.prompt
