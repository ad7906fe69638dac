use Rattle.std.proofs.Common.{refl}
use Rattle.uss_http_request.proofs.Passing.{hears_same, hears_then}
use Rattle.uss_http_response.proofs.ResponseSteps.{wanted, head_missing, body_missing, response_taken}
use Rattle.uss_http_response.proofs.PromptSteps.{head_prompt, body_prompt}
use Rattle.uss_http_request.proofs.Prompting.{refused_map}
use Rattle.uss_http_response.proofs.response.take_response.Goals as goal

pub returns-in-Err-clause-answer : goal.returns-in-Err-clause-answer
returns-in-Err-clause-answer g c = wanted g.T.Stream.gave g.T.Stream.ended c.args.stream.now c.args.stream.now (g.met.T.Stream.nothing c.args.stream.now) (hears_same g.T.Stream.gave c.args.stream.now)

pub returns-in-Err-new-clause-answer : goal.returns-in-Err-new-clause-answer
returns-in-Err-new-clause-answer g c = wanted g.T.Stream.gave g.T.Stream.ended c.args.stream.now c.args.stream.now (g.met.T.Stream.nothing c.args.stream.now) (hears_same g.T.Stream.gave c.args.stream.now)

pub returns-in-Err-take_status_head-clause-answer : goal.returns-in-Err-take_status_head-clause-answer
returns-in-Err-take_status_head-clause-answer g c = head_missing g.T.Stream.gave g.T.Stream.ended c.args.stream.now c.take_status_head.new.stream c.in-Ok.intake c.in-Err-take_status_head.refusal (g.met.T.Stream.nothing c.args.stream.now) c.in-Ok.ensures c.in-Err-take_status_head.ensures.heard c.in-Err-take_status_head.ensures.refused

pub returns-in-Err-take_body_at-clause-answer : goal.returns-in-Err-take_body_at-clause-answer
returns-in-Err-take_body_at-clause-answer g c = body_missing g.T.Stream.gave g.T.Stream.ended c.args.stream.now c.take_status_head.new.stream c.take_body_at.new.stream c.in-Ok.intake c.take_status_head.new.intake c.in-Ok-take_status_head.head c.in-Err-take_body_at.refusal (g.met.T.Stream.nothing c.args.stream.now) c.in-Ok.ensures (hears_then c.in-Ok-take_status_head.ensures.heard c.in-Err-take_body_at.ensures.heard) c.in-Ok-take_status_head.ensures.taken c.in-Err-take_body_at.ensures.refused

pub returns-clause-answer : goal.returns-clause-answer
returns-clause-answer g c = response_taken g.T.Stream.gave g.T.Stream.ended c.args.stream.now c.take_status_head.new.stream c.take_body_at.new.stream c.in-Ok.intake c.take_status_head.new.intake c.in-Ok-take_body_at.body.items c.in-Ok-take_status_head.head _ (g.met.T.Stream.nothing c.args.stream.now) c.in-Ok.ensures c.in-Ok-take_status_head.ensures.taken c.in-Ok-take_body_at.ensures.taken refl c.from_vec.ensures

pub returns-in-Err-take_status_head-clause-prompt : goal.returns-in-Err-take_status_head-clause-prompt
returns-in-Err-take_status_head-clause-prompt g c = refused_map c.in-Err-take_status_head.refusal _ _ (λ p. head_prompt g.T.Stream.gave c.args.stream.now c.take_status_head.new.stream c.in-Ok.intake c.in-Ok.ensures p) c.in-Err-take_status_head.ensures.prompt

pub returns-in-Err-take_body_at-clause-prompt : goal.returns-in-Err-take_body_at-clause-prompt
returns-in-Err-take_body_at-clause-prompt g c = refused_map c.in-Err-take_body_at.refusal _ _ (λ p. body_prompt g.T.Stream.gave c.args.stream.now c.take_status_head.new.stream c.take_body_at.new.stream c.in-Ok.intake c.take_status_head.new.intake c.in-Ok-take_status_head.head c.in-Ok.ensures c.in-Ok-take_status_head.ensures.taken c.in-Ok-take_status_head.ensures.prompt p) c.in-Err-take_body_at.ensures.prompt

pub returns-clause-prompt : goal.returns-clause-prompt
returns-clause-prompt g c = body_prompt g.T.Stream.gave c.args.stream.now c.take_status_head.new.stream c.take_body_at.new.stream c.in-Ok.intake c.take_status_head.new.intake c.in-Ok-take_status_head.head c.in-Ok.ensures c.in-Ok-take_status_head.ensures.taken c.in-Ok-take_status_head.ensures.prompt c.in-Ok-take_body_at.ensures.prompt
