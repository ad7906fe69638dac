use Rattle.uss_http_request.proofs.BodySteps.{chunked_taken, trailers_missing}
use Rattle.uss_http_request.proofs.BodySteps.{trailers_prompt}
use Rattle.uss_http_request.proofs.Prompting.{piece_halted}
use Rattle.uss_http_request.proofs.body.take_chunked.Goals as goal

pub returns-in-Ok-take_trailers-clause-taken : goal.returns-in-Ok-take_trailers-clause-taken
returns-in-Ok-take_trailers-clause-taken g c = chunked_taken g.T.Stream.gave c.args.stream.now c.take_chunks.new.stream c.take_trailers.new.stream c.args.intake.now c.take_chunks.new.intake c.take_chunks.new.body.items c.in-Ok.ensures.taken c.in-Ok-take_trailers.ensures.taken

pub returns-clause-refused : goal.returns-clause-refused
returns-clause-refused g c = rw c.piece_refusal.ensures (trailers_missing g.T.Stream.gave g.T.Stream.ended c.args.stream.now c.take_chunks.new.stream c.take_trailers.new.stream c.args.intake.now c.take_chunks.new.intake c.take_chunks.new.body.items c.in-Err-take_trailers.halt c.in-Ok.ensures.taken c.in-Err-take_trailers.ensures.refused)

pub returns-in-Ok-take_trailers-clause-prompt : goal.returns-in-Ok-take_trailers-clause-prompt
returns-in-Ok-take_trailers-clause-prompt g c = trailers_prompt g.T.Stream.gave c.args.stream.now c.take_chunks.new.stream c.take_trailers.new.stream c.args.intake.now c.take_chunks.new.intake c.take_chunks.new.body.items c.in-Ok.ensures.taken c.in-Ok.ensures.prompt c.in-Ok-take_trailers.ensures.prompt

pub returns-clause-prompt : goal.returns-clause-prompt
returns-clause-prompt g c = rw c.piece_refusal.ensures (piece_halted c.take_trailers.result c.in-Err-take_trailers.halt _ _ c.in-Err-take_trailers.is (λ p. trailers_prompt g.T.Stream.gave c.args.stream.now c.take_chunks.new.stream c.take_trailers.new.stream c.args.intake.now c.take_chunks.new.intake c.take_chunks.new.body.items c.in-Ok.ensures.taken c.in-Ok.ensures.prompt p) c.take_trailers.ensures.prompt)
