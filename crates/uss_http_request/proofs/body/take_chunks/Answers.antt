use Rattle.std.proofs.Common.{◌∙◌, refl}
use Rattle.uss_http_request.proofs.Passing.{hears_then}
use Rattle.uss_http_request.proofs.BodySteps.{chunks_more, chunks_end, chunk_missing}
use Rattle.uss_http_request.proofs.BodySteps.{chunks_prompt}
use Rattle.uss_http_request.proofs.Prompting.{refused_map}
use Rattle.uss_http_request.proofs.body.take_chunks.Goals as goal

pub chunks-preserved : goal.chunks-preserved
chunks-preserved g c =
    let one = c.in-Ok-Chunk.ensures.chunk (rw c.in-Ok-Chunk.field-0-is refl) in
    record {
      within = one.within;
      taken = chunks_more g.T.Stream.gave c.args.stream.now c.chunks.stream c.take_chunk.new.stream c.args.intake.now c.chunks.intake c.take_chunk.new.intake c.chunks.body.items c.take_chunk.new.body.items c.chunks.invariant.taken one;
      prompt = chunks_prompt g.T.Stream.gave c.args.stream.now c.chunks.stream c.take_chunk.new.stream c.args.intake.now c.chunks.intake c.chunks.body.items c.chunks.invariant.taken c.chunks.invariant.prompt c.in-Ok-Chunk.ensures.prompt;
      heard = hears_then c.chunks.invariant.heard c.take_chunk.ensures.heard;
      calm = c.in-Ok-Chunk.ensures.calm (λ e. cc) ∙ c.chunks.invariant.calm;
    }

pub returns-in-Ok-Last-clause-taken : goal.returns-in-Ok-Last-clause-taken
returns-in-Ok-Last-clause-taken g c = chunks_end g.T.Stream.gave c.args.stream.now c.chunks.stream c.take_chunk.new.stream c.args.intake.now c.chunks.intake c.take_chunk.new.intake c.chunks.body.items c.take_chunk.new.body.items c.chunks.invariant.taken (c.in-Ok-Last.ensures.last (rw c.in-Ok-Last.field-0-is refl))

pub returns-in-Err-clause-refused : goal.returns-in-Err-clause-refused
returns-in-Err-clause-refused g c = chunk_missing g.T.Stream.gave g.T.Stream.ended c.args.stream.now c.chunks.stream c.take_chunk.new.stream c.args.intake.now c.chunks.intake c.chunks.body.items c.in-Err.refusal c.chunks.invariant.taken c.in-Err.ensures.refused

pub returns-in-Ok-Last-clause-prompt : goal.returns-in-Ok-Last-clause-prompt
returns-in-Ok-Last-clause-prompt g c = chunks_prompt g.T.Stream.gave c.args.stream.now c.chunks.stream c.take_chunk.new.stream c.args.intake.now c.chunks.intake c.chunks.body.items c.chunks.invariant.taken c.chunks.invariant.prompt c.in-Ok-Last.ensures.prompt

pub returns-in-Err-clause-prompt : goal.returns-in-Err-clause-prompt
returns-in-Err-clause-prompt g c = refused_map c.in-Err.refusal _ _ (λ p. chunks_prompt g.T.Stream.gave c.args.stream.now c.chunks.stream c.take_chunk.new.stream c.args.intake.now c.chunks.intake c.chunks.body.items c.chunks.invariant.taken c.chunks.invariant.prompt p) c.in-Err.ensures.prompt
