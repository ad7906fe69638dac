use Rattle.std.proofs.Common.{arith, length}
use Rattle.uss_http_request.proofs.ChunkSteps.{no_data, no_end, chunk_taken}
use Rattle.uss_http_request.proofs.ChunkSteps.{line_prompt, data_prompt, end_prompt}
use Rattle.uss_http_request.proofs.Prompting.{piece_halted, refused_map}
use Rattle.uss_http_request.proofs.chunk.take_chunk.Goals as goal

pub returns-in-Err-clause-refused : goal.returns-in-Err-clause-refused
returns-in-Err-clause-refused g c = c.in-Err.ensures.refused (length c.args.body.now.items)

pub returns-in-Err-take_data-clause-refused : goal.returns-in-Err-take_data-clause-refused
returns-in-Err-take_data-clause-refused g c =
    rw c.piece_refusal.ensures (no_data g.T.Stream.gave g.T.Stream.ended c.args.stream.now c.take_size.new.stream c.take_data.new.stream c.args.intake.now c.take_size.new.intake c.in-Ok.size (length c.args.body.now.items) c.in-Err-take_data.halt c.in-Ok.ensures.taken (omega arith) (omega (arith, c.requires, c.len.ensures, c.args.body.now.ok.0)) c.in-Err-take_data.ensures.kinds c.in-Err-take_data.ensures.cut)

pub returns-in-Ok-take_line_end-clause-chunk : goal.returns-in-Ok-take_line_end-clause-chunk
returns-in-Ok-take_line_end-clause-chunk g c = λ _. chunk_taken g.T.Stream.gave c.args.stream.now c.take_size.new.stream c.take_data.new.stream c.take_line_end.new.stream c.args.intake.now c.take_size.new.intake c.take_data.new.intake c.take_line_end.new.intake c.args.body.now.items c.take_data.new.body.items c.in-Ok.size c.in-Ok.ensures.taken c.in-Ok-take_data.ensures.done (omega arith) (omega (arith, c.requires, c.len.ensures, c.args.body.now.ok.0)) c.in-Ok-take_line_end.ensures.taken

pub returns-in-Err-take_line_end-clause-refused : goal.returns-in-Err-take_line_end-clause-refused
returns-in-Err-take_line_end-clause-refused g c =
    rw c.piece_refusal-in-Err-take_line_end.ensures (no_end g.T.Stream.gave g.T.Stream.ended c.args.stream.now c.take_size.new.stream c.take_data.new.stream c.take_line_end.new.stream c.args.intake.now c.take_size.new.intake c.take_data.new.intake c.args.body.now.items c.take_data.new.body.items c.in-Ok.size (length c.args.body.now.items) c.in-Err-take_line_end.halt c.in-Ok.ensures.taken c.in-Ok-take_data.ensures.done (omega arith) (omega (arith, c.requires, c.len.ensures, c.args.body.now.ok.0)) c.in-Err-take_line_end.ensures.refused)

pub returns-in-Err-clause-prompt : goal.returns-in-Err-clause-prompt
returns-in-Err-clause-prompt g c = refused_map c.in-Err.refusal _ _ (λ p. line_prompt g.T.Stream.gave c.args.stream.now c.take_size.new.stream c.args.intake.now (length c.args.body.now.items) p) c.in-Err.ensures.prompt

pub returns-in-Err-take_data-clause-prompt : goal.returns-in-Err-take_data-clause-prompt
returns-in-Err-take_data-clause-prompt g c =
    rw c.piece_refusal.ensures (piece_halted c.take_data.result c.in-Err-take_data.halt _ _ c.in-Err-take_data.is (λ p. data_prompt g.T.Stream.gave c.args.stream.now c.take_size.new.stream c.take_data.new.stream c.args.intake.now c.take_size.new.intake c.in-Ok.size (length c.args.body.now.items) c.in-Ok.ensures.taken (omega arith) (omega (arith, c.requires, c.len.ensures, c.args.body.now.ok.0)) c.in-Ok.ensures.prompt p) c.take_data.ensures.prompt)

pub returns-in-Ok-take_line_end-clause-prompt : goal.returns-in-Ok-take_line_end-clause-prompt
returns-in-Ok-take_line_end-clause-prompt g c = end_prompt g.T.Stream.gave c.args.stream.now c.take_size.new.stream c.take_data.new.stream c.take_line_end.new.stream c.args.intake.now c.take_size.new.intake c.take_data.new.intake c.args.body.now.items c.take_data.new.body.items c.in-Ok.size (length c.args.body.now.items) c.in-Ok.ensures.taken c.in-Ok-take_data.ensures.done (omega arith) (omega (arith, c.requires, c.len.ensures, c.args.body.now.ok.0)) c.in-Ok.ensures.prompt c.in-Ok-take_data.ensures.prompt c.in-Ok-take_line_end.ensures.prompt

pub returns-in-Err-take_line_end-clause-prompt : goal.returns-in-Err-take_line_end-clause-prompt
returns-in-Err-take_line_end-clause-prompt g c =
    rw c.piece_refusal-in-Err-take_line_end.ensures (piece_halted c.take_line_end.result c.in-Err-take_line_end.halt _ _ c.in-Err-take_line_end.is (λ p. end_prompt g.T.Stream.gave c.args.stream.now c.take_size.new.stream c.take_data.new.stream c.take_line_end.new.stream c.args.intake.now c.take_size.new.intake c.take_data.new.intake c.args.body.now.items c.take_data.new.body.items c.in-Ok.size (length c.args.body.now.items) c.in-Ok.ensures.taken c.in-Ok-take_data.ensures.done (omega arith) (omega (arith, c.requires, c.len.ensures, c.args.body.now.ok.0)) c.in-Ok.ensures.prompt c.in-Ok-take_data.ensures.prompt p) c.take_line_end.ensures.prompt)

pub returns-then-size-eq0-clause-prompt : goal.returns-then-size-eq0-clause-prompt
returns-then-size-eq0-clause-prompt g c = line_prompt g.T.Stream.gave c.args.stream.now c.take_size.new.stream c.args.intake.now (length c.args.body.now.items) c.in-Ok.ensures.prompt

pub returns-then-size-len-clause-prompt : goal.returns-then-size-len-clause-prompt
returns-then-size-len-clause-prompt g c = line_prompt g.T.Stream.gave c.args.stream.now c.take_size.new.stream c.args.intake.now (length c.args.body.now.items) c.in-Ok.ensures.prompt
