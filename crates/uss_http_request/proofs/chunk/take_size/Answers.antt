use Rattle.httparse.specs.Grammar.{print_chunk_line}
use Rattle.uss_http_request.proofs.ChunkSteps.{at_front, halted_line, size_taken}
use Rattle.uss_http_request.proofs.Prompting.{piece_halted}
use Rattle.uss_http_request.proofs.chunk.take_size.Goals as goal

pub returns-in-Err-clause-refused : goal.returns-in-Err-clause-refused
returns-in-Err-clause-refused g c = λ so_far.
    let e = c.in-Err.ensures in
    rw c.piece_refusal.ensures (halted_line g.T.Stream.gave g.T.Stream.ended c.args.stream.now c.args.intake.now c.take_piece.new.stream c.take_piece.new.intake c.in-Err.halt so_far e.passes e.bad e.long e.cut)

pub use_front-requires : goal.use_front-requires
use_front-requires g c =
    let found = c.in-Ok.ensures.found in
    (at_front c.take_piece.new.intake (print_chunk_line found.0) _ c.in-Ok.found.0 found.1.reads.1 found.1.len_is).inside

pub returns-clause-taken : goal.returns-clause-taken
returns-clause-taken g c =
    let found = c.in-Ok.ensures.found in
    size_taken g.T.Stream.gave c.args.stream.now c.args.intake.now c.take_piece.new.stream c.take_piece.new.intake c.use_front.new.self c.in-Ok.found.0 c.in-Ok.found.1 found.0 c.in-Ok.ensures.passes found.1 c.use_front.ensures

pub returns-in-Err-clause-prompt : goal.returns-in-Err-clause-prompt
returns-in-Err-clause-prompt g c = rw c.piece_refusal.ensures (piece_halted c.take_piece.result c.in-Err.halt _ _ c.in-Err.is (λ p. p) c.take_piece.ensures.prompt)
