use Rattle.uss_http_request.proofs.ChunkSteps.{halted_end, end_inside, end_taken}
use Rattle.uss_http_request.proofs.Prompting.{outside_again}
use Rattle.uss_http_request.proofs.chunk.take_line_end.Goals as goal

pub returns-in-Err-clause-refused : goal.returns-in-Err-clause-refused
returns-in-Err-clause-refused g c =
    let e = c.in-Err.ensures in
    halted_end g.T.Stream.gave g.T.Stream.ended c.args.stream.now c.args.intake.now c.take_piece.new.stream c.take_piece.new.intake c.in-Err.halt e.passes e.bad e.long e.cut

pub use_front-requires : goal.use_front-requires
use_front-requires g c = end_inside c.take_piece.new.intake c.in-Ok.ensures.found

pub returns-clause-taken : goal.returns-clause-taken
returns-clause-taken g c = end_taken g.T.Stream.gave c.args.stream.now c.args.intake.now c.take_piece.new.stream c.take_piece.new.intake c.use_front.new.self c.in-Ok.ensures.passes c.in-Ok.ensures.found c.use_front.ensures

pub returns-in-Err-clause-prompt : goal.returns-in-Err-clause-prompt
returns-in-Err-clause-prompt g c = outside_again (Unit {0}) c.take_piece.result c.in-Err.halt _ c.in-Err.is c.take_piece.ensures.prompt
