use Rattle.std.proofs.Common.{drop, take}
use Rattle.uss_http_request.specs.Pieces.{piece_limit}
use Rattle.uss_http_request.proofs.BodySteps.{trailers_taken, halted_trailers}
use Rattle.uss_http_request.proofs.Prompting.{outside_again}
use Rattle.uss_http_request.proofs.trailers.take_trailers.Goals as goal

pub returns-in-Ok-clause-taken : goal.returns-in-Ok-clause-taken
returns-in-Ok-clause-taken g c =
    let found = c.in-Ok.ensures.found in
    trailers_taken g.T.Stream.gave c.args.stream.now c.args.intake.now c.take_piece.new.stream c.take_piece.new.intake (drop c.in-Ok.field-0 (take piece_limit c.take_piece.new.intake)) found.0 found.1 c.in-Ok.ensures.passes found.2

pub returns-in-Err-clause-refused : goal.returns-in-Err-clause-refused
returns-in-Err-clause-refused g c =
    let e = c.in-Err.ensures in
    halted_trailers g.T.Stream.gave g.T.Stream.ended c.args.stream.now c.args.intake.now c.take_piece.new.stream c.take_piece.new.intake c.in-Err.halt e.passes e.bad e.long e.cut

pub returns-in-Err-clause-prompt : goal.returns-in-Err-clause-prompt
returns-in-Err-clause-prompt g c = outside_again (Unit {0}) c.take_piece.result c.in-Err.halt _ c.in-Err.is c.take_piece.ensures.prompt
