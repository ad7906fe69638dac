use Rattle.std.proofs.Common.{◌≡◌, ◌<◌, ◌-◌, length}
use Rattle.uss_http_request.specs.Pieces.{piece_limit}
use Rattle.uss_http_request.specs.Prompt.{IsPrompt}
use Rattle.uss_http_request.specs.Streams.{Hears, Passes}
use Rattle.uss_http_request.proofs.piece.take_piece.Given as goal

abbrev pub invariant-looking : goal.invariant-looking
invariant-looking g l = record {
  passes : Passes g.T.Stream.gave l.fn.stream l.fn.intake l.stream l.intake;
  prompt : IsPrompt g.T.Stream.gave l.fn.stream l.fn.intake l.stream (λ seen. (length seen < piece_limit) × g.P.Piece.unfinished seen);
  heard : Hears g.T.Stream.gave l.fn.stream l.stream;
  calm : g.T.Stream.faults l.stream ≡ g.T.Stream.faults l.fn.stream;
}

abbrev pub decreases-looking : goal.decreases-looking
decreases-looking g l = 16384 - length l.intake
