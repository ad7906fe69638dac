use Rattle.std.proofs.Common.{◌≡◌, ◌+◌, ◌≤◌, ◌<◌, ◌-◌, length}
use Rattle.uss_http_request.specs.Pieces.{piece_limit}
use Rattle.uss_http_request.specs.Prompt.{GrowsBy, call_limit}
use Rattle.uss_http_request.specs.Streams.{Hears, Passes}
use Rattle.uss_http_request.proofs.piece.take_on.Given as goal

abbrev pub invariant-taking : goal.invariant-taking
invariant-taking g l = record {
  more : length l.fn.intake < length l.intake;
  grows : GrowsBy l.fn.intake l.intake (length l.fn.intake + call_limit);
  near : length l.fn.intake < piece_limit → length l.intake < piece_limit + call_limit;
  seen : l.seen ≤ length l.intake;
  before : l.before ≤ length l.intake;
  passes : Passes g.T.Stream.gave l.fn.stream l.fn.intake l.stream l.intake;
  heard : Hears g.T.Stream.gave l.fn.stream l.stream;
  calm : g.T.Stream.faults l.stream ≡ g.T.Stream.faults l.fn.stream;
}

abbrev pub decreases-taking : goal.decreases-taking
decreases-taking g l = piece_limit - length l.intake
