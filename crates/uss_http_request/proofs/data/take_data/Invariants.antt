use Rattle.std.proofs.Common.{◌≡◌, ◌≤◌, ◌<◌, ◌-◌, [], length}
use Rattle.uss_http_request.specs.Prompt.{IsPrompt}
use Rattle.uss_http_request.specs.Streams.{Hears, Moves}
use Rattle.uss_http_request.proofs.data.take_data.Given as goal

abbrev pub invariant-moving : goal.invariant-moving
invariant-moving g l = record {
  some_left : l.missing ≤ l.count;
  moves : Moves g.T.Stream.gave l.fn.stream l.fn.intake l.stream l.intake l.fn.body.items l.body.items (l.count - l.missing);
  empty : 0 < l.missing → l.intake ≡ [];
  prompt : IsPrompt g.T.Stream.gave l.fn.stream l.fn.intake l.stream (λ seen. length seen < l.count);
  heard : Hears g.T.Stream.gave l.fn.stream l.stream;
  calm : g.T.Stream.faults l.stream ≡ g.T.Stream.faults l.fn.stream;
}

abbrev pub decreases-moving : goal.decreases-moving
decreases-moving g l = l.missing
