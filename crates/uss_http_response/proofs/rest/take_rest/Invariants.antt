use Rattle.std.proofs.Common.{◌≡◌, ◌≤◌, ◌-◌, length}
use Rattle.uss_http_request.specs.Fields.{body_limit}
use Rattle.uss_http_request.specs.Prompt.{IsPrompt}
use Rattle.uss_http_request.specs.Streams.{Hears, Passes}
use Rattle.uss_http_response.proofs.rest.take_rest.Given as goal

abbrev pub invariant-taking : goal.invariant-taking
invariant-taking g l = record {
  passes : Passes g.T.Stream.gave l.fn.stream l.fn.intake l.stream l.body.items;
  prompt : IsPrompt g.T.Stream.gave l.fn.stream l.fn.intake l.stream (λ seen. length seen ≤ body_limit);
  heard : Hears g.T.Stream.gave l.fn.stream l.stream;
  calm : g.T.Stream.faults l.stream ≡ g.T.Stream.faults l.fn.stream;
}

abbrev pub decreases-taking : goal.decreases-taking
decreases-taking g l = 8388609 - length l.body.items
