use Rattle.std.proofs.Common.{◌≡◌, ◌≤◌, ◌-◌, length}
use Rattle.uss_http_request.specs.Fields.{body_limit}
use Rattle.uss_http_request.specs.Chunks.{IsCutOff, StopsWhere}
use Rattle.uss_http_request.specs.ChunkAnswers.{TakesChunks}
use Rattle.uss_http_request.specs.Prompt.{IsPrompt}
use Rattle.uss_http_request.specs.Streams.{Hears}
use Rattle.uss_http_request.proofs.body.take_chunks.Given as goal

abbrev pub invariant-chunks : goal.invariant-chunks
invariant-chunks g l = record {
  within : length l.body.items ≤ body_limit;
  taken : TakesChunks g.T.Stream.gave l.fn.stream l.fn.intake l.stream l.intake l.body.items;
  prompt : IsPrompt g.T.Stream.gave l.fn.stream l.fn.intake l.stream (StopsWhere IsCutOff);
  heard : Hears g.T.Stream.gave l.fn.stream l.stream;
  calm : g.T.Stream.faults l.stream ≡ g.T.Stream.faults l.fn.stream;
}

abbrev pub decreases-chunks : goal.decreases-chunks
decreases-chunks g l = body_limit - length l.body.items
