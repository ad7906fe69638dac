use Rattle.std.proofs.Common.{◌∙◌, arith, subst, sym}
use Rattle.std.specs.Prelude.{List, ℕ}
use Rattle.uss_http_request.specs.Streams.{Passes}
use Rattle.uss_http_request.proofs.Passing.{passes_then, hears_then}
use Rattle.uss_http_response.proofs.PromptSteps.{rest_open}
use Rattle.uss_http_response.proofs.rest.take_rest.Goals as goal

pub returns-in-Ok-eq0-clause-prompt : goal.returns-in-Ok-eq0-clause-prompt
returns-in-Ok-eq0-clause-prompt g c = rest_open g.T.Stream.gave c.args.stream.now c.taking.stream c.read_past.new.stream c.args.intake.now c.taking.body.items c.read_past.new.body.items c.in-Ok-eq0.field-0 c.taking.invariant.passes (omega arith) c.in-Ok-eq0.ensures.adds c.in-Ok-eq0.ensures.one_call

pub taking-preserved : goal.taking-preserved
taking-preserved g c =
    let was = c.taking.invariant in
    let past = c.in-Ok-read_past.ensures in
    record {
      passes = subst (λ (bytes : List ℕ). Passes g.T.Stream.gave c.args.stream.now c.args.intake.now c.read_past.new.stream bytes) (sym past.adds.added) (passes_then was.passes (past.adds.passes c.taking.body.items));
      prompt = rest_open g.T.Stream.gave c.args.stream.now c.taking.stream c.read_past.new.stream c.args.intake.now c.taking.body.items c.read_past.new.body.items c.in-Ok-read_past.field-0 was.passes (omega arith) past.adds past.one_call;
      heard = hears_then was.heard past.heard;
      calm = past.calm (λ e. cc) ∙ was.calm;
    }
