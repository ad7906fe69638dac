use Rattle.std.proofs.Common.{◌∙◌, refl, arith}
use Rattle.uss_http_request.proofs.Passing.{passes_then, hears_then}
use Rattle.uss_http_request.proofs.Prompting.{look_then, look_end}
use Rattle.uss_http_request.proofs.piece.take_piece.Goals as goal

pub looking-preserved : goal.looking-preserved
looking-preserved g c =
    let lines = c.in-Ok-Some.ensures in
    record {
      passes = passes_then c.looking.invariant.passes lines.passes;
      prompt = look_then g.T.Stream.gave c.args.stream.now c.looking.stream c.take_on.new.stream c.args.intake.now c.looking.intake c.take_on.new.intake c.front.result.now g.P.Piece.unfinished c.looking.invariant.passes c.front.ensures.value c.in-NotYet.ensures (omega arith) lines.passes lines.doubled (lines.near (omega arith));
      heard = hears_then c.looking.invariant.heard c.take_on.ensures.heard;
      calm = lines.calm (λ e. cc) ∙ c.looking.invariant.calm;
    }

pub returns-in-Ok-End-clause-prompt : goal.returns-in-Ok-End-clause-prompt
returns-in-Ok-End-clause-prompt g c =
    let last = c.in-Ok-End.ensures in
    look_end g.T.Stream.gave c.args.stream.now c.take_on.new.stream c.args.intake.now c.looking.intake c.take_on.new.intake c.front.result.now g.P.Piece.unfinished (passes_then c.looking.invariant.passes last.passes) c.front.ensures.value c.in-NotYet.ensures (omega arith) (last.same (rw c.in-Ok-End.field-0-is refl))
