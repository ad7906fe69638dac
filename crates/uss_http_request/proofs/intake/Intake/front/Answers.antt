use Rattle.std.proofs.Common.{◌∙◌, sym, arith, take_all, length-take}
use Rattle.uss_http_request.proofs.intake.Intake.front.Goals as goal

pub slice_bounds-result-end : goal.slice_bounds-result-end
slice_bounds-result-end c = simp length-take (omega arith)

pub returns-then-bytes-le-PIECE-clause-value : goal.returns-then-bytes-le-PIECE-clause-value
returns-then-bytes-le-PIECE-clause-value c = sym (take_all 16384 c.as_slice-bytes.result.now (omega arith)) ∙ cc

pub returns-else-bytes-le-PIECE-clause-limit : goal.returns-else-bytes-le-PIECE-clause-limit
returns-else-bytes-le-PIECE-clause-limit c = simp length-take (omega arith)
