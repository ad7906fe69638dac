use Rattle.std.proofs.Common.{◌∙◌, arith}
use Rattle.uss_http_request.proofs.Finding.{digits_more, capped_more}
use Rattle.uss_http_request.proofs.fields.number.Goals as goal

pub loop-digit-preserved : goal.loop-digit-preserved
loop-digit-preserved c = (
  digits_more c.args.text.now c.loop-digit.digit-index (omega arith) (omega arith) (omega arith) c.loop-digit.invariant.0,
  c.min-value.ensures ∙ capped_more c.args.text.now c.loop-digit.digit-index c.loop-digit.value (omega arith) (omega arith) (omega arith) c.loop-digit.invariant.1,
)
