use Rattle.std.proofs.Common.{ap, Err, subst}
use Rattle.std.specs.Prelude.{ℕ}
use Rattle.httparse.specs.Spans.{RequestExceeds}
use Rattle.uss_http_request.proofs.Room.{roomy}
use Rattle.uss_http_request.proofs.heads.look_for_head.Goals as goal

pub returns-in-Err-TooManyHeaders-clause-room : goal.returns-in-Err-TooManyHeaders-clause-room
returns-in-Err-TooManyHeaders-clause-room c = λ same.
    absurd (roomy c.args.bytes.now c.requires (subst (λ (n : ℕ). RequestExceeds n c.args.bytes.now) same (c.in-Err-TooManyHeaders.ensures.too_many (ap Err c.in-Err-TooManyHeaders.field-0-is))))
