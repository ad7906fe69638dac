use Rattle.std.proofs.Common.{◌+◌, arith}
use Rattle.std.proofs.lemmas.List.{take_rest}
use Rattle.uss_text.proofs.Cutting.{cut_first, free_all}
use Rattle.uss_text.proofs.lines.cut.Goals as goal

pub returns-in-None : goal.returns-in-None
returns-in-None c = free_all c.args.separator c.args.bytes.now (λ j lt. c.in-None.ensures j (omega arith) lt)

pub returns-in-Some : goal.returns-in-Some
returns-in-Some c = rw (take_rest c.args.bytes.now (c.in-Some.place + 1)) (cut_first c.args.separator c.args.bytes.now c.in-Some.place c.in-Some.ensures.0.high c.in-Some.ensures.1 (λ j lt. c.in-Some.ensures.0.before j (omega arith) lt))
