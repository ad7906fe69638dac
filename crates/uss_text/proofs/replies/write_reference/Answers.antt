use Rattle.std.proofs.Common.{arith}
use Rattle.std.proofs.lemmas.Grind.{common_steps}
use Rattle.uss_text.proofs.Replying.{reference_parts}
use Rattle.uss_text.proofs.replies.write_reference.Goals as goal

pub returns : goal.returns
returns c = rw (reference_parts c.args.reference.now) (grind (arith, common_steps))
