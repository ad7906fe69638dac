use Rattle.uss_wire_uss.proofs.PlainOutcomes.{swept_plain}
use Rattle.uss_wire_uss.proofs.outcomes.write_swept.Goals as goal

pub message-requires : goal.message-requires
message-requires c = rw c.in_ok-value.ensures (swept_plain c.args.tried c.args.failed)
