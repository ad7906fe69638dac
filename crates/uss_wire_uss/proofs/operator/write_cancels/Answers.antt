use Rattle.uss_wire_uss.proofs.OperatorAgain.{cancels_plain}
use Rattle.uss_wire_uss.proofs.operator.write_cancels.Goals as goal

pub message-requires : goal.message-requires
message-requires c = rw c.in_ok-value.ensures (cancels_plain c.args.flight c.args.number)
