use Rattle.uss_wire_uss.proofs.OperatorAgain.{sweeps_plain}
use Rattle.uss_wire_uss.proofs.operator.write_sweeps.Goals as goal

pub message-requires : goal.message-requires
message-requires c = rw c.in_ok-value.ensures (sweeps_plain c.args.skip)
