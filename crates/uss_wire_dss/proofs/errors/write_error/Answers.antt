use Rattle.uss_wire_dss.proofs.RepliesPlain.{error_plain}
use Rattle.uss_wire_dss.proofs.errors.write_error.Goals as goal

pub message-requires : goal.message-requires
message-requires c = rw c.in_ok-value.ensures (error_plain c.args.error.now)
