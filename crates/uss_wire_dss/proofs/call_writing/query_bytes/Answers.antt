use Rattle.uss_wire_dss.proofs.CallsAgain.{query_plain}
use Rattle.uss_wire_dss.proofs.call_writing.query_bytes.Goals as goal

pub message-requires : goal.message-requires
message-requires c = rw c.in_ok-value.ensures (query_plain c.args.area.now)
