use Rattle.uss_wire_dss.proofs.CallsAgain.{put_reference_plain}
use Rattle.uss_wire_dss.proofs.call_writing.put_reference_bytes.Goals as goal

pub message-requires : goal.message-requires
message-requires c = rw c.in_ok-value.ensures (put_reference_plain c.args.extents.now c.args.key.now c.args.state c.args.base.now c.args.ticket)
