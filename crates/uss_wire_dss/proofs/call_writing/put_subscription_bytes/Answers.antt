use Rattle.uss_wire_dss.proofs.CallsAgain.{put_subscription_plain}
use Rattle.uss_wire_dss.proofs.call_writing.put_subscription_bytes.Goals as goal

pub message-requires : goal.message-requires
message-requires c = rw c.in_ok-value.ensures (put_subscription_plain c.args.area.now c.args.base.now)
