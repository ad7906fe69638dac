use Rattle.uss_wire_uss.proofs.Plain.{notification_plain}
use Rattle.uss_wire_uss.proofs.writing.write_notification.Goals as goal

pub message-requires : goal.message-requires
message-requires c = rw c.in_ok-value.ensures (notification_plain c.args.note.now)
