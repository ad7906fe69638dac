use Rattle.uss_wire_dss.proofs.RepliesPlain.{change_answer_plain}
use Rattle.uss_wire_dss.proofs.reply_writing.write_change_answer.Goals as goal

pub message-requires : goal.message-requires
message-requires c = rw c.in_ok-value.ensures (change_answer_plain c.args.reference.now c.args.subscribers.now)
