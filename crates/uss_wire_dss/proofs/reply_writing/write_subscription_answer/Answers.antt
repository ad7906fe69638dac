use Rattle.uss_wire_dss.proofs.CallsAgain.{subscription_answer_plain}
use Rattle.uss_wire_dss.proofs.reply_writing.write_subscription_answer.Goals as goal

pub message-requires : goal.message-requires
message-requires c = rw c.in_ok-value.ensures (subscription_answer_plain c.args.ticket.now)
