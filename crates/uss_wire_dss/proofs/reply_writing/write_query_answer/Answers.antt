use Rattle.uss_wire_dss.proofs.RepliesPlain.{query_answer_plain}
use Rattle.uss_wire_dss.proofs.reply_writing.write_query_answer.Goals as goal

pub message-requires : goal.message-requires
message-requires c = rw c.in_ok-value.ensures (query_answer_plain c.args.references.now)
