use Rattle.uss_wire_uss.proofs.Plain.{details_answer_plain}
use Rattle.uss_wire_uss.proofs.writing.write_details_answer.Goals as goal

pub message-requires : goal.message-requires
message-requires c = rw c.in_ok-value.ensures (details_answer_plain c.args.pair.now)
