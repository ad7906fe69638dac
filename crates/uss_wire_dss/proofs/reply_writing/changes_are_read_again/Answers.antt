use Rattle.std.proofs.Common.{◌∙◌}
use Rattle.uss_wire_base.proofs.Again.{message_again}
use Rattle.uss_wire_dss.specs.ChangesAndErrors.{change_answer_at}
use Rattle.uss_wire_dss.specs.ReplyWriting.{change_answer_json}
use Rattle.uss_wire_dss.proofs.RepliesAgain.{change_again}
use Rattle.uss_wire_dss.proofs.reply_writing.changes_are_read_again.Goals as goal

pub returns : goal.returns
returns c = λ client r ss b fits all few is. message_again (change_answer_at client) (change_answer_json r ss) b is ∙ change_again client r ss fits all few
