use Rattle.std.proofs.Common.{◌∙◌}
use Rattle.uss_wire_base.proofs.Again.{message_again}
use Rattle.uss_wire_dss.specs.ReplyWriting.{query_answer_json, get_answer_json}
use Rattle.uss_wire_dss.specs.Replies.{query_answer_at, get_answer_at}
use Rattle.uss_law_wire.proofs.Again.{query_answer_again, get_answer_again}
use Rattle.uss_law_wire.proofs.laws.answers_are_read_again.Goals as goal

pub returns-clause-query_answer : goal.returns-clause-query_answer
returns-clause-query_answer c = λ client rs b all few is. message_again (query_answer_at client) (query_answer_json rs) b is ∙ query_answer_again client rs all few

pub returns-clause-get_answer : goal.returns-clause-get_answer
returns-clause-get_answer c = λ client r b fits is. message_again (get_answer_at client) (get_answer_json r) b is ∙ get_answer_again client r fits
