use Rattle.std.proofs.Common.{◌∙◌}
use Rattle.uss_wire_base.proofs.Again.{message_again}
use Rattle.uss_wire_dss.specs.Calls as reads
use Rattle.uss_wire_dss.specs.Replies.{subscription_answer_at}
use Rattle.uss_wire_dss.specs.CallWriting as spec
use Rattle.uss_wire_dss.specs.ReplyWriting.{subscription_answer_json}
use Rattle.uss_wire_dss.proofs.CallsAgain.{query_again, put_reference_again, put_subscription_again, subscription_answer_again}
use Rattle.uss_wire_dss.proofs.call_writing.messages_are_read_again.Goals as goal

pub returns-clause-query : goal.returns-clause-query
returns-clause-query c = λ area b fits is. message_again reads.query_at (spec.query_json area) b is ∙ query_again area fits

pub returns-clause-put_reference : goal.returns-clause-put_reference
returns-clause-put_reference c = λ f o e k s u t b fits is. message_again (reads.put_reference_at f o) (spec.put_reference_json e k s u t) b is ∙ put_reference_again f o e k s u t fits

pub returns-clause-put_subscription : goal.returns-clause-put_subscription
returns-clause-put_subscription c = λ t area u b v url is. message_again (reads.put_subscription_at t) (spec.put_subscription_json area u) b is ∙ put_subscription_again t area u v url

pub returns-clause-subscription_answer : goal.returns-clause-subscription_answer
returns-clause-subscription_answer c = λ t b fits is. message_again (subscription_answer_at t.manager t.area) (subscription_answer_json t) b is ∙ subscription_answer_again t fits
