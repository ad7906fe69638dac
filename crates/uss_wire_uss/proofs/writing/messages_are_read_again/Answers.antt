use Rattle.std.proofs.Common.{◌∙◌}
use Rattle.uss_wire_base.proofs.Again.{message_again}
use Rattle.uss_wire_uss.specs.Intents.{details_answer_at, notification_at}
use Rattle.uss_wire_uss.specs.Asks.{asks_at, positions_at}
use Rattle.uss_wire_uss.specs.Operator.{cancels_at, sweeps_at, cancels_json, sweeps_json}
use Rattle.uss_wire_uss.specs.Writing as spec
use Rattle.uss_wire_uss.proofs.Reread.{details_answer_again, notification_again, asks_again, positions_again}
use Rattle.uss_wire_uss.proofs.OperatorAgain.{cancels_again, sweeps_again}
use Rattle.uss_wire_uss.proofs.writing.messages_are_read_again.Goals as goal

pub returns-clause-details_answer : goal.returns-clause-details_answer
returns-clause-details_answer c = λ p b fits is. message_again details_answer_at (spec.details_answer_json p) b is ∙ details_answer_again p fits

pub returns-clause-notification : goal.returns-clause-notification
returns-clause-notification c = λ n b fits is. message_again notification_at (spec.notification_json n) b is ∙ notification_again n fits

pub returns-clause-asks : goal.returns-clause-asks
returns-clause-asks c = λ a b fits is. message_again asks_at (spec.asks_json a) b is ∙ asks_again a fits

pub returns-clause-positions : goal.returns-clause-positions
returns-clause-positions c = λ p b fits is. message_again positions_at (spec.positions_json p) b is ∙ positions_again p fits

pub returns-clause-cancels : goal.returns-clause-cancels
returns-clause-cancels c = λ f n b is. message_again cancels_at (cancels_json f n) b is ∙ cancels_again f n

pub returns-clause-sweeps : goal.returns-clause-sweeps
returns-clause-sweeps c = λ n b is. message_again sweeps_at (sweeps_json n) b is ∙ sweeps_again n
