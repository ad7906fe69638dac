use Rattle.std.proofs.Common.{◌∙◌}
use Rattle.uss_wire_dss.specs.ChangesAndErrors.{change_answer_at, error_at}
use Rattle.uss_wire_dss.specs.Replies.{query_answer_at}
use Rattle.uss_wire_dss.specs.Calls.{put_reference_at}
use Rattle.uss_wire_uss.specs.Intents.{notification_at}
use Rattle.uss_law_wire.proofs.Deciding.{of_data, key_long, references_long, subscribers_long, missing_long, subscriptions_long}
use Rattle.uss_law_wire.proofs.order.long_lists_are_refused_before_their_items.Goals as goal

pub returns-clause-key : goal.returns-clause-key
returns-clause-key c = λ f o b d extents items is none front has more. of_data (put_reference_at f o) b d is ∙ key_long f o d extents items none front has more

pub returns-clause-references : goal.returns-clause-references
returns-clause-references c = λ client b d items is has more. of_data (query_answer_at client) b d is ∙ references_long client d items has more

pub returns-clause-subscribers : goal.returns-clause-subscribers
returns-clause-subscribers c = λ client b d items is has more. of_data (change_answer_at client) b d is ∙ subscribers_long client d items has more

pub returns-clause-missing : goal.returns-clause-missing
returns-clause-missing c = λ client b text d items is front middle has more. of_data (error_at client) b d is ∙ missing_long client text d items front middle has more

pub returns-clause-subscriptions : goal.returns-clause-subscriptions
returns-clause-subscriptions c = λ b d x y flight intent items is front middle has. of_data notification_at b d is ∙ subscriptions_long d x y flight intent items front middle has
