use Rattle.std.proofs.Common.{◌∙◌, sym}
use Rattle.serde_json.specs.Data.{object}
use Rattle.uss_wire_dss.specs.Calls.{put_reference_at}
use Rattle.uss_wire_uss.specs.Intents.{notification_at}
use Rattle.uss_wire_uss.specs.Asks.{positions_at}
use Rattle.uss_law_wire.proofs.Deciding.{of_data, put_reference_same, notification_same, positions_same}
use Rattle.uss_law_wire.proofs.order.members_without_a_name_here_are_ignored.Goals as goal

pub returns-clause-put_reference : goal.returns-clause-put_reference
returns-clause-put_reference c = λ f o a b ms ns one other h.
    of_data (put_reference_at f o) a (object ms) one ∙ (put_reference_same f o ms ns h ∙ sym (of_data (put_reference_at f o) b (object ns) other))

pub returns-clause-notification : goal.returns-clause-notification
returns-clause-notification c = λ a b ms ns one other h.
    of_data notification_at a (object ms) one ∙ (notification_same ms ns h ∙ sym (of_data notification_at b (object ns) other))

pub returns-clause-positions : goal.returns-clause-positions
returns-clause-positions c = λ a b ms ns one other h.
    of_data positions_at a (object ms) one ∙ (positions_same ms ns h ∙ sym (of_data positions_at b (object ns) other))
