use Rattle.uss_wire_uss.specs.Intents.{details_answer_at, notification_at}
use Rattle.uss_wire_uss.specs.Asks.{asks_at, positions_at}
use Rattle.uss_wire_uss.specs.Writing.{details_answer_json, notification_json, asks_json, positions_json, IsReadable, IsReadableNote}
use Rattle.uss_wire_uss.proofs.Reread.{details_answer_again, notification_again, asks_again, positions_again}
use Rattle.uss_law_wire.proofs.Given.{given_again}
use Rattle.uss_law_wire.proofs.Events.{details_answer_given, notification_given, IsReadableAsk, asks_given, HasOffNominal, positions_given}
use Rattle.uss_law_wire.proofs.laws.events_that_were_read_are_read_again.Goals as goal

pub returns-clause-details_answer : goal.returns-clause-details_answer
returns-clause-details_answer c = λ p a b was is. given_again IsReadable details_answer_at details_answer_given p (details_answer_json p) (details_answer_again p) a b was is

pub returns-clause-notification : goal.returns-clause-notification
returns-clause-notification c = λ n a b was is. given_again IsReadableNote notification_at notification_given n (notification_json n) (notification_again n) a b was is

pub returns-clause-asks : goal.returns-clause-asks
returns-clause-asks c = λ r a b was is. given_again IsReadableAsk asks_at asks_given r (asks_json r) (asks_again r) a b was is

pub returns-clause-positions : goal.returns-clause-positions
returns-clause-positions c = λ p a b x y altitude was is.
    given_again HasOffNominal positions_at positions_given p (positions_json p) (λ h. positions_again p (record { x = x; y = y; altitude = altitude; off_nominal = h })) a b was is
