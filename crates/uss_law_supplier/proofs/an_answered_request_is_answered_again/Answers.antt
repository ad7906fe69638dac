use Rattle.uss_law_supplier.proofs.Again.{repeats_are_answered, late_cancels_are_answered}
use Rattle.uss_law_supplier.proofs.an_answered_request_is_answered_again.Goals as goal

pub returns-clause-repeated : goal.returns-clause-repeated
returns-clause-repeated c = repeats_are_answered

pub returns-clause-cancelled : goal.returns-clause-cancelled
returns-clause-cancelled c = late_cancels_are_answered
