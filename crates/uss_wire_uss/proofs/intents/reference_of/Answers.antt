use Rattle.uss_wire_uss.proofs.Shown.{shown_if_given}
use Rattle.uss_wire_uss.proofs.intents.reference_of.Goals as goal

pub returns-clause-shown : goal.returns-clause-shown
returns-clause-shown c = shown_if_given _ _ _ c.intent_reference.ensures
