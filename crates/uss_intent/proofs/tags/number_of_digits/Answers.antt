use Rattle.uss_intent.proofs.TagLemmas.{no_number}
use Rattle.uss_intent.proofs.tags.number_of_digits.Goals as goal

pub returns-in-Err : goal.returns-in-Err
returns-in-Err c = no_number c.args.digits.now c.in-Err.ensures.cases.0
