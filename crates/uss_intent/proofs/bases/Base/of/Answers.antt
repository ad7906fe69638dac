use Rattle.uss_intent.proofs.TextLemmas.{base_utf8}
use Rattle.uss_intent.proofs.bases.Base.of.Goals as goal

pub returns-in_default-clause-bad : goal.returns-in_default-clause-bad
returns-in_default-clause-bad c = λ _ is. c.in_default.ensures.cases.0 (base_utf8 c.args.bytes.now is)
