use Rattle.std.proofs.Common.{rules}
use Rattle.uss_intent.proofs.TextLemmas.{name_utf8}
use Rattle.uss_intent.proofs.names.Name.of.Goals as goal

pub returns-in-Err-clause-bad : goal.returns-in-Err-clause-bad
returns-in-Err-clause-bad c = (λ _ is. c.in-Err.ensures.cases.0 (name_utf8 c.args.bytes.now is), λ _. search rules)
