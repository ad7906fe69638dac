use Rattle.std.proofs.Common.{rules}
use Rattle.uss_intent.proofs.TextLemmas.{ovn_utf8}
use Rattle.uss_intent.proofs.names.Ovn.of.Goals as goal

pub returns-in-Err-clause-bad : goal.returns-in-Err-clause-bad
returns-in-Err-clause-bad c = (λ _ is. c.in-Err.ensures.cases.0 (ovn_utf8 c.args.bytes.now is), λ _. search rules)
