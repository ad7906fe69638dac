use Rattle.std.proofs.Common.{sym}
use Rattle.uss_intent.proofs.IdentifierLemmas.{unread}
use Rattle.uss_intent.proofs.identifiers.read_number.Goals as goal

pub returns-in-Err : goal.returns-in-Err
returns-in-Err c = sym (unread c.args.bytes.now c.in-Err.ensures.cases.0)
