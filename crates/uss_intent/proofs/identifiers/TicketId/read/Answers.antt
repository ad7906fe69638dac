use Rattle.std.proofs.Common.{◌∙◌, sym, ap}
use Rattle.uss_intent.specs.Identifiers.{identifier_of}
use Rattle.uss_intent.proofs.IdentifierLemmas.{identifier_is_text, identifier_is_read}
use Rattle.uss_intent.proofs.identifiers.TicketId.read.Goals as goal

pub returns-in-Some-clause-found : goal.returns-in-Some-clause-found
returns-in-Some-clause-found c = identifier_is_text c.args.bytes.now _ (sym c.in-Some.ensures)

pub returns-in-Some-clause-every : goal.returns-in-Some-clause-every
returns-in-Some-clause-every c = λ id fits same. c.in-Some.ensures ∙ ap identifier_of same ∙ identifier_is_read id fits

pub returns-in-None-clause-every : goal.returns-in-None-clause-every
returns-in-None-clause-every c = λ id fits same. c.in-None.ensures ∙ ap identifier_of same ∙ identifier_is_read id fits
