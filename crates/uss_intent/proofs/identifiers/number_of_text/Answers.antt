use Rattle.std.proofs.Common.{◌∙◌, ap, sym, Some, true≢false}
use Rattle.uuid.specs.Text.{parsed}
use Rattle.uss_intent.specs.Identifiers.{identifier_text}
use Rattle.uss_intent.proofs.IdentifierLemmas.{parsed_here, parsed_elsewhere, unparsed, none_parsed}
use Rattle.uss_intent.proofs.identifiers.number_of_text.Goals as goal

pub returns-then-prints_as : goal.returns-then-prints_as
returns-then-prints_as c =
    let number = c.as_u128-number.ensures in
    let same = c.prints_as.ensures.0 c.if-prints_as.true in
    ap Some number ∙ sym (parsed_here c.args.text.now c.in-Ok.id (sym c.in-Ok.ensures.bytes) (same ∙ ap identifier_text number))

pub returns-else-prints_as : goal.returns-else-prints_as
returns-else-prints_as c =
    let number = c.as_u128-number.ensures in
    sym (parsed_elsewhere c.args.text.now c.in-Ok.id (sym c.in-Ok.ensures.bytes) (λ same. true≢false (sym (c.prints_as.ensures.1 (same ∙ ap identifier_text (sym number))) ∙ c.if-prints_as.false)))

pub returns-in-Err : goal.returns-in-Err
returns-in-Err c =
    sym (unparsed c.args.text.now (none_parsed (parsed c.args.text.now) (λ u is. true≢false (sym (c.in-Err.ensures.ok.1 (u, is))))))
