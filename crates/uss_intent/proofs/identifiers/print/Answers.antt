use Rattle.std.proofs.Common.{◌∙◌, ap}
use Rattle.uuid.specs.Text.{hyphenated_text, lower}
use Rattle.uss_intent.specs.Identifiers.{identifier_text}
use Rattle.uss_intent.proofs.identifiers.print.Goals as goal

pub returns : goal.returns
unfolding identifier_text
returns c = c.encode_lower.ensures.text ∙ ap (hyphenated_text lower) (c.hyphenated.ensures ∙ c.from_u128.ensures)
