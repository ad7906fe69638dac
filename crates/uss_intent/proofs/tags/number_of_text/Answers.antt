use Rattle.std.proofs.Common.{◌∙◌}
use Rattle.uss_intent.proofs.TagLemmas.{parsed_number}
use Rattle.uss_intent.proofs.tags.number_of_text.Goals as goal

pub returns : goal.returns
returns c = c.ok.ensures.value ∙ parsed_number c.args.text.now c.parse.result c.requires.first c.requires.last c.parse.ensures.value.0
