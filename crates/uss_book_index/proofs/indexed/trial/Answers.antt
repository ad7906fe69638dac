use Rattle.std.proofs.Common.{◌∙◌, ap, sym}
use Rattle.std.specs.Option.{option_and_then}
use Rattle.uss_book_rules.specs.Speaks.{trial_in}
use Rattle.uss_book_rules.proofs.Direct.{trial_by_find}
use Rattle.uss_book_index.proofs.indexed.trial.Goals as goal

pub returns : goal.returns
returns c = λ are. c.trial_in.ensures ∙ ap (option_and_then trial_in) (c.first.ensures are) ∙ sym (trial_by_find c.args.tag c.args.entries.now)
