use Rattle.std.proofs.Common.{◌∙◌, ap, sym}
use Rattle.std.specs.Option.{option_and_then}
use Rattle.uss_book_rules.specs.Speaks.{decision_in}
use Rattle.uss_book_rules.proofs.Direct.{decision_by_find}
use Rattle.uss_book_index.proofs.tells.EntriesTells.decision.Goals as goal

pub returns : goal.returns
returns c = c.decision_in.ensures ∙ ap (option_and_then decision_in) c.first.ensures ∙ sym (decision_by_find c.args.job c.args.self.now.entries)
