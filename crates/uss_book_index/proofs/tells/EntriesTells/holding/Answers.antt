use Rattle.std.proofs.Common.{◌∙◌, ap, sym}
use Rattle.std.specs.Option.{option_and_then}
use Rattle.uss_book_rules.specs.Speaks.{holding_in}
use Rattle.uss_book_rules.proofs.Direct.{holding_by_find}
use Rattle.uss_book_index.proofs.tells.EntriesTells.holding.Goals as goal

pub returns : goal.returns
returns c = c.holding_in.ensures ∙ ap (option_and_then holding_in) c.first.ensures ∙ sym (holding_by_find c.args.job c.args.self.now.entries)
