use Rattle.std.proofs.Common.{◌∙◌, ap, sym}
use Rattle.std.specs.Option.{option_and_then}
use Rattle.uss_book_rules.specs.Speaks.{ending_in}
use Rattle.uss_book_rules.proofs.Direct.{ending_by_find}
use Rattle.uss_book_index.proofs.tells.EntriesTells.ending.Goals as goal

pub returns : goal.returns
returns c = c.ending_in.ensures ∙ ap (option_and_then ending_in) c.first.ensures ∙ sym (ending_by_find c.args.job c.args.self.now.entries)
