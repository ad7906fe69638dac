use Rattle.std.proofs.Common.{◌∙◌, ap, sym}
use Rattle.std.specs.Option.{option_and_then}
use Rattle.uss_book_rules.specs.Speaks.{opening_in}
use Rattle.uss_book_rules.proofs.Direct.{opening_by_find}
use Rattle.uss_book_index.proofs.tells.EntriesTells.opening.Goals as goal

pub returns : goal.returns
returns c = c.opening_in.ensures ∙ ap (option_and_then opening_in) c.first.ensures ∙ sym (opening_by_find c.args.job c.args.self.now.entries)
