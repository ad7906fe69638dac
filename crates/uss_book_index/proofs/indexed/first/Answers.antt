use Rattle.std.proofs.Common.{◌∙◌}
use Rattle.uss_book_index.proofs.Numbered.{got_first}
use Rattle.uss_book_index.proofs.indexed.first.Goals as goal

pub returns : goal.returns
returns c = λ are. c.at.ensures ∙ got_first c.args.entries.now c.place.result _ (c.place.ensures c.args.entries.now are)
