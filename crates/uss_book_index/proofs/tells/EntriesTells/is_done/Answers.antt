use Rattle.std.proofs.Common.{◌∙◌}
use Rattle.uss_book_rules.proofs.Direct.{done_by_any}
use Rattle.uss_book_index.proofs.tells.EntriesTells.is_done.Goals as goal

pub returns : goal.returns
returns c = c.has.ensures ∙ done_by_any c.args.job c.args.self.now.entries
