use Rattle.std.proofs.Common.{◌∙◌}
use Rattle.uss_book_rules.proofs.Direct.{gone_by_any}
use Rattle.uss_book_index.proofs.tells.EntriesTells.has_gone_entry.Goals as goal

pub returns : goal.returns
returns c = c.has.ensures ∙ gone_by_any c.args.job c.args.self.now.entries
