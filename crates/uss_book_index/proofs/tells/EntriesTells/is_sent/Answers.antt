use Rattle.std.proofs.Common.{◌∙◌}
use Rattle.uss_book_rules.proofs.Direct.{sent_by_any}
use Rattle.uss_book_index.proofs.tells.EntriesTells.is_sent.Goals as goal

pub returns : goal.returns
returns c = c.has.ensures ∙ sent_by_any c.args.job c.args.index c.args.self.now.entries
