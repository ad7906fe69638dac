use Rattle.std.proofs.Common.{◌∙◌, ap, is_some}
use Rattle.uss_book_index.specs.Marks.{has_mark}
use Rattle.uss_law_book.proofs.Finds.{any_found}
use Rattle.uss_book_index.proofs.Sent.{copied_some}
use Rattle.uss_book_index.proofs.entries.Entries.has.Goals as goal

pub returns : goal.returns
returns c = c.is_some.ensures ∙ copied_some c.first.result ∙ ap is_some c.first.ensures ∙ any_found (has_mark c.args.mark) c.args.self.now.entries
