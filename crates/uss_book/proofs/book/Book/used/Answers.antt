use Rattle.std.proofs.Common.{◌∙◌, ap}
use Rattle.uss_journal.specs.Format.{used_of}
use Rattle.uss_law_book.specs.Coding.{journal_length}
use Rattle.uss_book.specs.Book.{BookView}
use Rattle.uss_book.proofs.Lengths.{used_is}
use Rattle.uss_book.proofs.book.Book.used.Goals as goal

pub returns : goal.returns
returns g c =
    c.used.ensures ∙ ap used_of c.self.invariant.records ∙ used_is c.self.inside.kept.entries
    ∙ ap (λ (v : BookView g.row.D.Denot). journal_length v.entries) c.self.view_is
