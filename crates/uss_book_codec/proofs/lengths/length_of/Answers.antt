use Rattle.std.proofs.Common.{◌∙◌, ap, sym}
use Rattle.uss_law_book.specs.Coding.{coding_length}
use Rattle.uss_book_codec.proofs.lengths.length_of.Goals as goal

pub returns-in-Opened-clause-value : goal.returns-in-Opened-clause-value
returns-in-Opened-clause-value c = c.opening_length.ensures.value c.in-Opened.opening.job c.in-Opened.opening.moment ∙ ap coding_length (sym c.in-Opened.is)
