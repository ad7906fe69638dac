use Rattle.uss_law_book.proofs.EachOrderly.{legal_is_orderly}
use Rattle.uss_law_book.proofs.legal_books_are_orderly.Goals as goal

pub returns : goal.returns
returns c = legal_is_orderly
