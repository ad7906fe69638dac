use Rattle.uss_law_book.proofs.EachOrderly.{legal_beginning, legal_longer, legal_rest}
use Rattle.std.specs.Prelude.{[], ◌∷◌}
use Rattle.uss_law_book.proofs.legal_books_go_on.Goals as goal

pub returns-clause-beginning : goal.returns-clause-beginning
returns-clause-beginning c = λ book more h. legal_beginning [] book more h

pub returns-clause-longer : goal.returns-clause-longer
returns-clause-longer c = λ book e h m. legal_longer [] book e h m

pub returns-clause-only : goal.returns-clause-only
returns-clause-only c = λ book e h. (legal_rest [] book (e ∷ []) h).0
