use Rattle.uss_law_book.proofs.EachOrderly.{legal_is_orderly}
use Rattle.uss_law_book.proofs.Held.{held_of, base_is}
use Rattle.uss_law_book.proofs.what_is_held_was_recorded.Goals as goal

pub returns-clause-held : goal.returns-clause-held
returns-clause-held c = λ book flight h l e. held_of book flight h (legal_is_orderly book l) e

pub returns-clause-current_ovn : goal.returns-clause-current_ovn
returns-clause-current_ovn c = λ book flight l. base_is book flight (legal_is_orderly book l)
