use Rattle.uss_law_book.proofs.Attempts.{attempt_kept}
use Rattle.uss_law_book.proofs.attempts_stay.Goals as goal

pub returns : goal.returns
returns c = attempt_kept
