use Rattle.uss_law_book.proofs.EachOrderly.{legal_is_orderly}
use Rattle.uss_law_book.proofs.attempts_of_a_job_have_one_previous.Goals as goal

pub returns : goal.returns
returns c = λ book t u l. (legal_is_orderly book l).previous t u
