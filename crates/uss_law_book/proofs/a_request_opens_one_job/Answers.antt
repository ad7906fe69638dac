use Rattle.uss_law_book.proofs.EachOrderly.{legal_is_orderly}
use Rattle.uss_law_book.proofs.a_request_opens_one_job.Goals as goal

pub returns : goal.returns
returns c = λ book o p l. (legal_is_orderly book l).requests o p
