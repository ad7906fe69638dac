use Rattle.uss_law_http.proofs.Same.{one_answer}
use Rattle.uss_law_http.proofs.same_bytes.one_answer.Goals as goal

pub returns : goal.returns
returns c = one_answer
