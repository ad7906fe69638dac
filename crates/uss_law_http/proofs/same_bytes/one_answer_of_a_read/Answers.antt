use Rattle.uss_law_http.proofs.Decided.{one_request, one_response_read}
use Rattle.uss_law_http.proofs.same_bytes.one_answer_of_a_read.Goals as goal

pub returns-clause-requests : goal.returns-clause-requests
returns-clause-requests c = one_request

pub returns-clause-responses : goal.returns-clause-responses
returns-clause-responses c = one_response_read
