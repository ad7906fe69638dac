use Rattle.uss_law_http.proofs.Responses.{one_response}
use Rattle.uss_law_http.proofs.same_bytes.one_response.Goals as goal

pub returns : goal.returns
returns c = one_response
