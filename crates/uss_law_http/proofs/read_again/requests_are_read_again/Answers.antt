use Rattle.std.proofs.Common.{◌++◌, Ok}
use Rattle.uss_http.specs.Writing.{request_text}
use Rattle.uss_law_http.proofs.Decided.{one_request}
use Rattle.uss_law_http.proofs.RequestsAgain.{request_again, readable}
use Rattle.uss_law_http.proofs.read_again.requests_are_read_again.Goals as goal

pub returns-clause-again : goal.returns-clause-again
returns-clause-again c = request_again

pub returns-clause-only : goal.returns-clause-only
returns-clause-only c = λ host rest request answer is fits decided read. one_request (request_text host request ++ rest) answer (Ok request) decided tt read (request_again host rest request is fits)

pub returns-clause-readable : goal.returns-clause-readable
returns-clause-readable c = readable
