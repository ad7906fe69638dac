use Rattle.std.proofs.Common.{◌++◌, Ok}
use Rattle.uss_http.specs.Writing.{response_text}
use Rattle.uss_law_http.proofs.Decided.{one_response_read}
use Rattle.uss_law_http.proofs.ResponsesAgain.{response_again, writable}
use Rattle.uss_law_http.proofs.read_again.responses_are_read_again.Goals as goal

pub returns-clause-again : goal.returns-clause-again
returns-clause-again c = response_again

pub returns-clause-only : goal.returns-clause-only
returns-clause-only c = λ rest response answer is decided read. one_response_read (response_text response ++ rest) answer (Ok response) decided tt read (response_again rest response is)

pub returns-clause-writable : goal.returns-clause-writable
returns-clause-writable c = writable
