use Rattle.uss_law_http.proofs.One.{one_body}
use Rattle.uss_law_http.proofs.Same.{body_or_refused, one_body_reason}
use Rattle.uss_law_http.proofs.same_bytes.one_body.Goals as goal

pub returns-clause-bodies : goal.returns-clause-bodies
returns-clause-bodies c = one_body

pub returns-clause-accepted : goal.returns-clause-accepted
returns-clause-accepted c = body_or_refused

pub returns-clause-reasons : goal.returns-clause-reasons
returns-clause-reasons c = one_body_reason
