use Rattle.uss_law_http.proofs.One.{one_head, no_refused_head, one_reason}
use Rattle.uss_law_http.proofs.same_bytes.one_head.Goals as goal

pub returns-clause-heads : goal.returns-clause-heads
returns-clause-heads c = one_head

pub returns-clause-accepted : goal.returns-clause-accepted
returns-clause-accepted c = no_refused_head

pub returns-clause-reasons : goal.returns-clause-reasons
returns-clause-reasons c = one_reason
