use Rattle.uss_law_duty.proofs.Others as Others
use Rattle.uss_law_duty.proofs.a_call_may_fail.Goals as goal

pub returns : goal.returns
returns c = Others.left
