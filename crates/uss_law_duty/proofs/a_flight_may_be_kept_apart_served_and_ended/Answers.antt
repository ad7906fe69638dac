use Rattle.uss_law_duty.proofs.Further as Further
use Rattle.uss_law_duty.proofs.a_flight_may_be_kept_apart_served_and_ended.Goals as goal

pub returns-clause-served : goal.returns-clause-served
returns-clause-served c = Further.served

pub returns-clause-serves : goal.returns-clause-serves
returns-clause-serves c = Further.serves

pub returns-clause-ends : goal.returns-clause-ends
returns-clause-ends c = Further.ends

pub returns-clause-ended : goal.returns-clause-ended
returns-clause-ended c = Further.ended
