use Rattle.uss_law_duty.proofs.Worked as Worked
use Rattle.uss_law_duty.proofs.a_job_may_be_cancelled.Goals as goal

pub returns-clause-cancels : goal.returns-clause-cancels
returns-clause-cancels c = Worked.cancels

pub returns-clause-cancelled : goal.returns-clause-cancelled
returns-clause-cancelled c = Worked.cancelled
