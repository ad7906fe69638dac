use Rattle.uss_law_duty.proofs.Worked as Worked
use Rattle.uss_law_duty.proofs.a_job_may_go_on.Goals as goal

pub returns-clause-lacked : goal.returns-clause-lacked
returns-clause-lacked c = Worked.lacked

pub returns-clause-resumed : goal.returns-clause-resumed
returns-clause-resumed c = Worked.resumed

pub returns-clause-asks_again : goal.returns-clause-asks_again
returns-clause-asks_again c = Worked.asks_again

pub returns-clause-got : goal.returns-clause-got
returns-clause-got c = Worked.got
