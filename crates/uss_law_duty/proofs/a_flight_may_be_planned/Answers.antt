use Rattle.uss_law_duty.proofs.Worked as Worked
use Rattle.uss_law_duty.proofs.a_flight_may_be_planned.Goals as goal

pub returns-clause-asking : goal.returns-clause-asking
returns-clause-asking c = Worked.asking

pub returns-clause-ticket_made : goal.returns-clause-ticket_made
returns-clause-ticket_made c = Worked.ticket_made

pub returns-clause-nothing_found : goal.returns-clause-nothing_found
returns-clause-nothing_found c = Worked.nothing_found

pub returns-clause-landed : goal.returns-clause-landed
returns-clause-landed c = Worked.landed
