use Rattle.uss_law_duty.proofs.Tickets as Tickets
use Rattle.uss_law_duty.proofs.a_ticket_may_be_taken_out.Goals as goal

pub returns-clause-in_use : goal.returns-clause-in_use
returns-clause-in_use c = Tickets.in_use

pub returns-clause-takes_out : goal.returns-clause-takes_out
returns-clause-takes_out c = Tickets.takes_out

pub returns-clause-gone : goal.returns-clause-gone
returns-clause-gone c = Tickets.gone
