use Rattle.uss_law_duty.proofs.Staying as Staying
use Rattle.uss_law_duty.proofs.a_flown_flight_may_stay.Goals as goal

pub returns-clause-stays : goal.returns-clause-stays
returns-clause-stays c = Staying.stays

pub returns-clause-stands_otherwise : goal.returns-clause-stands_otherwise
returns-clause-stands_otherwise c = Staying.stands_otherwise
