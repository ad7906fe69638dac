use Rattle.uss_law_duty.proofs.Flown as Flown
use Rattle.uss_law_duty.proofs.a_flight_may_be_changed.Goals as goal

pub returns-clause-flies : goal.returns-clause-flies
returns-clause-flies c = Flown.flies

pub returns-clause-lands : goal.returns-clause-lands
returns-clause-lands c = Flown.lands

pub returns-clause-strays : goal.returns-clause-strays
returns-clause-strays c = Flown.strays
