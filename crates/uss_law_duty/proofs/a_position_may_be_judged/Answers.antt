use Rattle.uss_law_duty.proofs.Others as Others
use Rattle.uss_law_duty.proofs.a_position_may_be_judged.Goals as goal

pub returns-clause-conforms : goal.returns-clause-conforms
returns-clause-conforms c = Others.conforms

pub returns-clause-strays : goal.returns-clause-strays
returns-clause-strays c = Others.strays

pub returns-clause-old : goal.returns-clause-old
returns-clause-old c = Others.old
