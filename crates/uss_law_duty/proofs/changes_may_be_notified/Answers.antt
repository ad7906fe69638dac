use Rattle.uss_law_duty.proofs.Others as Others
use Rattle.uss_law_duty.proofs.changes_may_be_notified.Goals as goal

pub returns-clause-tells : goal.returns-clause-tells
returns-clause-tells c = Others.tells

pub returns-clause-notifying : goal.returns-clause-notifying
returns-clause-notifying c = Others.notifying

pub returns-clause-hears : goal.returns-clause-hears
returns-clause-hears c = Others.hears

pub returns-clause-forgets : goal.returns-clause-forgets
returns-clause-forgets c = Others.forgets
