use Rattle.uss_law_asking.proofs.Halts as Halts
use Rattle.uss_law_asking.proofs.Sound as Sound
use Rattle.uss_law_asking.proofs.exchanges_come_to_an_end.Goals as goal

pub returns-clause-go_on : goal.returns-clause-go_on
returns-clause-go_on c = Sound.exchanges_go_on

pub returns-clause-ended : goal.returns-clause-ended
returns-clause-ended c = Halts.exchanges_end

pub returns-clause-replied : goal.returns-clause-replied
returns-clause-replied c = Halts.always_replied
