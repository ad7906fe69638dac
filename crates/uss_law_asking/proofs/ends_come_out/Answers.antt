use Rattle.uss_law_asking.proofs.EndsAgain as EndsAgain
use Rattle.uss_law_asking.proofs.ends_come_out.Goals as goal

pub returns-clause-answered : goal.returns-clause-answered
returns-clause-answered c = EndsAgain.ends_are_answered

pub returns-clause-so : goal.returns-clause-so
returns-clause-so c = EndsAgain.ends_come_out
