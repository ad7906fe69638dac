use Rattle.uss_law_dss.proofs.EachCause.{reply_refused}
use Rattle.uss_law_dss.proofs.refused_by_the_first_test.Goals as goal

pub returns : goal.returns
returns c = reply_refused
