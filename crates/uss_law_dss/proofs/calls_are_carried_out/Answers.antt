use Rattle.uss_law_dss.proofs.EachCarried.{done}
use Rattle.uss_law_dss.proofs.calls_are_carried_out.Goals as goal

pub returns : goal.returns
returns c = done
