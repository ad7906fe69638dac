use Rattle.uss_law_dss.proofs.replies_fit.Goals as goal
use Rattle.uss_law_dss.proofs.EachFits.{step_fits}

pub returns : goal.returns
returns c = step_fits
