use Rattle.uss_law_dss.proofs.refusals_come_in_order.Goals as goal
use Rattle.uss_law_dss.proofs.EachCause.{in_order}

pub returns : goal.returns
returns c = in_order
