use Rattle.uss_law_dss.proofs.ovns_belong_to_one_landing.Goals as goal
use Rattle.uss_law_dss.proofs.EachOrderly.{one_landing}

pub returns : goal.returns
returns c = one_landing
