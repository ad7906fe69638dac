use Rattle.uss_vol4.proofs.Gapped.{shares_are_within}
use Rattle.uss_vol4.proofs.gaps.later_volumes_share_within_the_gap.Goals as goal

pub returns : goal.returns
returns c = shares_are_within
