use Rattle.std.proofs.Common.{◌∙◌, ap}
use Rattle.uss_law_duty.specs.Sends.{all_extents}
use Rattle.uss_job.specs.Area.{box_or_zeros}
use Rattle.uss_job.proofs.Round.{proposals_are, round_is}
use Rattle.uss_job.proofs.area.box_round.Goals as goal

pub returns : goal.returns
returns c =
    c.box_or_zeros.ensures
    ∙ ap box_or_zeros (c.with_proposals.ensures ∙ proposals_are c.args.proposals.now)
    ∙ round_is (all_extents c.args.proposals.now)
