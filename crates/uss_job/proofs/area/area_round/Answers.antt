use Rattle.uss_job.proofs.Round.{bounds_some}
use Rattle.uss_job.proofs.area.area_round.Goals as goal

pub volume-requires : goal.volume-requires
volume-requires c = rw c.box_round.ensures (bounds_some c.args.proposals.now c.requires)
