use Rattle.std.proofs.Common.{◌+◌, length}
use Rattle.uss_shape.proofs.region.+chains_meet.Given as goal

abbrev pub decreases-chains_meet : goal.decreases-chains_meet
decreases-chains_meet l = length l.us.now + length l.vs.now
