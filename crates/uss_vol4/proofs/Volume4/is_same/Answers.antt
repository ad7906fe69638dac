use Rattle.uss_vol4.proofs.Share.{same_volume_tells}
use Rattle.uss_vol4.proofs.Volume4.is_same.Goals as goal

pub returns : goal.returns
returns c = rw c.eq.ensures (same_volume_tells c.args.self.now c.args.other.now)
