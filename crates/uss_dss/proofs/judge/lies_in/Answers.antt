-- The four answers are the four parts of the definition.
use Rattle.std.proofs.Common.{refl}
use Rattle.uss_law_dss.specs.Service.{lies_in}
use Rattle.uss_dss.proofs.judge.lies_in.Goals as goal

pub returns : goal.returns
unfolding lies_in
returns c =
    rw (c.all_of.ensures, c.is_within_x.ensures, c.is_within_y.ensures, c.is_within_altitude.ensures, c.is_within_time.ensures) refl
