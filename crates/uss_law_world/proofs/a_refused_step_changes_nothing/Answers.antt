use Rattle.uss_law_world.proofs.Refused.{unchanged, allowed}
use Rattle.uss_law_world.proofs.a_refused_step_changes_nothing.Goals as goal

pub returns : goal.returns
returns c = record { unchanged = unchanged; allowed = allowed }
