use Rattle.uss_law_exact.proofs.Refused.{refused_changes_nothing}
use Rattle.uss_law_exact.proofs.a_refused_step_changes_nothing.Goals as goal

pub returns : goal.returns
returns c = refused_changes_nothing
