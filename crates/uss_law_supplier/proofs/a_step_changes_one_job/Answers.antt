use Rattle.uss_law_supplier.proofs.Keeping.{steps_change_so}
use Rattle.uss_law_supplier.proofs.a_step_changes_one_job.Goals as goal

pub returns : goal.returns
returns c = steps_change_so
