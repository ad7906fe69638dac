use Rattle.uss_law_supplier.proofs.Resumed.{jobs_resume_by_the_table}
use Rattle.uss_law_supplier.proofs.a_job_is_resumed_by_the_table.Goals as goal

pub returns : goal.returns
returns c = jobs_resume_by_the_table
