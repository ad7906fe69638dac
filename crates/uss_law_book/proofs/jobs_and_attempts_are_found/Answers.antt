use Rattle.uss_law_book.proofs.EachOrderly.{legal_is_orderly}
use Rattle.uss_law_book.proofs.Held.{trial_is_found, opening_is_found, open_job_is_found}
use Rattle.uss_law_book.proofs.jobs_and_attempts_are_found.Goals as goal

pub returns-clause-job : goal.returns-clause-job
returns-clause-job c = λ book o l h. opening_is_found book o (legal_is_orderly book l) h

pub returns-clause-attempt : goal.returns-clause-attempt
returns-clause-attempt c = λ book t l h. trial_is_found book t (legal_is_orderly book l) h

pub returns-clause-open_job : goal.returns-clause-open_job
returns-clause-open_job c = λ book o l h u. open_job_is_found book o (legal_is_orderly book l) h u
