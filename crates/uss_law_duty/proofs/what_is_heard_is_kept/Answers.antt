use Rattle.uss_law_duty.proofs.Remembered.{heard_is_taken, kept_until_crowded}
use Rattle.uss_law_duty.proofs.what_is_heard_is_kept.Goals as goal

pub returns-clause-taken : goal.returns-clause-taken
returns-clause-taken c = heard_is_taken

pub returns-clause-stays : goal.returns-clause-stays
returns-clause-stays c = kept_until_crowded
