use Rattle.std.proofs.Common.{refl}
use Rattle.uss_rest.proofs.Pairs.{pair, only, missing, again, readable}
use Rattle.uss_rest.proofs.laws.refusals_are_read_again.Goals as goal

pub returns-clause-pair : goal.returns-clause-pair
returns-clause-pair c = pair

pub returns-clause-only : goal.returns-clause-only
returns-clause-only c = only

pub returns-clause-missing : goal.returns-clause-missing
returns-clause-missing c = missing

pub returns-clause-again : goal.returns-clause-again
returns-clause-again c = again

pub returns-clause-readable : goal.returns-clause-readable
returns-clause-readable c = readable

pub returns-clause-other_status : goal.returns-clause-other_status
returns-clause-other_status c = refl

pub returns-clause-other_number : goal.returns-clause-other_number
returns-clause-other_number c = refl
