use Rattle.uss_rest.proofs.RepliesAgain.{reply_again, read_fits}
use Rattle.uss_rest.proofs.laws.replies_are_read_again.Goals as goal

pub returns-clause-again : goal.returns-clause-again
returns-clause-again c = reply_again

pub returns-clause-fits : goal.returns-clause-fits
returns-clause-fits c = read_fits
