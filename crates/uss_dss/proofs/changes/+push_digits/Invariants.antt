-- One digit less.
use Rattle.uss_dss.proofs.changes.+push_digits.Given as goal

abbrev pub decreases-push_digits : goal.decreases-push_digits
decreases-push_digits l = l.count
