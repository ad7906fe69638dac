use Rattle.uss_law_duty.proofs.Kept.{kept_is, kept_was_heard, kept_was_last, forgotten_is_gone, one_of_each, keeps_all}
use Rattle.uss_law_duty.proofs.kept_pairs_were_heard.Goals as goal

pub returns-clause-its_flight : goal.returns-clause-its_flight
returns-clause-its_flight c = λ f heard p e. (kept_is f heard p e).1

pub returns-clause-was_heard : goal.returns-clause-was_heard
returns-clause-was_heard c = kept_was_heard

pub returns-clause-last : goal.returns-clause-last
returns-clause-last c = kept_was_last

pub returns-clause-forgotten : goal.returns-clause-forgotten
returns-clause-forgotten c = forgotten_is_gone

pub returns-clause-one_each : goal.returns-clause-one_each
returns-clause-one_each c = one_of_each

pub returns-clause-few : goal.returns-clause-few
returns-clause-few c = λ heard. (keeps_all heard).few
