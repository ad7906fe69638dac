use Rattle.uss_law_asking.proofs.Caused as Caused
use Rattle.uss_law_asking.proofs.Conflicts as Conflicts
use Rattle.uss_law_asking.proofs.Final as Final
use Rattle.uss_law_asking.proofs.Stale as Stale
use Rattle.uss_law_asking.proofs.answers_have_causes.Goals as goal

pub returns-clause-kept : goal.returns-clause-kept
returns-clause-kept c = Final.final_answers_are_kept

pub returns-clause-done : goal.returns-clause-done
returns-clause-done c = Final.ends_are_done

pub returns-clause-stale : goal.returns-clause-stale
returns-clause-stale c = Stale.stale_names_the_missing

pub returns-clause-crowded : goal.returns-clause-crowded
returns-clause-crowded c = Caused.crowded_is_found

pub returns-clause-refused_by_dss : goal.returns-clause-refused_by_dss
returns-clause-refused_by_dss c = Caused.dss_refused_is_replied

pub returns-clause-refused_by_peer : goal.returns-clause-refused_by_peer
returns-clause-refused_by_peer c = Caused.peer_refused_is_replied

pub returns-clause-unsettled : goal.returns-clause-unsettled
returns-clause-unsettled c = Caused.unsettled_is_got

pub returns-clause-steady : goal.returns-clause-steady
returns-clause-steady c = Final.steady_asks_for_no_change

pub returns-clause-conflict : goal.returns-clause-conflict
returns-clause-conflict c = Conflicts.conflict_names_the_pair
