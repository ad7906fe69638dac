use Rattle.uss_law_supplier.specs.Values.{sightings_of}
use Rattle.uss_law_supplier.proofs.Straying as Straying
use Rattle.uss_law_supplier.proofs.the_monitor_finds_who_stays_outside.Goals as goal

pub returns-clause-in_order : goal.returns-clause-in_order
returns-clause-in_order c = Straying.positions_stay_in_order

pub returns-clause-start : goal.returns-clause-start
unfolding sightings_of
returns-clause-start c = λ flight. tt

pub returns-clause-contingent : goal.returns-clause-contingent
returns-clause-contingent c = Straying.lost_is_contingent

pub returns-clause-others : goal.returns-clause-others
returns-clause-others c = Straying.others_are_where_last_seen
