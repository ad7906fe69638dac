use Rattle.uss_route.proofs.Routed.{no_route_none, none_no_route, wrong_has, wrong_from, rows_once}
use Rattle.uss_route.proofs.laws.refused_targets.Goals as goal

pub returns-clause-no_route : goal.returns-clause-no_route
returns-clause-no_route c = λ method target. (no_route_none method target, none_no_route method target)

pub returns-clause-wrong_method : goal.returns-clause-wrong_method
returns-clause-wrong_method c = λ method target allowed. (wrong_has method target allowed, wrong_from method target allowed)

pub returns-clause-once : goal.returns-clause-once
returns-clause-once c = rows_once
