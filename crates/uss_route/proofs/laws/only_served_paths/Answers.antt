use Rattle.uss_route.proofs.Routed.{route_method, route_path, route_is_text}
use Rattle.uss_route.proofs.laws.only_served_paths.Goals as goal

pub returns-clause-method : goal.returns-clause-method
returns-clause-method c = route_method

pub returns-clause-path : goal.returns-clause-path
returns-clause-path c = route_path

pub returns-clause-text : goal.returns-clause-text
returns-clause-text c = route_is_text
