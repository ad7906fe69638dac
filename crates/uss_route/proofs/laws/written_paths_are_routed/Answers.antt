use Rattle.std.proofs.Common.{inl}
use Rattle.uss_route.proofs.Routed.{meant_routed, query_dropped}
use Rattle.uss_route.proofs.laws.written_paths_are_routed.Goals as goal

pub returns-clause-route : goal.returns-clause-route
returns-clause-route c = λ row parameters path is. meant_routed row parameters path (inl is)

pub returns-clause-query : goal.returns-clause-query
returns-clause-query c = query_dropped
