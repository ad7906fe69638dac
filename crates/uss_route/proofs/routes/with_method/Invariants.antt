use Rattle.std.proofs.Common.{◌≡◌, drop}
use Rattle.uss_route.specs.Routes.{with_method}
use Rattle.uss_route.proofs.routes.with_method.Given as goal

abbrev pub invariant-loop-row : goal.invariant-loop-row
invariant-loop-row l = with_method l.method l.rows ≡ with_method l.method (drop l.row-index l.rows)
