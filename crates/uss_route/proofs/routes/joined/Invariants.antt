use Rattle.std.proofs.Common.{◌≡◌, ◌++◌, take}
use Rattle.std.specs.Prelude.{codes}
use Rattle.std.specs.List.{flat_map}
use Rattle.uss_route.specs.Rows.{method_of}
use Rattle.uss_route.proofs.routes.joined.Given as goal

abbrev pub invariant-loop-more : goal.invariant-loop-more
invariant-loop-more l = l.text.items ≡ method_of l.fn.row ++ flat_map (λ r. codes ", " ++ method_of r) (take l.more-index l.rows)
