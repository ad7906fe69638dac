use Rattle.uss_route.proofs.Routed.{tagged_routed}
use Rattle.uss_route.proofs.laws.tags_are_dropped.Goals as goal

pub returns : goal.returns
returns c = tagged_routed
