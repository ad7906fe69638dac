use Rattle.std.proofs.Common.{◌≡◌, length}
use Rattle.uss_route.specs.Ovns as spec
use Rattle.uss_route.proofs.ovns.is_escaped.Given as goal

abbrev pub invariant-looking : goal.invariant-looking
invariant-looking l = spec.is_escaped l.rest ≡ spec.is_escaped l.segment

abbrev pub decreases-looking : goal.decreases-looking
decreases-looking l = length l.rest
