use Rattle.std.proofs.Common.{◌≡◌, false, drop}
use Rattle.uss_http_request.specs.Target as spec
use Rattle.uss_http_request.proofs.target.in_method.Given as goal

abbrev pub invariant-loop-at : goal.invariant-loop-at
invariant-loop-at l = spec.in_method false l.bytes ≡ spec.in_method l.some (drop l.at l.bytes)
