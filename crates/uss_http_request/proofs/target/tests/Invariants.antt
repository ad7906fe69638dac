use Rattle.std.proofs.Common.{◌≡◌, length}
use Rattle.uss_http_request.specs.Target.{at_start}
use Rattle.uss_http_request.proofs.target.tests.Given as goal

abbrev pub invariant-blank : goal.invariant-blank
invariant-blank l = at_start l.fn.bytes ≡ at_start l.rest

abbrev pub decreases-blank : goal.decreases-blank
decreases-blank l = length l.rest
