-- What is found of the references so far.
use Rattle.std.proofs.Common.{◌≡◌, take, filter, map}
use Rattle.uss_law_dss.specs.Service.{shown_to, reach}
use Rattle.uss_dss.proofs.changes.found.Given as goal

abbrev pub invariant-loop-r : goal.invariant-loop-r
invariant-loop-r l = l.found.items ≡ map (λ r. shown_to l.client r.reference) (filter (λ r. reach r.extents l.area) (map (λ r. r.now) (take l.r-index l.references)))
