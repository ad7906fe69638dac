-- What is missing of the references so far.
use Rattle.std.proofs.Common.{◌≡◌, take, filter, map}
use Rattle.uss_law_dss.specs.Service.{shown_to}
use Rattle.uss_dss.specs.Parts.{is_missing}
use Rattle.uss_dss.proofs.judge_put.missing.Given as goal

abbrev pub invariant-loop-r : goal.invariant-loop-r
invariant-loop-r l = l.missing.items ≡ map (λ r. shown_to l.client r.reference) (filter (is_missing l.flight l.extents l.key) (map (λ r. r.now) (take l.r-index l.references)))
