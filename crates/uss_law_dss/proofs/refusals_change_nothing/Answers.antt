use Rattle.uss_law_dss.proofs.refusals_change_nothing.Goals as goal
use Rattle.std.proofs.Common.{ap}
use Rattle.uss_law_dss.specs.Step.{unless_refused, accepted}

pub returns : goal.returns
returns c = λ s client ask refusal e. ap (unless_refused s (accepted s client ask)) e
