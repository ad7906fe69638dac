use Rattle.uss_law_dss.proofs.states_are_orderly.Goals as goal
use Rattle.uss_law_dss.specs.Service.{empty}
use Rattle.uss_law_dss.proofs.EachOrderly.{empty_orderly, step_orderly, after_orderly}

pub returns : goal.returns
returns c = record { new = empty_orderly; step = step_orderly; all = λ calls. after_orderly empty calls empty_orderly }
