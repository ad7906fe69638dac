use Rattle.uss_law_dss.proofs.NoOther.{answered, only_one}
use Rattle.uss_law_dss.proofs.no_other_service.Goals as goal

pub returns : goal.returns
returns c = record { answers = answered; only = only_one }
