use Rattle.uss_law_dss.proofs.WhoIsNotified.{landing_tells, removal_tells, other_calls_keep}
use Rattle.uss_law_dss.proofs.who_is_notified.Goals as goal

pub returns : goal.returns
returns c = record { landing = landing_tells; removal = removal_tells; other_calls = other_calls_keep }
