use Rattle.uss_law_dss.proofs.EachCause.{caused, least, refused_for, done_without_cause}
use Rattle.uss_law_dss.proofs.refusals_have_causes.Goals as goal

pub returns : goal.returns
returns c = record { caused = caused; least = least; refused = refused_for; carried_out = done_without_cause }
