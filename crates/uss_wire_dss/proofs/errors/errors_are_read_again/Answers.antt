use Rattle.std.proofs.Common.{◌∙◌}
use Rattle.uss_wire_base.proofs.Again.{message_again}
use Rattle.uss_wire_dss.specs.ChangesAndErrors.{error_at}
use Rattle.uss_wire_dss.specs.ReplyWriting.{error_json}
use Rattle.uss_wire_dss.proofs.RepliesAgain.{error_again}
use Rattle.uss_wire_dss.proofs.errors.errors_are_read_again.Goals as goal

pub returns : goal.returns
returns c = λ client e b fits is. message_again (error_at client) (error_json e) b is ∙ error_again client e fits
