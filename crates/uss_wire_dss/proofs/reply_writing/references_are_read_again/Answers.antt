use Rattle.uss_wire_dss.proofs.RepliesAgain.{reference_again, references_again}
use Rattle.uss_wire_dss.proofs.reply_writing.references_are_read_again.Goals as goal

pub returns-clause-one : goal.returns-clause-one
returns-clause-one c = reference_again

pub returns-clause-list : goal.returns-clause-list
returns-clause-list c = references_again
