use Rattle.uss_journal.proofs.Writing.{written_stands}
use Rattle.uss_journal.proofs.law.written_records_are_found.Goals as goal

pub returns : goal.returns
returns c = written_stands
