use Rattle.uss_book_index.proofs.Recorded.{none_recorded}
use Rattle.uss_book_index.proofs.records.Records.new.Goals as goal

pub returns : goal.returns
returns c = none_recorded c.new.result c.new.ensures.empty
