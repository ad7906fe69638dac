use Rattle.uss_book_index.proofs.Counted.{none_counted}
use Rattle.uss_book_index.proofs.tallies.Tallies.new.Goals as goal

pub returns : goal.returns
returns c = none_counted c.new.result c.new.ensures.empty
