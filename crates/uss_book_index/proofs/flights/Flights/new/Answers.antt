use Rattle.uss_book_index.proofs.Flown.{none_flown}
use Rattle.uss_book_index.proofs.flights.Flights.new.Goals as goal

pub returns : goal.returns
returns c = none_flown c.new.result c.new.ensures.empty
