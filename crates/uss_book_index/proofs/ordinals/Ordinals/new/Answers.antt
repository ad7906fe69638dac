use Rattle.uss_book_index.proofs.InTurn.{none_in_turn}
use Rattle.uss_book_index.proofs.ordinals.Ordinals.new.Goals as goal

pub returns : goal.returns
returns c = none_in_turn c.new.result c.new.ensures.empty
