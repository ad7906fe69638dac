use Rattle.uss_law_asking.proofs.Alone as Alone
use Rattle.uss_law_asking.proofs.exchanges_are_one.Goals as goal

pub returns : goal.returns
returns c = Alone.exchanges_are_one
