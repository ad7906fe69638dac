use Rattle.uss_law_supplier.proofs.Sweeping.{sweeps_make_their_calls}
use Rattle.uss_law_supplier.proofs.a_sweep_only_makes_calls.Goals as goal

pub returns : goal.returns
returns c = sweeps_make_their_calls
