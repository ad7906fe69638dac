use Rattle.uss_law_world.proofs.Parties.{step_comes, fault_comes}
use Rattle.uss_law_world.proofs.what_is_not_refused_comes_to_a_supplier.Goals as goal

pub returns : goal.returns
returns c = record { step = step_comes; fault = fault_comes }
