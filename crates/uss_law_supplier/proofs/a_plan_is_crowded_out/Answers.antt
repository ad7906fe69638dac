use Rattle.uss_law_supplier.proofs.Crowding.{crowded_exactly}
use Rattle.uss_law_supplier.proofs.a_plan_is_crowded_out.Goals as goal

pub returns : goal.returns
returns c = crowded_exactly
