use Rattle.uss_index.proofs.Bounded.{common_cells}
use Rattle.uss_index.proofs.laws.common_cells_are_touched.Goals as goal

pub returns : goal.returns
returns c = common_cells
