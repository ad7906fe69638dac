use Rattle.uss_index.proofs.Bounded.{touched_cells}
use Rattle.uss_index.proofs.laws.touched_cells_have_points.Goals as goal

pub returns : goal.returns
returns c = touched_cells
