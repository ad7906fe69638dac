use Rattle.std.proofs.Common.{arith}
use Rattle.std.proofs.lemmas.Int.{to_z-of_z}
use Rattle.uss_index.specs.Cells.{cell_of}
use Rattle.uss_index.proofs.cells.cell_of.Goals as goal

pub returns-clause-value : goal.returns-clause-value
unfolding cell_of
returns-clause-value c = grind (arith, to_z-of_z)
