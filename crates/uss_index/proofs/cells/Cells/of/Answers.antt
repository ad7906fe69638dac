use Rattle.std.proofs.Common.{arith}
use Rattle.std.proofs.lemmas.Int.{ints, to_z-of_z}
use Rattle.std.specs.Prelude.{◌≤ℤ◌}
use Rattle.uss_index.specs.Cells.{cells_of}
use Rattle.uss_index.proofs.Floors.{cell_rises}
use Rattle.uss_index.proofs.cells.Cells.of.Goals as goal

pub returns-clause-value : goal.returns-clause-value
unfolding cells_of
returns-clause-value c = grind (arith, to_z-of_z)

pub returns-clause-in_order : goal.returns-clause-in_order
returns-clause-in_order c =
    let a = c.cell_of.ensures in
    let b = c.cell_of-2.ensures in
    let d = c.cell_of-3.ensures in
    let e = c.cell_of-4.ensures in
    let across : c.cell_of.result ≤ℤ c.cell_of-2.result = rw (a.value, b.value) (cell_rises _ _ (grind (arith, to_z-of_z))) in
    let upward : c.cell_of-3.result ≤ℤ c.cell_of-4.result = rw (d.value, e.value) (cell_rises _ _ (grind (arith, to_z-of_z))) in
    record {
      columns = omega (arith, ints);
      rows = omega (arith, ints);
      left = omega (arith, ints);
      right = omega (arith, ints);
      bottom = omega (arith, ints);
      top = omega (arith, ints);
    }
