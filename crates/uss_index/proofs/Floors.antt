-- The numbers of cells are rounded down.
use Rattle.std.proofs.Common.{ℕ, ◌+◌, ◌*◌, ◌/◌, ◌<◌, ◌≤◌, arith, ℤ, pos, negsuc, ◌*ℤ◌, ◌+ℤ◌}
use Rattle.std.specs.Prelude.{◌≤ℤ◌, ◌<ℤ◌}
use Rattle.std.proofs.lemmas.Int.{ints, by_lt_z}
use Rattle.uss_index.specs.Cells.{cell_of}

below_n : (a : ℕ) → 1000000 * (a / 1000000) ≤ a
below_n a = omega arith

above_n : (a : ℕ) → a < 1000000 * (a / 1000000 + 1)
above_n a = omega arith

pub cell_below : (x : ℤ) → (pos 1000000 *ℤ cell_of x) ≤ℤ x
unfolding cell_of
cell_below (pos a) = let h = below_n a in omega (arith, ints)
cell_below (negsuc a) = let h = above_n a in omega (arith, ints)

pub cell_above : (x : ℤ) → x <ℤ (pos 1000000 *ℤ (cell_of x +ℤ pos 1))
unfolding cell_of
cell_above (pos a) = let h = above_n a in omega (arith, ints)
cell_above (negsuc a) = let h = below_n a in omega (arith, ints)

pub cell_rises : (x y : ℤ) → x ≤ℤ y → cell_of x ≤ℤ cell_of y
cell_rises x y h =
    let l = cell_below x in
    let g = cell_above y in
    by_lt_z (cell_of y) (cell_of x) (λ k. absurd (omega (arith, ints))) (λ k. k)
