use Rattle.std.proofs.Common.{ℕ, ◌≡◌, arith, ap, ◌∙◌}
use Rattle.std.specs.Prelude.{nat_lt, min}
use Rattle.uss_index.specs.Cells.{are_many, number_of_cells}
use Rattle.uss_index.proofs.cells.Cells.are_many.Goals as goal

capped : (n : ℕ) → nat_lt 64 (min n 18446744073709551615) ≡ nat_lt 64 n
capped n = grind arith

pub returns : goal.returns
unfolding are_many
returns c = ap (nat_lt 64) c.count.ensures ∙ capped (number_of_cells c.args.self.now)
