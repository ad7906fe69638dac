use Rattle.std.proofs.Common.{ℕ, ◌<◌, slice_index_or}
use Rattle.uss_vol4.specs.Volume.{Volume4D, Shares}
use Rattle.uss_vol4.proofs.first_shared.Given as goal

abbrev pub invariant-loop-j : goal.invariant-loop-j
invariant-loop-j l = (k : ℕ) (y : Volume4D) → k < l.j → Shares l.v (slice_index_or l.list k y) → ⊥
