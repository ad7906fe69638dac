use Rattle.std.proofs.Common.{ℕ, ◌<◌, slice_index_or}
use Rattle.uss_vol4.specs.Volume.{Volume4D, NoneSharedWith}
use Rattle.uss_vol4.proofs.Volume4.any_shared.Given as goal

abbrev pub invariant-loop-i : goal.invariant-loop-i
invariant-loop-i l = (k : ℕ) (x : Volume4D) → k < l.i → NoneSharedWith (slice_index_or l.a k x) l.b
