use Rattle.std.proofs.Common.{◌≡◌, ◌++◌, take}
use Rattle.uss_job.proofs.calls.add.Given as goal

abbrev pub invariant-loop-volume : goal.invariant-loop-volume
invariant-loop-volume l = l.extents.items ≡ l.fn.extents.items ++ take l.volume-index l.volumes
