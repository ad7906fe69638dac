-- So many vertices so far, at most a thousand for each volume.
use Rattle.std.proofs.Common.{◌≡◌, ◌≤◌, ◌*◌, length, sum_by, take}
use Rattle.uss_event.proofs.pairs.vertex_count.Given as goal

abbrev pub invariant-loop-v : goal.invariant-loop-v
invariant-loop-v l = (l.count ≡ sum_by (λ v. length v.outline) (take l.v-index l.volumes)) × (l.count ≤ 1000 * l.v-index)
