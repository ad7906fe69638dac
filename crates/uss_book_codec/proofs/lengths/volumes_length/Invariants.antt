use Rattle.std.proofs.Common.{◌≡◌, ◌≤◌, ◌*◌, take}
use Rattle.std.specs.List.{sum_by}
use Rattle.uss_law_book.specs.Coding.{volume_length}
use Rattle.uss_book_codec.proofs.lengths.volumes_length.Given as goal

abbrev pub invariant-loop-volume : goal.invariant-loop-volume
invariant-loop-volume l = (l.total ≡ sum_by volume_length (take l.volume-index l.volumes)) × (l.total ≤ 16036 * l.volume-index)
