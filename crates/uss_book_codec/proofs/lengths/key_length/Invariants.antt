use Rattle.std.proofs.Common.{◌≡◌, ◌≤◌, ◌*◌, take}
use Rattle.std.specs.List.{sum_by}
use Rattle.uss_law_book.specs.Coding.{text_length}
use Rattle.uss_book_codec.proofs.lengths.key_length.Given as goal

abbrev pub invariant-loop-ovn : goal.invariant-loop-ovn
invariant-loop-ovn l = (l.total ≡ sum_by text_length (take l.ovn-index l.key)) × (l.total ≤ 132 * l.ovn-index)
