use Rattle.std.proofs.Common.{◌≡◌, ◌≤◌, ◌*◌, take}
use Rattle.std.specs.List.{sum_by}
use Rattle.uss_law_book.specs.Coding.{subscriber_length}
use Rattle.uss_book_codec.proofs.lengths.owed_length.Given as goal

abbrev pub invariant-loop-subscriber : goal.invariant-loop-subscriber
invariant-loop-subscriber l = (l.total ≡ sum_by subscriber_length (take l.subscriber-index l.owed)) × (l.total ≤ 328 * l.subscriber-index)
