use Rattle.std.proofs.Common.{refl}
use Rattle.uss_law_book.specs.Coding.{journal_length}
use Rattle.uss_law_book.specs.Reserve.{need}
use Rattle.uss_book_index.proofs.entries.Entries.new.Goals as goal

pub invariant_of-result : goal.invariant_of-result
unfolding need journal_length
invariant_of-result c = rw c.new.ensures.items (record { legal = tt; index = c.new-2.ensures; room = tt; needed_is = refl; settled_is = refl })
