use Rattle.std.proofs.Common.{refl}
use Rattle.uss_book_index.proofs.indexed.ordinal_for.Goals as goal

pub returns-in-Pending : goal.returns-in-Pending
returns-in-Pending c = λ es are. rw (c.tally.ensures.attempts es are, c.in-Pending.is) refl
