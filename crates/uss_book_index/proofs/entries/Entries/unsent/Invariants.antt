use Rattle.std.proofs.Common.{ℕ, ◌<◌, ◌≤◌, ◌≡◌, true}
use Rattle.uss_law_book.specs.Contents.{is_sent}
use Rattle.uss_book_index.proofs.entries.Entries.unsent.Given as goal

abbrev pub invariant-loop-index : goal.invariant-loop-index
invariant-loop-index l = (k : ℕ) → l.fn.from ≤ k → k < l.index → is_sent l.job k l.self.entries ≡ true
