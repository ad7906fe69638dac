use Rattle.std.proofs.Common.{◌≡◌, take}
use Rattle.uss_law_book.specs.Legal.{IsLegal}
use Rattle.uss_book.specs.Book.{records_of}
use Rattle.uss_book.proofs.judge.entries_of.Given as goal

abbrev pub invariant-loop-n : goal.invariant-loop-n
invariant-loop-n l = IsLegal l.kept.entries × (records_of l.kept.entries ≡ take l.n l.records)
