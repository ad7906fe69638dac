use Rattle.std.proofs.Common.{◌≡◌, take}
use Rattle.uss_book.proofs.reread.first_change.Given as goal

abbrev pub invariant-loop-n : goal.invariant-loop-n
invariant-loop-n l = take l.n l.found ≡ take l.n l.known
