use Rattle.std.proofs.Common.{◌≤◌, ◌≡◌, length, arith}
use Rattle.uss_law_book.specs.Contents.{owed_of}
use Rattle.uss_law_book.specs.Legal.{IsLegal}
use Rattle.uss_book_index.proofs.Unanswered.{owed_few}
use Rattle.uss_book_index.proofs.entries.Entries.owed_count.Goals as goal

pub overflow_cast-result : goal.overflow_cast-result
overflow_cast-result c =
    let es = c.args.self.now.entries in
    let l : IsLegal es = rw (← c.self.view_is) c.self.invariant.legal in
    let f : length (owed_of c.args.job es) ≤ 8192 = owed_few c.args.job es l in
    let g : c.owed_by.result ≡ length (owed_of c.args.job es) = c.owed_by.ensures in
    omega arith
