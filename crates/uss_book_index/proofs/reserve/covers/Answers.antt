use Rattle.std.proofs.Common.{◌≤◌, ◌+◌, ◌-◌, ◌≡◌, arith}
use Rattle.uss_law_book.specs.Changes.{settled_by, taken, released}
use Rattle.uss_book_index.proofs.Fits.{covered_after, covered_by_test}
use Rattle.uss_law_book.proofs.Needed.{need_grows}
use Rattle.uss_book_index.proofs.reserve.covers.Goals as goal

pub overflow_sub-result : goal.overflow_sub-result
overflow_sub-result c =
    let g = need_grows c.args.entries.now c.args.e.now c.requires.legal c.requires.due in
    omega (arith, g, c.requires.kept, c.taken.ensures.value, c.released.ensures)

pub returns : goal.returns
returns c =
    let es = c.args.entries.now in
    let e = c.args.e.now in
    let k = c.from.result + c.settled_by.result + (c.from-2.result + c.from-3.result) - c.from-4.result in
    let less : c.from-4.result ≤ c.from.result + c.settled_by.result + (c.from-2.result + c.from-3.result) =
    (let g = need_grows es e c.requires.legal c.requires.due in omega (arith, g, c.requires.kept, c.taken.ensures.value, c.released.ensures, c.from-2.ensures, c.from-3.ensures, c.from-4.ensures)) in
    let sum : k + released e ≡ (c.args.bytes + settled_by es e) + (c.args.kept + taken es e) =
    omega (arith, less, c.from.ensures, c.settled_by.ensures.value, c.from-2.ensures, c.from-3.ensures, c.taken.ensures.value, c.from-4.ensures, c.released.ensures) in
    covered_by_test es e k (covered_after es e c.args.kept c.args.bytes k c.requires.legal c.requires.due c.requires.kept c.requires.bytes sum)
