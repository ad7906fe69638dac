use Rattle.std.proofs.Common.{arith}
use Rattle.uss_law_book.proofs.Needed.{need_grows}
use Rattle.uss_book_index.proofs.Fits.{need_fits}
use Rattle.uss_book_index.proofs.reserve.need_after.Goals as goal

pub returns : goal.returns
returns c =
    let g = need_grows c.args.entries.now c.args.e.now c.requires.legal c.requires.follows.due in
    omega (arith, g, c.requires.now, c.taken.ensures.value, c.released.ensures)

pub overflow_add-result : goal.overflow_add-result
overflow_add-result c =
    let f = need_fits c.args.entries.now c.args.e.now c.requires.follows in
    omega (arith, f, c.requires.now, c.taken.ensures.bound)

pub overflow_sub-result : goal.overflow_sub-result
overflow_sub-result c =
    let g = need_grows c.args.entries.now c.args.e.now c.requires.legal c.requires.follows.due in
    omega (arith, g, c.requires.now, c.taken.ensures.value, c.released.ensures)
