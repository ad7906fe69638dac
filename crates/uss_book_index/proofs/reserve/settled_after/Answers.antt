use Rattle.std.proofs.Common.{arith}
use Rattle.uss_law_book.proofs.Settled.{settled_grows}
use Rattle.uss_book_index.proofs.Fits.{settled_fits}
use Rattle.uss_book_index.proofs.reserve.settled_after.Goals as goal

pub returns : goal.returns
returns c =
    let g = settled_grows c.args.entries.now c.args.e.now c.requires.legal c.requires.follows.due in
    omega (arith, g, c.requires.now, c.settled_by.ensures.value)

pub overflow_cast-result : goal.overflow_cast-result
overflow_cast-result c =
    let f = settled_fits c.args.entries.now c.args.e.now c.requires.legal c.requires.follows in
    omega (arith, f, c.settled_by.ensures.value)

pub overflow_add-result : goal.overflow_add-result
overflow_add-result c =
    let f = settled_fits c.args.entries.now c.args.e.now c.requires.legal c.requires.follows in
    omega (arith, f, c.requires.now, c.settled_by.ensures.value)
