-- The order of marks in a map. This project's own.
use Rattle.std.specs.declared.cmp.Ordering.{Ordering}
use Rattle.uss_book_index.specs.declared.marks.Mark.{Mark}
use Rattle.uss_book_index.specs.contracts.marks.MarkOrd.TheImpl as mark_ord

abbrev pub mark_cmp : Mark → Mark → Ordering
mark_cmp = (mark_ord.ghosts).cmp
