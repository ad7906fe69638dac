-- The order of the attempts of jobs in a map. This project's own.
use Rattle.std.specs.declared.cmp.Ordering.{Ordering}
use Rattle.uss_book_index.specs.declared.ordinal.Ordinal.{Ordinal}
use Rattle.uss_book_index.specs.contracts.ordinal.OrdinalOrd.TheImpl as ordinal_ord

abbrev pub ordinal_cmp : Ordinal → Ordinal → Ordering
ordinal_cmp = (ordinal_ord.ghosts).cmp
