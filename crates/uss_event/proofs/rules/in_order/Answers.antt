use Rattle.std.proofs.lemmas.List.Filters.{dedup_is}
use Rattle.uss_event.proofs.Tables.{table_of_sorted, listed_in_sorted}
use Rattle.uss_event.proofs.rules.in_order.Goals as goal

pub returns-clause-table : goal.returns-clause-table
returns-clause-table c =
    rw (dedup_is _ _ _ c.dedup.ensures.filtered) (table_of_sorted _ _ c.sort_unstable.ensures.permutation c.sort_unstable.ensures.sorted c.requires)

pub returns-clause-set : goal.returns-clause-set
returns-clause-set c = λ p. rw (dedup_is _ _ _ c.dedup.ensures.filtered) (listed_in_sorted p _ _ c.sort_unstable.ensures.permutation)
