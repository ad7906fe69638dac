use Rattle.std.proofs.Common.{arith}
use Rattle.uss_book_codec.specs.Laws.{few_in_table, small_in_table}
use Rattle.uss_book_codec.proofs.owner.put_owner.Goals as goal

pub put_list-requires-clause-few : goal.put_list-requires-clause-few
put_list-requires-clause-few c =
    rw c.priorities.ensures.value (omega (arith, few_in_table c.args.value.now.table c.requires.table))

pub put_list-requires-clause-fits : goal.put_list-requires-clause-fits
put_list-requires-clause-fits c = rw c.priorities.ensures.value (small_in_table c.args.value.now.table c.requires.table)
