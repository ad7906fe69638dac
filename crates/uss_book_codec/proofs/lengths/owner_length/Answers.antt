use Rattle.std.proofs.Common.{ap, length, arith}
use Rattle.uss_book_codec.specs.Laws.{few_in_table}
use Rattle.uss_book_codec.proofs.lengths.owner_length.Goals as goal

pub returns-clause-bound : goal.returns-clause-bound
returns-clause-bound c =
    omega (arith, ap length c.as_bytes.ensures.value, ap length c.priorities.ensures.value, c.requires.short_base, few_in_table c.args.owner.now.table c.requires.table, c.name_length.ensures.bound)
