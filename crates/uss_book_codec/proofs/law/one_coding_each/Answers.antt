use Rattle.uss_book_codec.specs.Laws.{one_coding}
use Rattle.uss_book_codec.proofs.law.one_coding_each.Goals as goal

pub returns : goal.returns
returns c = one_coding
