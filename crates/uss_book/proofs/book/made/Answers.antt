use Rattle.std.proofs.Common.{inl, refl, sym, None}
use Rattle.uss_book.proofs.Entering.{as_read}
use Rattle.uss_book.proofs.book.made.Goals as goal

pub invariant_of-result : goal.invariant_of-result
invariant_of-result g c =
    record {
      legal = c.requires.legal;
      records = sym c.requires.records;
      untried = λ now. refl;
      follows = tt;
      left = λ honest image may. inl (c.requires.left honest image may);
      agrees = λ honest image p. as_read c.args.kept.entries c.args.journal.records c.args.journal.tried None image (sym c.requires.records) c.requires.untried p;
    }
