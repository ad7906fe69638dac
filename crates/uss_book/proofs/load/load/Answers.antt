use Rattle.std.proofs.Common.{sym, subst}
use Rattle.uss_disk.specs.Disk.{bytes_of}
use Rattle.uss_book.specs.Refusal.{IsLeft}
use Rattle.uss_book.specs.declared.refusal.BookFault.{BookFault}
use Rattle.uss_book.proofs.Mount.{journal_left}
use Rattle.uss_book.proofs.load.load.Goals as goal

pub returns-in-Err-clause-untouched : goal.returns-in-Err-clause-untouched
returns-in-Err-clause-untouched g c = λ honest.
    let D = g.D.Disk in
    subst (λ (f : BookFault). IsLeft (bytes_of (D.reads c.args.disk)) (bytes_of (D.reads c.in-Err.refused.back)) f) (sym c.passed_on.ensures)
    (journal_left bytes_of (D.reads c.args.disk) (D.reads c.in-Err.refused.back) c.in-Err.refused.refusal (c.in-Err.ensures.untouched honest))
