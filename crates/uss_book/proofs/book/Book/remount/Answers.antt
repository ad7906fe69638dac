use Rattle.std.proofs.Common.{◌≡◌, sym, ap, subst}
use Rattle.uss_disk.specs.Disk.{bytes_of}
use Rattle.uss_book.specs.Book.{BookView}
use Rattle.uss_book.specs.Refusal.{IsLeft}
use Rattle.uss_book.proofs.Mounting.{says_nothing, left_for_memory}
use Rattle.uss_book.proofs.book.Book.remount.Goals as goal

pub returns-in-Err-clause-found : goal.returns-in-Err-clause-found
returns-in-Err-clause-found g c = λ honest.
    let D = g.D.Disk in
    let old = c.self.inside in
    let is_disk : old.journal.disk ≡ c.args.self.now.disk = ap (λ (v : BookView g.row.D.Denot). v.disk) c.self.view_is in
    let still = subst D.is_honest (sym is_disk) honest in
    let stands = c.in-Err.ensures.stands still in
    says_nothing D.may_leave D.is_honest old.journal c.reread.new.journal old.kept.entries old.tried c.self.invariant c.reread.ensures.honest.0
    D.fault_count (bytes_of (D.reads old.journal.disk)) c.reread.new.journal.found c.in-Err.fault still c.in-Err.ensures.refused stands.0 stands.1 (c.reread.ensures.kept still) c.in-Err.ensures.causes

pub returns-in-Err-clause-untouched : goal.returns-in-Err-clause-untouched
returns-in-Err-clause-untouched g c = λ honest.
    let D = g.D.Disk in
    let old = c.self.inside in
    let is_disk : old.journal.disk ≡ c.args.self.now.disk = ap (λ (v : BookView g.row.D.Denot). v.disk) c.self.view_is in
    let still = subst D.is_honest (sym is_disk) honest in
    let stands = c.in-Err.ensures.stands still in
    let nothing = says_nothing D.may_leave D.is_honest old.journal c.reread.new.journal old.kept.entries old.tried c.self.invariant c.reread.ensures.honest.0
    D.fault_count (bytes_of (D.reads old.journal.disk)) c.reread.new.journal.found c.in-Err.fault still c.in-Err.ensures.refused stands.0 stands.1 (c.reread.ensures.kept still) c.in-Err.ensures.causes in
    subst (λ d. IsLeft (bytes_of (D.reads d)) (bytes_of (D.reads c.reread.new.journal.disk)) c.in-Err.fault) is_disk
    (left_for_memory (bytes_of (D.reads old.journal.disk)) (bytes_of (D.reads c.reread.new.journal.disk)) c.in-Err.fault nothing (c.in-Err.ensures.left still))
