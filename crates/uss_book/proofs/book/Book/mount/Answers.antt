use Rattle.std.proofs.Common.{◌≡◌, ◌∙◌, [], length, sym, subst}
use Rattle.std.proofs.lemmas.Bool.{eqb-true}
use Rattle.std.proofs.lemmas.List.{nil_from_length}
use Rattle.uss_disk.specs.Disk.{bytes_of, CrashLeaves}
use Rattle.uss_book.specs.Book.{MountLeaves}
use Rattle.uss_book.proofs.Mount.{owned_found, begun_crash, unbegun_crash, begun_left, owned_left, begun_stays, owned_stays}
use Rattle.uss_book.proofs.book.Book.mount.Goals as goal

pub returns-then-is_empty-clause-crash : goal.returns-then-is_empty-clause-crash
returns-then-is_empty-clause-crash g c = λ honest.
    let D = g.D.Disk in
    let file = bytes_of (D.reads c.args.disk) in
    let items = c.in-Ok.found.1.entries in
    let none : items ≡ [] = sym c.as_slice.ensures ∙ nil_from_length c.as_slice.result.now (eqb-true (length c.as_slice.result.now) 0 (sym c.is_empty.ensures ∙ c.if-is_empty.true)) in
    begun_crash D.may_leave D.moment D.left_since c.args.disk c.in-Ok.found.0.disk _ c.args.owner file items none
    (c.in-Ok.ensures.found honest) (c.in-Ok.ensures.durable honest) (c.in-Ok.ensures.crash honest) (c.begun.ensures.crash (c.in-Ok.ensures.honest.1 honest))

pub returns-else-is_empty-clause-found : goal.returns-else-is_empty-clause-found
returns-else-is_empty-clause-found g c = λ honest.
    let D = g.D.Disk in
    owned_found c.args.owner (bytes_of (D.reads c.args.disk)) c.in-Ok.found.1.entries c.owned.result c.in-Ok.ensures.legal (c.in-Ok.ensures.found honest) c.owned.ensures.entries c.owned.ensures.another

pub returns-then-is_empty-clause-untouched : goal.returns-then-is_empty-clause-untouched
returns-then-is_empty-clause-untouched g c = λ honest.
    let D = g.D.Disk in
    begun_left (λ d. bytes_of (D.reads d)) (bytes_of (D.reads c.args.disk)) c.in-Ok.found.0.disk c.begun.result (c.in-Ok.ensures.file honest) c.begun.ensures.free c.begun.ensures.untouched

pub returns-else-is_empty-clause-untouched : goal.returns-else-is_empty-clause-untouched
returns-else-is_empty-clause-untouched g c = λ honest.
    let D = g.D.Disk in
    owned_left (λ d. bytes_of (D.reads d)) c.args.owner (bytes_of (D.reads c.args.disk)) c.in-Ok.found.1.entries c.in-Ok.found.0.disk c.owned.result (c.in-Ok.ensures.file honest) (c.in-Ok.ensures.found honest) c.owned.ensures.disk c.owned.ensures.another

pub returns-else-is_empty-clause-crash : goal.returns-else-is_empty-clause-crash
returns-else-is_empty-clause-crash g c = λ honest.
    let D = g.D.Disk in
    subst (λ d. CrashLeaves D.moment D.left_since (MountLeaves (D.may_leave c.args.disk) c.args.owner (bytes_of (D.reads c.args.disk))) c.args.disk d) (sym c.owned.ensures.disk)
    (unbegun_crash D.may_leave D.moment D.left_since c.args.disk c.in-Ok.found.0.disk c.args.owner (bytes_of (D.reads c.args.disk)) (c.in-Ok.ensures.crash honest))

pub returns-in-Err-clause-crash : goal.returns-in-Err-clause-crash
returns-in-Err-clause-crash g c = λ honest.
    let D = g.D.Disk in
    unbegun_crash D.may_leave D.moment D.left_since c.args.disk c.in-Err.refused.back c.args.owner (bytes_of (D.reads c.args.disk)) (c.in-Err.ensures.crash honest)

pub returns-then-is_empty-clause-stays : goal.returns-then-is_empty-clause-stays
returns-then-is_empty-clause-stays g c = λ honest.
    let D = g.D.Disk in
    let items = c.in-Ok.found.1.entries in
    let none : items ≡ [] = sym c.as_slice.ensures ∙ nil_from_length c.as_slice.result.now (eqb-true (length c.as_slice.result.now) 0 (sym c.is_empty.ensures ∙ c.if-is_empty.true)) in
    begun_stays (λ d. bytes_of (D.reads d)) c.args.owner (bytes_of (D.reads c.args.disk)) items c.begun.result none (c.in-Ok.ensures.found honest) c.begun.ensures.entries

pub returns-else-is_empty-clause-stays : goal.returns-else-is_empty-clause-stays
returns-else-is_empty-clause-stays g c = λ honest.
    let D = g.D.Disk in
    owned_stays (λ d. bytes_of (D.reads d)) c.args.owner (bytes_of (D.reads c.args.disk)) c.in-Ok.found.0.disk c.owned.result (c.in-Ok.ensures.file honest) c.owned.ensures.disk c.owned.ensures.owner
