use Rattle.std.proofs.Common.{◌≡◌, ◌++◌, ◌∷◌, [], ◌∙◌, ◌↔◌, true, false, List, sym, subst, ap}
use Rattle.std.specs.Prelude.{IsTrue}
use Rattle.uss_event.specs.declared.entries.Entry.{Entry}
use Rattle.uss_law_book.specs.Legal.{IsLegal, IsDue}
use Rattle.uss_law_book.specs.Reserve.{ReserveCovers}
use Rattle.uss_book_rules.proofs.AnyEntry.{due_from, due_true}
use Rattle.uss_book_index.specs.Known.{Known}
use Rattle.uss_law_book.proofs.Room.{covered}
use Rattle.uss_book_index.proofs.entries.Entries.may_follow.Goals as goal

pub covers-requires-clause-due : goal.covers-requires-clause-due
covers-requires-clause-due c =
    let es = c.args.self.now.entries in
    let same : c.deref-then-is_due.result.now ≡ es = c.deref-then-is_due.ensures.value ∙ ap (λ (k : Known). k.entries) c.self.view_is in
    let d = due_from es c.args.e.now (sym c.is_due.ensures ∙ c.if-is_due.true) in
    subst (λ (l : List Entry). IsDue l c.args.e.now) (sym same) d.1

pub returns-then-is_due : goal.returns-then-is_due
returns-then-is_due c =
    let es = c.args.self.now.entries in
    let e = c.args.e.now in
    let same : c.deref-then-is_due.result.now ≡ es = c.deref-then-is_due.ensures.value ∙ ap (λ (k : Known). k.entries) c.self.view_is in
    let l : IsLegal es = rw (← c.self.view_is) c.self.invariant.legal in
    let d = due_from es e (sym c.is_due.ensures ∙ c.if-is_due.true) in
    let i : IsTrue c.covers.result ↔ ReserveCovers (es ++ e ∷ []) = subst (λ (x : List Entry). IsTrue c.covers.result ↔ ReserveCovers (x ++ e ∷ [])) same c.covers.ensures in
    (λ h. record { first = d.0; coding = c.requires; due = d.1; room_before = covered es l; room_after = i.0 h }, λ m. i.1 m.room_after)

pub returns-else-is_due : goal.returns-else-is_due
returns-else-is_due c =
    let es = c.args.self.now.entries in
    let e = c.args.e.now in
    (λ h. cc, λ m. let t : false ≡ true = sym c.if-is_due.false ∙ c.is_due.ensures ∙ due_true es e (m.first, m.due) in cc)
