use Rattle.std.proofs.Common.{◌≡◌, ◌∙◌, List, ◌++◌, ◌∷◌, [], ℕ, length, sym, ap, subst}
use Rattle.std.proofs.Common.{arith}
use Rattle.uss_event.specs.declared.entries.Entry.{Entry}
use Rattle.uss_law_book.specs.Legal.{MayFollow}
use Rattle.uss_book_codec.specs.Coding.{coding_of}
use Rattle.uss_book.specs.Book.{BookView}
use Rattle.uss_book.proofs.Lengths.{fits_after}
use Rattle.uss_book.proofs.Entering.{none_from_not, entered_whole}
use Rattle.uss_book.proofs.book.Book.enter.Goals as goal

pub append-requires-clause-fits : goal.append-requires-clause-fits
append-requires-clause-fits g c =
    let old = c.self.inside in
    let is_entries : old.kept.entries ≡ c.args.self.now.entries = ap (λ (v : BookView g.row.D.Denot). v.entries) c.self.view_is in
    let m = subst (λ (es : List Entry). MayFollow es c.args.e) (sym is_entries) c.requires in
    let coded : c.as_slice.result.now ≡ coding_of c.args.e = c.as_slice.ensures.value ∙ c.in-Ok.ensures.coding in
    let fits = fits_after old.kept.entries c.args.e old.journal.records c.self.invariant.legal m c.self.invariant.records in
    omega (arith, fits, ap (length {A = ℕ}) coded)

pub invariant_of-self-in-Done : goal.invariant_of-self-in-Done
invariant_of-self-in-Done g c =
    let D = g.D.Disk in
    let old = c.self.inside in
    let unspent = none_from_not old.journal.spent (λ x e. c.in_default.not-Some x (c.spent.ensures ∙ e)) in
    let is_entries : old.kept.entries ≡ c.args.self.now.entries = ap (λ (v : BookView g.row.D.Denot). v.entries) c.self.view_is in
    let m = subst (λ (es : List Entry). MayFollow es c.args.e) (sym is_entries) c.requires in
    let coded : c.as_slice.result.now ≡ coding_of c.args.e = c.as_slice.ensures.value ∙ c.in-Ok.ensures.coding in
    let last : c.enter.new.self.entries ≡ old.kept.entries ++ c.args.e ∷ [] = c.enter.ensures ∙ ap (λ (l : List Entry). l ++ c.args.e ∷ []) c.in-Ok.ensures.entries in
    entered_whole D.may_leave D.is_honest old.journal c.append.new.journal old.kept.entries c.args.e old.tried c.self.invariant unspent c.as_slice.result.now coded m
    c.enter.new.self.entries c.in-Done.ensures.answer last
    (λ honest image may. c.in-Done.ensures.durable (c.append.ensures.honest.0 honest) image may)
