use Rattle.std.proofs.Common.{sym, ap, ◌∙◌, ◌≡◌, Some, None}
use Rattle.std.specs.BTreeMap as tree
use Rattle.uss_book_index.specs.MarkOrder.{mark_cmp}
use Rattle.uss_book_index.proofs.Places.{done}
use Rattle.uss_book_index.proofs.Marked.{entered_first, entered_again}
use Rattle.uss_book_index.proofs.firsts.Firsts.enter.Goals as goal

pub returns-in-Some-None : goal.returns-in-Some-None
returns-in-Some-None c =
    let here : tree.get mark_cmp c.args.self.now.places c.args.mark ≡ Some None = sym c.in-Some-None.ensures.value ∙ ap Some c.in-Some-None.field-0-is in
    let put = done c.insert.result c.insert.ensures.updates c.insert.ensures.absent (λ none. let e : Some None ≡ None = sym here ∙ none in cc) in
    λ es e firsts of at. entered_first c.args.self.now.places c.insert.new.self c.args.mark c.args.place es e firsts of at here put.0

pub returns-in-Some-Some : goal.returns-in-Some-Some
returns-in-Some-Some c = λ es e firsts of at. entered_again c.args.self.now.places c.args.mark c.in-Some-Some.field-0-0 es e firsts of (sym c.in-Some-Some.ensures.value ∙ ap Some c.in-Some-Some.field-0-is)
