use Rattle.std.proofs.Common.{ℕ, ◌≡◌, ◌∙◌, ap, sym, Some}
use Rattle.uss_law_book.specs.Contents.{opening_of}
use Rattle.uss_law_book.proofs.Kept.{opening_has}
use Rattle.uss_tests_supplier.proofs.calls.call.Goals as goal

pub call_of-requires-clause-opened : goal.call_of-requires-clause-opened
call_of-requires-clause-opened c =
    let es = c.args.book.now.entries in
    let found : opening_of c.args.job es ≡ Some c.in-Some-opening.opening.now = sym c.in-Some-opening.ensures in
    ap (λ (job : ℕ). opening_of job es) (opening_has es c.args.job c.in-Some-opening.opening.now found).1 ∙ found
