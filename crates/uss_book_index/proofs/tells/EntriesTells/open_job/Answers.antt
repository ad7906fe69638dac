use Rattle.std.proofs.Common.{◌≡◌, ◌∙◌, ap, sym, true, false, is_some}
use Rattle.uss_law_book.specs.Contents.{last_of}
use Rattle.uss_law_book.specs.Legal.{IsLegal}
use Rattle.uss_book_index.specs.Sent.{is_unclosed}
use Rattle.uss_book_index.proofs.Opens.{open_where, none_where}
use Rattle.uss_book_index.proofs.tells.EntriesTells.open_job.Goals as goal

pub returns-then-is_unclosed : goal.returns-then-is_unclosed
returns-then-is_unclosed c =
    let es = c.args.self.now.entries in
    let l : IsLegal es = rw (← c.self.view_is) c.self.invariant.legal in
    let is : is_unclosed es (last_of c.args.flight es) ≡ true = ap (λ w. is_unclosed es w) (sym c.last-last.ensures) ∙ sym c.is_unclosed.ensures ∙ c.if-is_unclosed.true in
    c.last-last.ensures ∙ open_where c.args.flight es l is

pub returns-else-is_unclosed : goal.returns-else-is_unclosed
returns-else-is_unclosed c =
    let es = c.args.self.now.entries in
    let l : IsLegal es = rw (← c.self.view_is) c.self.invariant.legal in
    let is : is_unclosed es (last_of c.args.flight es) ≡ false = ap (λ w. is_unclosed es w) (sym c.last-last.ensures) ∙ sym c.is_unclosed.ensures ∙ c.if-is_unclosed.false in
    none_where c.args.flight es l is
