-- The bytes of a journal of a book.
use Rattle.std.proofs.Common.{ℕ, ◌+◌, ◌≤◌, List, [], ◌∷◌, ◌++◌, ◌≡◌, length, map, refl, ap, ◌∙◌, arith}
use Rattle.std.specs.List.{sum_by}
use Rattle.std.proofs.lemmas.List.Sums.{sum_by-cons, sum_by_push}
use Rattle.uss_event.specs.declared.entries.Entry.{Entry}
use Rattle.uss_journal.specs.Format.{used_of, limit}
use Rattle.uss_law_book.specs.Coding.{record_length, journal_length}
use Rattle.uss_law_book.specs.Legal.{MayFollow, IsLegal}
use Rattle.uss_law_book.proofs.EachOrderly.{legal_longer}
use Rattle.uss_law_book.proofs.Fits.{legal_fits}
use Rattle.uss_book_codec.specs.Coding.{coding_of}
use Rattle.uss_book_codec.proofs.Bytes.{length-coding_of}
use Rattle.uss_book.specs.Book.{records_of}

sum_codings : (es : List Entry) → sum_by (λ (r : List ℕ). 5 + length r) (map coding_of es) ≡ sum_by record_length es
sum_codings [] = refl
sum_codings (e ∷ es) =
    omega (arith, sum_codings es, sum_by-cons (λ (r : List ℕ). 5 + length r) (coding_of e) (map coding_of es), sum_by-cons record_length e es, length-coding_of e)

pub used_is : (es : List Entry) → used_of (records_of es) ≡ journal_length es
unfolding journal_length
used_is es = ap (λ (n : ℕ). 9 + n) (sum_codings es)

-- a further entry of a legal book fits the journal
pub fits_after : (es : List Entry) (e : Entry) (records : List (List ℕ)) → IsLegal es → MayFollow es e → records ≡ records_of es → used_of records + 5 + length (coding_of e) ≤ limit
unfolding journal_length
fits_after es e records h m is =
    let fits = legal_fits (es ++ e ∷ []) (legal_longer [] es e h m) in
    let used : used_of records ≡ journal_length es = ap used_of is ∙ used_is es in
    omega (arith, fits, used, sum_by_push record_length es e, length-coding_of e)
