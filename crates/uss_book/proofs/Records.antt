-- The records of a legal book.
use Rattle.std.proofs.Common.{ℕ, ◌+◌, List, [], ◌∷◌, ◌++◌, ◌≡◌, map, take, sym, ap, subst, ◌∙◌, Some}
use Rattle.std.specs.Prelude.{All, slice_get}
use Rattle.std.proofs.lemmas.List.Elements.{All-nil, All-cons}
use Rattle.std.proofs.lemmas.List.{map-append, take_more}
use Rattle.std.proofs.lemmas.Option.{slice_get_within, get_or_from_slice_get}
use Rattle.uss_event.specs.declared.entries.Entry.{Entry}
use Rattle.uss_law_book.specs.Coding.{HasCoding}
use Rattle.uss_law_book.specs.Legal.{MayFollow, MayAllFollow, IsLegal}
use Rattle.uss_law_book.proofs.EachOrderly.{legal_longer}
use Rattle.uss_book_codec.specs.Coding.{coding_of}
use Rattle.uss_book.specs.Book.{records_of}
use Rattle.uss_book.specs.Judge.{IsFollowed}

coded_from : (before es : List Entry) → MayAllFollow before es → All HasCoding es
coded_from before [] h = All-nil HasCoding
coded_from before (e ∷ es) h = All-cons HasCoding e es h.0.coding (coded_from (before ++ e ∷ []) es h.1)

pub legal_coded : (book : List Entry) → IsLegal book → All HasCoding book
legal_coded book h = coded_from [] book h

pub judged : (es es' : List Entry) (bytes : List ℕ) (e : Entry) → MayFollow es e → bytes ≡ coding_of e → es' ≡ es ++ e ∷ [] → IsFollowed es bytes es'
judged es es' bytes e follows coded is = record { entry = e; follows = follows; coding = coded; last = is }

-- a record that was judged is the next
pub next_record : (es es' : List Entry) (records : List (List ℕ)) (n : ℕ) (bytes : List ℕ) → records_of es ≡ take n records → slice_get records n ≡ Some bytes → IsFollowed es bytes es' → records_of es' ≡ take (n + 1) records
next_record es es' records n bytes front at f =
    let inside = slice_get_within records n bytes at in
    let is = get_or_from_slice_get records n bytes bytes at in
    ap (map coding_of) f.last
    ∙ map-append coding_of es (f.entry ∷ [])
    ∙ ap (λ (l : List (List ℕ)). l ++ coding_of f.entry ∷ []) front
    ∙ ap (λ (b : List ℕ). take n records ++ b ∷ []) (sym f.coding)
    ∙ ap (λ (b : List ℕ). take n records ++ b ∷ []) (sym is)
    ∙ sym (take_more records n bytes inside)

pub still_legal : (es es' : List Entry) (bytes : List ℕ) → IsLegal es → IsFollowed es bytes es' → IsLegal es'
still_legal es es' bytes h f = subst IsLegal (sym f.last) (legal_longer [] es f.entry h f.follows)
