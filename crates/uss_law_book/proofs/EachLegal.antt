-- What holds of no entry, and goes from a legal book to one with one more entry, holds of each legal book.
use Rattle.std.proofs.Common.{List, [], ◌∷◌, ◌++◌, sym, subst}
use Rattle.std.proofs.lemmas.List.{append-nil, append_assoc}
use Rattle.uss_event.specs.declared.entries.Entry.{Entry}
use Rattle.uss_law_book.specs.Legal.{MayFollow, MayAllFollow, IsLegal}
use Rattle.uss_law_book.proofs.EachOrderly.{legal_longer}

legal_from : (P : List Entry → Type 0) → ((es : List Entry) (e : Entry) → IsLegal es → MayFollow es e → P es → P (es ++ e ∷ [])) → (before es : List Entry) → IsLegal before → P before → MayAllFollow before es → P (before ++ es)
legal_from P step before [] l p h = subst P (sym (append-nil before)) p
legal_from P step before (e ∷ es) l p h =
    subst P (append_assoc before (e ∷ []) es) (legal_from P step (before ++ e ∷ []) es (legal_longer [] before e l h.0) (step before e l h.0 p) h.1)

pub each_legal : (P : List Entry → Type 0) → P [] → ((es : List Entry) (e : Entry) → IsLegal es → MayFollow es e → P es → P (es ++ e ∷ [])) → (es : List Entry) → IsLegal es → P es
each_legal P first step es h = legal_from P step [] es tt first h
