-- Whether references ascend by flight, place by place.
use Rattle.std.proofs.Common.{◌≡◌, ℕ, ◌+◌, Bool, true, List, [], ◌∷◌, drop, refl, sym, ap, ◌∙◌}
use Rattle.std.specs.Prelude.{◌&&◌}
use Rattle.std.proofs.lemmas.List.{drop-drop}
use Rattle.uss_intent.specs.declared.records.Reference.{Reference}
use Rattle.uss_law_dss.specs.Fits.{ascend}
use Rattle.uss_rest.specs.Replies.{first_rises}

first : (rs : List Reference) → ascend rs ≡ (first_rises rs && ascend (drop 1 rs))
first [] = refl
first (r ∷ rs) = refl

step : (rs : List Reference) (i : ℕ) → ascend (drop i rs) ≡ (first_rises (drop i rs) && ascend (drop (i + 1) rs))
step rs i = first (drop i rs) ∙ ap (λ (z : List Reference). first_rises (drop i rs) && ascend z) (drop-drop 1 i rs)

pub goes_on : (rs : List Reference) (i : ℕ) (rises total : Bool) → rises ≡ first_rises (drop i rs) → rises ≡ true → ascend (drop i rs) ≡ total → ascend (drop (i + 1) rs) ≡ total
goes_on rs i rises total e t so_far = ap (λ (b : Bool). b && ascend (drop (i + 1) rs)) (sym t ∙ e) ∙ sym (step rs i) ∙ so_far
