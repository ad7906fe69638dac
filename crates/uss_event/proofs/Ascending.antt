-- Whether a list ascends, place by place.
use Rattle.std.proofs.Common.{◌≡◌, ℕ, ◌+◌, ◌<◌, Bool, true, false, List, length, get_or, drop, sym, ap, ◌∙◌}
use Rattle.std.specs.Prelude.{◌&&◌}
use Rattle.std.proofs.lemmas.List.{at_drop_more}
use Rattle.uss_event.specs.Rules.{ascend, is_below}

step : (xs : List ℕ) (i : ℕ) → i < length xs → ascend (drop i xs) ≡ (is_below (get_or xs i 0) (drop (i + 1) xs) && ascend (drop (i + 1) xs))
step xs i h = at_drop_more ascend xs i 0 h

pub goes_on : (xs : List ℕ) (i : ℕ) (rises total : Bool) → i < length xs → rises ≡ is_below (get_or xs i 0) (drop (i + 1) xs) → rises ≡ true → ascend (drop i xs) ≡ total → ascend (drop (i + 1) xs) ≡ total
goes_on xs i rises total h e t so_far = ap (λ (b : Bool). b && ascend (drop (i + 1) xs)) (sym t ∙ e) ∙ sym (step xs i h) ∙ so_far

pub stops : (xs : List ℕ) (i : ℕ) (rises total : Bool) → i < length xs → rises ≡ is_below (get_or xs i 0) (drop (i + 1) xs) → rises ≡ false → ascend (drop i xs) ≡ total → false ≡ total
stops xs i rises total h e t so_far = ap (λ (b : Bool). b && ascend (drop (i + 1) xs)) (sym t ∙ e) ∙ sym (step xs i h) ∙ so_far
