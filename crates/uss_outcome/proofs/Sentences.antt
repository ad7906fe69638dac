-- Words with spaces between them, and each after a space.
use Rattle.std.proofs.Common.{◌≡◌, ℕ, List, [], ◌∷◌, ◌++◌, sym, ap, append-nil}
use Rattle.std.specs.Prelude.{codes, map}
use Rattle.std.specs.List.{flat_map}
use Rattle.uss_outcome.specs.Outcomes.{sentence, behind}

pub sentence_parts : {A : Type 0} (first : List ℕ) (word : A → List ℕ) (xs : List A) → sentence (first ∷ map word xs) ≡ first ++ flat_map (behind word) xs
sentence_parts first word [] = sym (append-nil first)
sentence_parts first word (x ∷ xs) = ap (λ (rest : List ℕ). first ++ (codes " " ++ rest)) (sentence_parts (word x) word xs)
