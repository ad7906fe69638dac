-- A source as a stream. This project's own.
use Rattle.std.specs.Prelude.{◌≡◌, ℕ, List, [], ◌++◌, Option, Some, refl}

-- what is left
pub record Leaves (left : List ℕ) (after : Option (List ℕ)) (bytes : List ℕ) : Type 0 where
  pub rest : List ℕ
  pub is_left : after ≡ Some rest
  pub parts : left ≡ bytes ++ rest

-- where a source tells what it had left before, these bytes were its prefix, and it tells the rest
pub record GaveFrom (before after : Option (List ℕ)) (bytes : List ℕ) : Type 0 where
  pub told : (left : List ℕ) → before ≡ Some left → Leaves left after bytes

-- where a source tells what it has left, that is nothing
pub record HasEnded (now : Option (List ℕ)) : Type 0 where
  pub told : (left : List ℕ) → now ≡ Some left → left ≡ []

-- between a moment and itself nothing came
pub gave_nothing : (now : Option (List ℕ)) → GaveFrom now now []
gave_nothing now = record { told = λ left is. record { rest = left; is_left = is; parts = refl } }
