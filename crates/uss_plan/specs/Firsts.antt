-- The first of a list that passes a test.
use Rattle.std.specs.Prelude.{ℕ, ◌+◌, Bool, List, [], ◌∷◌, Option, Some, None, if◌then◌else◌}

-- the first that passes, with its place, where the list's first has this place
abbrev pub first_from : {X : Type 0} → ℕ → (X → Bool) → List X → Option (ℕ × X)
first_from place test [] = None
first_from place test (x ∷ xs) = if test x then Some (place, x) else first_from (place + 1) test xs

-- the first that passes, with its place, counted from 0
abbrev pub first_passing : {X : Type 0} → (X → Bool) → List X → Option (ℕ × X)
first_passing test list = first_from 0 test list
