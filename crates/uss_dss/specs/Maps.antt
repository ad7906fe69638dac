-- Ordered maps by the numbers of their values.
use Rattle.std.specs.Prelude.{◌≡◌, ℕ, List, [], ◌∷◌}

-- each key is the number of its value
abbrev pub AreBy : {X : Type 0} → (X → ℕ) → List (ℕ × X) → Type 0
AreBy number [] = Unit {0}
AreBy number (e ∷ es) = (e.0 ≡ number e.1) × AreBy number es
