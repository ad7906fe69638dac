-- The lines of a text and the words of a line. This project's own.
use Rattle.std.specs.Prelude.{◌≡◌, ℕ, ◌==◌, false, List, [], ◌∷◌, ◌++◌, Option, Some, None, if◌then◌else◌}
use Rattle.std.specs.Borrow.{Bor}

-- the most bytes of a script, which is read into memory whole: 64 MiB
abbrev pub most_bytes : ℕ
most_bytes = 67108864

-- the byte before the first of the pieces
abbrev pub onto_first : ℕ → List (List ℕ) → List (List ℕ)
onto_first b [] = (b ∷ []) ∷ []
onto_first b (piece ∷ pieces) = (b ∷ piece) ∷ pieces

-- Each line ends with one LF (10), which the last may lack.
abbrev pub lines_of : List ℕ → List (List ℕ)
lines_of [] = []
lines_of (b ∷ bs) = if b == 10 then [] ∷ lines_of bs else onto_first b (lines_of bs)

-- The words of a line stand between single spaces (32), so a second space makes an empty word.
abbrev pub words_of : List ℕ → List (List ℕ)
words_of [] = [] ∷ []
words_of (b ∷ bs) = if b == 32 then [] ∷ words_of bs else onto_first b (words_of bs)

-- the words that are left of a line; none where its last one was taken
abbrev pub words_left : Option (Bor (List ℕ)) → List (List ℕ)
words_left None = []
words_left (Some rest) = words_of rest.now

-- the byte isn't among these
abbrev pub IsFree : ℕ → List ℕ → Type 0
IsFree separator [] = Unit {0}
IsFree separator (b ∷ bs) = ((b == separator) ≡ false) × IsFree separator bs

-- the bytes before the first separator and those after it
pub record IsCut (separator : ℕ) (bytes front rest : List ℕ) : Type 0 where
  pub parts : bytes ≡ front ++ separator ∷ rest
  pub free : IsFree separator front
