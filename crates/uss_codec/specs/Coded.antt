-- What it means that values are coded: each has one spelling, by which it is read again, and what is read was spelled so.
use Rattle.std.specs.Prelude.{◌≡◌, ℕ, ◌<◌, List, ◌++◌, slice_index, Some}
use Rattle.uss_codec.specs.Reading.{Reading}

abbrev pub AreBytes : List ℕ → Type 0
AreBytes bytes = (i : ℕ) → slice_index bytes i < 256

-- the values that fit, as they are spelled and read
pub record IsCoded {A : Type 0} (fits : A → Type 0) (spelling : A → List ℕ) (reading : Reading A) : Type 0 where
  -- what is read fits, and the bytes are its spelling and those that are left
  pub found : (bytes : List ℕ) (x : A) (rest : List ℕ) → AreBytes bytes → reading bytes ≡ Some (x, rest) → (bytes ≡ spelling x ++ rest) × fits x
  -- what fits is read from its spelling, whatever stands after it
  pub again : (x : A) (rest : List ℕ) → fits x → reading (spelling x ++ rest) ≡ Some (x, rest)
