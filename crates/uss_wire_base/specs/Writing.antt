-- What is written: a value of JSON as its compact text, with the members of an object ascending by name.
use Rattle.std.specs.Prelude.{◌≡◌, ◌≤◌, ◌<◌, ◌^◌, ℕ, ℤ, pos, negsuc, List, [], ◌∷◌, false, map, Some}
use Rattle.serde_json.specs.Data.{Data, array, depth}
use Rattle.serde_json.specs.View.{items_of}
use Rattle.serde_json.specs.Written.{compact_text, has_float}
use Rattle.uss_wire_base.specs.Reading.{data_of}

-- a list of values
abbrev pub list_json : {A : Type 0} → (A → Data) → List A → Data
list_json f xs = array (items_of (map f xs))

-- a value with no fraction, that isn't too deep
pub record IsPlain (d : Data) : Type 0 where
  pub whole : has_float d ≡ false
  pub shallow : depth d ≤ 127

-- the bytes are the compact text of the value, and stand for the value
pub record IsTextOf (d : Data) (bytes : List ℕ) : Type 0 where
  pub text : bytes ≡ compact_text d
  pub stands : data_of bytes ≡ Some d

-- a number that 64 bits hold, signed
abbrev pub IsSigned64 : ℤ → Type 0
IsSigned64 (pos n) = n < 2 ^ 63
IsSigned64 (negsuc n) = n < 2 ^ 63

-- P of each
abbrev pub AllOf : {A : Type 0} → (A → Type 0) → List A → Type 0
AllOf P [] = Unit {0}
AllOf P (x ∷ xs) = P x × AllOf P xs
