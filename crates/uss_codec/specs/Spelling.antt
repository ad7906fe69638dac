-- How values are written as bytes. Numbers have the bytes of their type, the highest first; an identifier has 16. A text is its
-- length in 4 bytes and its bytes; an option is 0, or 1 and the value; a list is the number of its items and the items. This
-- project's own.
use Rattle.std.specs.Prelude.{ℕ, ◌/◌, ◌%◌, ◌^◌, ℤ, List, [], ◌∷◌, ◌++◌, length, Option, Some, None}
use Rattle.std.specs.List.{flat_map}
use Rattle.std.specs.Int.{Width, w16, w32, w64, to_be_bytes, cast_unsigned}
use Rattle.uss_shape.specs.declared.Place.{Place}
use Rattle.uss_vol4.specs.Volume.{Volume4D}

-- a number in the bytes of a width, the highest first
unfoldable pub number : Width → ℕ → List ℕ
number w n = to_be_bytes w n

abbrev pub in_1_byte : ℕ → List ℕ
in_1_byte n = n ∷ []

abbrev pub in_2_bytes : ℕ → List ℕ
in_2_bytes n = number w16 n

abbrev pub in_4_bytes : ℕ → List ℕ
in_4_bytes n = number w32 n

abbrev pub in_8_bytes : ℕ → List ℕ
in_8_bytes n = number w64 n

-- the higher half and the lower
abbrev pub in_16_bytes : ℕ → List ℕ
in_16_bytes n = in_8_bytes (n / 2 ^ 64) ++ in_8_bytes (n % 2 ^ 64)

-- a signed number of 8 bytes, as the unsigned one that has the same bits
abbrev pub signed_in_8_bytes : ℤ → List ℕ
signed_in_8_bytes z = in_8_bytes (cast_unsigned w64 z)

abbrev pub text : List ℕ → List ℕ
text bytes = in_4_bytes (length bytes) ++ bytes

abbrev pub optional : {A : Type 0} → (A → List ℕ) → Option A → List ℕ
optional spelling None = 0 ∷ []
optional spelling (Some x) = 1 ∷ spelling x

-- the number of items, and the items
abbrev pub counted : {A : Type 0} → (ℕ → List ℕ) → (A → List ℕ) → List A → List ℕ
counted count spelling items = count (length items) ++ flat_map spelling items

-- a list whose number of items has 4 bytes
abbrev pub list : {A : Type 0} → (A → List ℕ) → List A → List ℕ
list spelling items = counted in_4_bytes spelling items

-- a list whose number of items has one byte
abbrev pub short_list : {A : Type 0} → (A → List ℕ) → List A → List ℕ
short_list spelling items = counted in_1_byte spelling items

abbrev pub place : Place → List ℕ
place p = signed_in_8_bytes p.x ++ signed_in_8_bytes p.y

-- the vertices, two altitudes and two instants
abbrev pub volume : Volume4D → List ℕ
volume v =
    list place v.outline ++ (signed_in_8_bytes v.low ++ (signed_in_8_bytes v.high ++ (signed_in_8_bytes v.start ++ signed_in_8_bytes v.end)))
