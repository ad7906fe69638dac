-- How values are read from bytes, one after another: a reading gives the value at the start and the bytes after it, or none where
-- no value stands there. This project's own.
use Rattle.std.specs.Prelude.{◌≡◌, ℕ, zero, suc, ◌+◌, ◌*◌, ◌^◌, ℤ, Bool, List, [], ◌∷◌, length, take, drop, Option, Some, None, Result, Ok, Err, nat_lt, nat_le, if◌then◌else◌}
use Rattle.std.specs.Int.{Width, w16, w32, w64, byte_len, from_be_bytes, cast_signed}
use Rattle.uss_codec.specs.declared.coded.Unread.{Unread}
use Rattle.uss_codec.specs.declared.coded.Unread.TheVariants.{Memory, Malformed}

infixl 10 ◌>>=◌
abbrev pub ◌>>=◌ : {A B : Type 0} → Option A → (A → Option B) → Option B
None >>= f = None
(Some x) >>= f = f x

abbrev pub Reading : Type 0 → Type 0
Reading A = List ℕ → Option (A × List ℕ)

-- What a function returned, seen by view, is what reading gives, unless memory was wanting.
abbrev pub Fails : {Y : Type 0} → Unread → Option Y → Type 0
Fails Memory given = Unit {0}
Fails Malformed given = given ≡ None

abbrev pub Gives : {X Y : Type 0} → (X → Y) → Result X Unread → Option Y → Type 0
Gives view (Ok x) given = given ≡ Some (view x)
Gives view (Err e) given = Fails e given

unfoldable pub number_at : Width → Reading ℕ
number_at w bytes =
    if nat_lt (length bytes) (byte_len w) then None else Some (from_be_bytes w (take (byte_len w) bytes), drop (byte_len w) bytes)

unfoldable pub in_1_byte_at : Reading ℕ
in_1_byte_at [] = None
in_1_byte_at (b ∷ rest) = Some (b, rest)

abbrev pub in_2_bytes_at : Reading ℕ
in_2_bytes_at bytes = number_at w16 bytes

abbrev pub in_4_bytes_at : Reading ℕ
in_4_bytes_at bytes = number_at w32 bytes

abbrev pub in_8_bytes_at : Reading ℕ
in_8_bytes_at bytes = number_at w64 bytes

-- one value after another
abbrev pub both_at : {A B : Type 0} → Reading A → Reading B → Reading (A × B)
both_at first second bytes = do
  a ← first bytes
  b ← second a.1
  Some ((a.0, b.0), b.1)

-- what is made of a value
abbrev pub made_at : {A B : Type 0} → (A → B) → Reading A → Reading B
made_at make reading bytes = do
  a ← reading bytes
  Some (make a.0, a.1)

-- a value that passes a test
abbrev pub only_at : {A : Type 0} → (A → Bool) → Reading A → Reading A
only_at test reading bytes = do
  a ← reading bytes
  if test a.0 then Some a else None

abbrev pub from_halves : ℕ × ℕ → ℕ
from_halves halves = halves.0 * 2 ^ 64 + halves.1

unfoldable pub in_16_bytes_at : Reading ℕ
in_16_bytes_at bytes = made_at from_halves (both_at in_8_bytes_at in_8_bytes_at) bytes

unfoldable pub signed_in_8_bytes_at : Reading ℤ
signed_in_8_bytes_at bytes = made_at (λ n. cast_signed w64 n) in_8_bytes_at bytes

-- as many bytes as the number before them says
unfoldable pub text_at : Reading (List ℕ)
text_at bytes = do
  n ← in_4_bytes_at bytes
  if nat_lt (length n.1) n.0 then None else Some (take n.0 n.1, drop n.0 n.1)

unfoldable pub optional_at : {A : Type 0} → Reading A → Reading (Option A)
optional_at reading [] = None
optional_at reading (zero ∷ rest) = Some (None, rest)
optional_at reading (suc zero ∷ rest) = do
  x ← reading rest
  Some (Some x.0, x.1)
optional_at reading (suc (suc b) ∷ rest) = None

-- so many values
unfoldable pub many_at : {A : Type 0} → Reading A → ℕ → Reading (List A)
many_at reading zero bytes = Some ([], bytes)
many_at reading (suc n) bytes = do
  first ← reading bytes
  others ← many_at reading n first.1
  Some (first.0 ∷ others.0, others.1)

-- as many values as the number before them says, up to a limit
unfoldable pub counted_at : {A : Type 0} → ℕ → Reading ℕ → Reading A → Reading (List A)
counted_at limit count reading bytes = do
  n ← count bytes
  if nat_le n.0 limit then many_at reading n.0 n.1 else None

abbrev pub list_at : {A : Type 0} → ℕ → Reading A → Reading (List A)
list_at limit reading bytes = counted_at limit in_4_bytes_at reading bytes

abbrev pub short_list_at : {A : Type 0} → Reading A → Reading (List A)
short_list_at reading bytes = counted_at 255 in_1_byte_at reading bytes
