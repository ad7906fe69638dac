-- The numbers of a script: decimal digits, with `-` before a number below 0. This project's own.
use Rattle.std.specs.Prelude.{ℕ, ◌==◌, Bool, not, ◌&&◌, ◌||◌, List, [], ◌∷◌, length, slice_index, bytes_eq, codes, Option, Some, None, ℤ, nat_lt, if◌then◌else◌}
use Rattle.std.specs.List.{list_all}
use Rattle.std.specs.Char.{is_ascii_digit}
use Rattle.std.specs.Str.Parse.{digits_value, signed_digits_value}

-- one decimal digit, or several of which the first isn't 0 (48)
abbrev pub is_natural : List ℕ → Bool
is_natural word = nat_lt 0 (length word) && ((length word == 1) || not (slice_index word 0 == 48)) && list_all is_ascii_digit word

abbrev pub natural_of : List ℕ → Option ℕ
natural_of word = if is_natural word then Some (digits_value 10 word) else None

-- the word after a `-` (45), if there is one
abbrev pub without_minus : List ℕ → List ℕ
without_minus [] = []
without_minus (b ∷ bs) = if b == 45 then bs else b ∷ bs

-- such digits, with or without a leading `-`; `-0` is no number
abbrev pub is_integer : List ℕ → Bool
is_integer word = is_natural (without_minus word) && not (bytes_eq word (codes "-0"))

abbrev pub integer_of : List ℕ → Option ℤ
integer_of word = if is_integer word then Some (signed_digits_value 10 word) else None
