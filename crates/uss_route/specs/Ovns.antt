-- How an OVN is written in a path: percent-encoding after RFC 3986, section 2.1; which bytes are written as they are is this project's own.
use Rattle.std.specs.Prelude.{ℕ, ◌+◌, ◌/◌, ◌%◌, ◌==◌, nat_lt, nat_le, Bool, true, not, ◌&&◌, ◌||◌, List, [], ◌∷◌, length, take, if◌then◌else◌}
use Rattle.std.specs.List.{flat_map, list_all}
use Rattle.std.specs.Char.{is_ascii_alphanumeric, is_ascii_hexdigit}
use Rattle.percent_encoding.specs.Percent.{percent_decode}
use Rattle.uss_intent.specs.Texts.{is_ovn}

-- a byte that is written as it is: a letter, a digit, `-`, `.`, `_` or `~`
abbrev pub is_plain : ℕ → Bool
is_plain b = is_ascii_alphanumeric b || (b == 45) || (b == 46) || (b == 95) || (b == 126)

-- an upper-case hexadecimal digit
abbrev pub upper_digit : ℕ → ℕ
upper_digit d = if nat_lt d 10 then 48 + d else 55 + d

-- a byte as it is written; any other than these is `%` and two such digits
abbrev pub segment_of_byte : ℕ → List ℕ
segment_of_byte b = if is_plain b then b ∷ [] else 37 ∷ upper_digit (b / 16) ∷ upper_digit (b % 16) ∷ []

-- an OVN as it is written in a path
abbrev pub segment_of : List ℕ → List ℕ
segment_of ovn = flat_map segment_of_byte ovn

-- the bytes begin with two hexadecimal digits
abbrev pub begins_with_digits : List ℕ → Bool
begins_with_digits bytes = nat_le 2 (length bytes) && list_all is_ascii_hexdigit (take 2 bytes)

-- two hexadecimal digits come after each `%`
abbrev pub is_escaped : List ℕ → Bool
is_escaped [] = true
is_escaped (b ∷ bytes) = (not (b == 37) || begins_with_digits bytes) && is_escaped bytes

-- a parameter of a path that stands for an OVN: each `%` and its two digits for that byte, and each other byte for itself
abbrev pub is_ovn_segment : List ℕ → Bool
is_ovn_segment segment = is_escaped segment && is_ovn (percent_decode segment)
