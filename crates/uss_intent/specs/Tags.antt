-- The tag at the end of a base URL. This project's own: an attempt's base URL ends in `/a/` and the attempt's tag.
use Rattle.std.specs.Prelude.{ℕ, ◌-◌, ◌^◌, ◌<◌, ◌≤◌, ◌≡◌, ◌&&◌, nat_lt, nat_le, nat_eq, List, length, slice_index, take, drop, codes, Option, Some, None, if◌then◌else◌}
use Rattle.std.specs.Char.{is_ascii_digit}
use Rattle.std.specs.List.{ends_with, suffix_len}
use Rattle.std.specs.Str.{all_ascii_digits}
use Rattle.std.specs.Str.Parse.{digits_value}
use Rattle.uss_intent.specs.Texts.{tagged_base}

-- the text is some text with `/a/` and this number, from 1 on and within 64 bits, in decimal without a leading zero
pub record HasTag (text : List ℕ) (tag : ℕ) : Type 0 where
  pub front : List ℕ
  pub ends : text ≡ tagged_base front tag
  pub positive : 1 ≤ tag
  pub fits : tag < 2 ^ 64

-- the number that digits write, where the first is none of the zeros and the number fits 64 bits
unfoldable pub number_of_digits : List ℕ → Option ℕ
number_of_digits digits =
    if nat_le 49 (slice_index digits 0) && all_ascii_digits digits && nat_lt (digits_value 10 digits) (2 ^ 64)
    then Some (digits_value 10 digits) else None

-- how many digits stand at the end of a text
unfoldable pub digits_at_end : List ℕ → ℕ
digits_at_end text = suffix_len is_ascii_digit text

-- the tag that a text has, if it has one
unfoldable pub tag_of : List ℕ → Option ℕ
tag_of text =
    let place = length text - digits_at_end text in
    if ends_with nat_eq (take place text) (codes "/a/") then number_of_digits (drop place text) else None
