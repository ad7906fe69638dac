-- Which texts are names, OVNs and base URLs. This project's own limits; ASTM F3548-21 gives base URLs and OVNs as texts.
use Rattle.std.specs.Prelude.{ℕ, ◌-◌, ◌==◌, nat_le, Bool, false, not, ◌&&◌, ◌||◌, List, ◌++◌, length, slice_index, codes, bytes_eq, decimal, is_none, IsTrue, None, Ok, Err}
use Rattle.std.specs.Char.{is_ascii_alphanumeric}
use Rattle.std.specs.List.{list_all}
use Rattle.url.specs.Parts.{Parts}
use Rattle.url.specs.Parser.{Parsed, parse_url}

-- a letter, a digit, `-`, `.` or `_`
abbrev pub is_name_byte : ℕ → Bool
is_name_byte b = is_ascii_alphanumeric b || (b == 45) || (b == 46) || (b == 95)

-- a name of a client: 1 to 64 such bytes
abbrev pub is_name : List ℕ → Bool
is_name text = nat_le 1 (length text) && nat_le (length text) 64 && list_all is_name_byte text

abbrev pub IsName : List ℕ → Type 0
IsName text = IsTrue (is_name text)

-- a byte of visible ASCII: no space, nothing that controls
abbrev pub is_visible : ℕ → Bool
is_visible b = nat_le 33 b && nat_le b 126

-- an opaque version number: 16 to 128 visible bytes
abbrev pub is_ovn : List ℕ → Bool
is_ovn text = nat_le 16 (length text) && nat_le (length text) 128 && list_all is_visible text

abbrev pub IsOvn : List ℕ → Type 0
IsOvn text = IsTrue (is_ovn text)

-- an http URL with neither query nor fragment, of what the URL Standard's parser read
abbrev pub is_plain_http : Parsed Parts → Bool
is_plain_http (Err e) = false
is_plain_http (Ok url) = bytes_eq url.scheme (codes "http") && is_none url.query && is_none url.fragment

-- 0 where there is none
abbrev pub last_byte : List ℕ → ℕ
last_byte text = slice_index text (length text - 1)

-- a base URL: at most 300 visible bytes without a slash at the end, which the URL Standard reads as an http URL
-- with neither query nor fragment
abbrev pub is_base : List ℕ → Bool
is_base text =
    nat_le (length text) 300 && not (last_byte text == 47) && list_all is_visible text && is_plain_http (parse_url None text)

abbrev pub IsBase : List ℕ → Type 0
IsBase text = IsTrue (is_base text)

-- the base URL of an attempt: the supplier's own, with `/a/` and the attempt's tag in decimal
abbrev pub tagged_base : List ℕ → ℕ → List ℕ
tagged_base base tag = base ++ codes "/a/" ++ decimal tag
