-- What the fields of a head say of the body and of the client. RFC 9112, section 6, in the profile of this project:
-- one length or the coding `chunked`, and never both.
use Rattle.std.specs.Prelude.{ℕ, ◌+◌, nat_lt, Bool, ◌&&◌, List, [], ◌∷◌, length, map, filter, min, codes, bytes_eq, Option, Some, None, if◌then◌else◌}
use Rattle.std.specs.List.{list_all}
use Rattle.std.specs.Char.{is_ascii_digit, to_ascii_lowercase}
use Rattle.std.specs.Str.Parse.{digits_value}
use Rattle.uss_intent.specs.Texts.{is_name}
use Rattle.uss_http_request.specs.declared.fields.Framing.{Framing}
use Rattle.uss_http_request.specs.declared.fields.Framing.TheVariants.{Nothing, Length, Chunked}

-- 8 MiB, the most that a body may have
abbrev pub body_limit : ℕ
body_limit = 8388608

-- a name and a value: the name is this one, without regard to case
abbrev pub is_named : List ℕ → List ℕ × List ℕ → Bool
is_named name field = bytes_eq (map to_ascii_lowercase field.0) (map to_ascii_lowercase name)

-- the values of the fields with this name, in order
abbrev pub values_of : List ℕ → List (List ℕ × List ℕ) → List (List ℕ)
values_of name fields = map (λ f. f.1) (filter (is_named name) fields)

-- at least one decimal digit, and nothing else
abbrev pub is_number : List ℕ → Bool
is_number text = nat_lt 0 (length text) && list_all is_ascii_digit text

-- the number, or one more than the limit where it is above that
abbrev pub capped_number : List ℕ → ℕ
capped_number text = min (digits_value 10 text) (body_limit + 1)

-- what the values of the length and of the coding say, where they agree with this profile
abbrev pub framing_by : (lengths codings : List (List ℕ)) → Option Framing
framing_by [] [] = Some Nothing
framing_by (text ∷ []) [] = if is_number text then Some (Length (capped_number text)) else None
framing_by [] (coding ∷ []) = if bytes_eq (map to_ascii_lowercase coding) (codes "chunked") then Some Chunked else None
framing_by (text ∷ more ∷ texts) [] = None
framing_by [] (coding ∷ more ∷ codings) = None
framing_by (text ∷ texts) (coding ∷ codings) = None

abbrev pub framing_of : List (List ℕ × List ℕ) → Option Framing
framing_of fields = framing_by (values_of (codes "content-length") fields) (values_of (codes "transfer-encoding") fields)

-- the name of the client, where there is exactly one such field and its value is a name
abbrev pub client_by : List (List ℕ) → Option (List ℕ)
client_by [] = None
client_by (text ∷ []) = if is_name text then Some text else None
client_by (text ∷ more ∷ texts) = None

abbrev pub client_of : List (List ℕ × List ℕ) → Option (List ℕ)
client_of fields = client_by (values_of (codes "uss-client") fields)
