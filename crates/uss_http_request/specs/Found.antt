-- How the fields with one name are found: none, one, or several. This project's own.
use Rattle.std.specs.Prelude.{◌≡◌, ℕ, ◌≤◌, List, [], ◌∷◌, length, if◌then◌else◌}
use Rattle.httparse.specs.declared.spans.Span.{Span}
use Rattle.httparse.specs.declared.spans.HeaderSpan.{HeaderSpan}
use Rattle.httparse.specs.Spans.{IsWithin, span_bytes, header_bytes}
use Rattle.uss_http_request.specs.Fields.{is_named}
use Rattle.uss_http_request.specs.declared.fields.Values.{Values}
use Rattle.uss_http_request.specs.declared.fields.Values.TheVariants as found

-- what was found, and one more
abbrev pub and_one_more : Values → Span → Values
and_one_more found.None value = found.One value
and_one_more (found.One earlier) value = found.Several
and_one_more found.Several value = found.Several

-- what was found among the values: none, the one at this place of the bytes, or several
abbrev pub Describes : List ℕ → Values → List (List ℕ) → Type 0
Describes bytes found.None values = values ≡ []
Describes bytes (found.One place) values = IsWithin (length bytes) place × (values ≡ span_bytes bytes place ∷ [])
Describes bytes found.Several values = 2 ≤ length values

-- what was found, and this field where it has the name
abbrev pub after_field : (bytes name : List ℕ) → Values → HeaderSpan → Values
after_field bytes name found header = if is_named name (header_bytes bytes header) then and_one_more found header.value else found
