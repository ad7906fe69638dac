-- The numbers and the text of identifiers. They are UUIDs, as the OpenAPI annex of ASTM F3548-21 has them; the layout of
-- the number is this project's own, with version 4 and the variant of RFC 9562.
use Rattle.std.specs.Prelude.{ℕ, ◌+◌, ◌*◌, ◌/◌, ◌%◌, ◌^◌, List, Option, Some, None, bytes_eq, if◌then◌else◌}
use Rattle.std.specs.Int.{to_be_bytes, from_be_bytes, w128}
use Rattle.uuid.specs.Text.{hyphenated_text, lower, parsed}

-- the supplier's number in the first 32 bits, the kind in the next 16, the version, the number's first 4 bits, the
-- variant, the number's other 60 bits
abbrev pub identifier_number : ℕ → ℕ → ℕ → ℕ
identifier_number kind supplier number =
    supplier * 2 ^ 96 + kind * 2 ^ 80 + 4 * 2 ^ 76 + number / 2 ^ 60 * 2 ^ 64 + 2 * 2 ^ 62 + number % 2 ^ 60

-- the kind is 0 for a flight and 1 for a ticket
abbrev pub flight_number : ℕ → ℕ → ℕ
flight_number supplier flight = identifier_number 0 supplier flight

abbrev pub ticket_number : ℕ → ℕ → ℕ
ticket_number supplier job = identifier_number 1 supplier job

-- 32 lower-case hexadecimal digits with hyphens, in groups of 8, 4, 4, 4 and 12
unfoldable pub identifier_text : ℕ → List ℕ
identifier_text number = hyphenated_text lower (to_be_bytes w128 number)

-- the number of the UUID that a text parses to, in whatever form, where the text is the identifier's of that number
abbrev pub identifier_from : List ℕ → Option (List ℕ) → Option ℕ
identifier_from text None = None
identifier_from text (Some bytes) =
    if bytes_eq text (identifier_text (from_be_bytes w128 bytes)) then Some (from_be_bytes w128 bytes) else None

-- the number of the identifier with this text
unfoldable pub identifier_of : List ℕ → Option ℕ
identifier_of text = identifier_from text (parsed text)
