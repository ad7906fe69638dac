-- An identifier that is read is a number of 128 bits.
use Rattle.std.proofs.Common.{◌≡◌, ◌^◌, ◌*◌, ℕ, zero, suc, ◌+◌, ◌<◌, Bool, true, false, List, [], ◌∷◌, length, get_or, take, drop, Some, None, refl, arith}
use Rattle.std.specs.Prelude.{Option, ◌&&◌, ◌==◌, slice_index, bytes_eq, if◌then◌else◌}
use Rattle.std.specs.List.{list_all}
use Rattle.std.specs.Int.{from_be_bytes, w128}
use Rattle.std.proofs.lemmas.Bool.{and_parts}
use Rattle.std.proofs.lemmas.Bool.Decides.{nat_tests}
use Rattle.uuid.proofs.TextLemmas.{by_index_at}
use Rattle.uuid.specs.Text.{by_index, parsed, parsed_simple, parsed_hyphenated, parsed_braced, parsed_urn, digits_of, is_hex_digit, value_of, byte_of_digits}
use Rattle.uss_intent.specs.Identifiers.{identifier_of, identifier_from, identifier_text}

sum_small : (b0 b1 b2 b3 b4 b5 b6 b7 b8 b9 b10 b11 b12 b13 b14 b15 : ℕ)
    → b0 < 256 → b1 < 256 → b2 < 256 → b3 < 256 → b4 < 256 → b5 < 256 → b6 < 256 → b7 < 256
    → b8 < 256 → b9 < 256 → b10 < 256 → b11 < 256 → b12 < 256 → b13 < 256 → b14 < 256 → b15 < 256
    → b0 * 256 ^ 15 + b1 * 256 ^ 14 + b2 * 256 ^ 13 + b3 * 256 ^ 12 + b4 * 256 ^ 11 + b5 * 256 ^ 10 + b6 * 256 ^ 9 + b7 * 256 ^ 8 + b8 * 256 ^ 7 + b9 * 256 ^ 6 + b10 * 256 ^ 5 + b11 * 256 ^ 4 + b12 * 256 ^ 3 + b13 * 256 ^ 2 + b14 * 256 ^ 1 + b15 < 2 ^ 128
sum_small b0 b1 b2 b3 b4 b5 b6 b7 b8 b9 b10 b11 b12 b13 b14 b15 h0 h1 h2 h3 h4 h5 h6 h7 h8 h9 h10 h11 h12 h13 h14 h15 = omega arith

number_small : (bytes : List ℕ) → ((j : ℕ) → j < 16 → get_or bytes j 0 < 256) → from_be_bytes w128 bytes < 2 ^ 128
number_small bytes h =
    sum_small (get_or bytes 0 0) (get_or bytes 1 0) (get_or bytes 2 0) (get_or bytes 3 0) (get_or bytes 4 0) (get_or bytes 5 0) (get_or bytes 6 0) (get_or bytes 7 0)
    (get_or bytes 8 0) (get_or bytes 9 0) (get_or bytes 10 0) (get_or bytes 11 0) (get_or bytes 12 0) (get_or bytes 13 0) (get_or bytes 14 0) (get_or bytes 15 0)
    (h 0 (omega arith)) (h 1 (omega arith)) (h 2 (omega arith)) (h 3 (omega arith)) (h 4 (omega arith)) (h 5 (omega arith)) (h 6 (omega arith)) (h 7 (omega arith))
    (h 8 (omega arith)) (h 9 (omega arith)) (h 10 (omega arith)) (h 11 (omega arith)) (h 12 (omega arith)) (h 13 (omega arith)) (h 14 (omega arith)) (h 15 (omega arith))

indexed_small : (f : ℕ → ℕ) → ((j : ℕ) → j < 16 → f j < 256) → (j : ℕ) → j < 16 → get_or (by_index 16 f) j 0 < 256
indexed_small f small j h = rw (by_index_at 16 f j 0 h) (small j h)

value_small : (c : ℕ) → is_hex_digit c ≡ true → value_of c < 16
value_small c h = grind (arith, nat_tests)

digit_at : (hex : List ℕ) (i : ℕ) → list_all is_hex_digit hex ≡ true → i < length hex → is_hex_digit (slice_index hex i) ≡ true
digit_at [] i all h = absurd (omega arith)
digit_at (c ∷ cs) zero all h = (and_parts (is_hex_digit c) (list_all is_hex_digit cs) all).0
digit_at (c ∷ cs) (suc i) all h = digit_at cs i (and_parts (is_hex_digit c) (list_all is_hex_digit cs) all).1 (omega arith)

two_small : (a b : ℕ) → a < 16 → b < 16 → a * 16 + b < 256
two_small a b h k = omega arith

thirty_two : (n : ℕ) → (n == 32) ≡ true → n ≡ 32
thirty_two n h = grind (arith, nat_tests)

bytes_small : (hex : List ℕ) → length hex ≡ 32 → list_all is_hex_digit hex ≡ true → (j : ℕ) → j < 16 → byte_of_digits hex j < 256
bytes_small hex size all j h =
    two_small (value_of (slice_index hex (2 * j))) (value_of (slice_index hex (2 * j + 1)))
    (value_small (slice_index hex (2 * j)) (digit_at hex (2 * j) all (omega arith)))
    (value_small (slice_index hex (2 * j + 1)) (digit_at hex (2 * j + 1) all (omega arith)))

-- the bytes, if there are any, are those of a number of 128 bits
abbrev Small : Option (List ℕ) → Type 0
Small None = Unit {0}
Small (Some bytes) = from_be_bytes w128 bytes < 2 ^ 128

either_small : (b : Bool) (x y : Option (List ℕ)) → (b ≡ true → Small x) → Small y → Small (if b then x else y)
either_small true x y h k = h refl
either_small false x y h k = k

simple_small : (hex : List ℕ) → Small (parsed_simple hex)
simple_small hex =
    either_small ((length hex == 32) && list_all is_hex_digit hex) (Some (by_index 16 (byte_of_digits hex))) None (λ is. let both = and_parts (length hex == 32) (list_all is_hex_digit hex) is in number_small (by_index 16 (byte_of_digits hex)) (indexed_small (byte_of_digits hex) (bytes_small hex (thirty_two (length hex) both.0) both.1))) tt

hyphenated_small : (text : List ℕ) → Small (parsed_hyphenated text)
hyphenated_small text = either_small _ (parsed_simple (digits_of text)) None (λ is. simple_small (digits_of text)) tt

braced_small : (text : List ℕ) → Small (parsed_braced text)
braced_small text = either_small _ (parsed_hyphenated (take 36 (drop 1 text))) None (λ is. hyphenated_small (take 36 (drop 1 text))) tt

urn_small : (text : List ℕ) → Small (parsed_urn text)
urn_small text = either_small _ (parsed_hyphenated (drop 9 text)) None (λ is. hyphenated_small (drop 9 text)) tt

parsed_small : (text : List ℕ) → Small (parsed text)
parsed_small text =
    either_small (length text == 32) (parsed_simple text) _ (λ is. simple_small text)
    (either_small (length text == 36) (parsed_hyphenated text) _ (λ is. hyphenated_small text)
    (either_small (length text == 38) (parsed_braced text) _ (λ is. braced_small text) (either_small (length text == 45) (parsed_urn text) None (λ is. urn_small text) tt)))

taken_small : (b : Bool) (n m : ℕ) → n < 2 ^ 128 → (if b then Some n else None) ≡ Some m → m < 2 ^ 128
taken_small true n m h is = let same : n ≡ m = cc in rw same at h
taken_small false n m h is = absurd cc

from_small : (text : List ℕ) (p : Option (List ℕ)) (n : ℕ) → Small p → identifier_from text p ≡ Some n → n < 2 ^ 128
from_small text None n h is = absurd cc
from_small text (Some bytes) n h is = taken_small (bytes_eq text (identifier_text (from_be_bytes w128 bytes))) (from_be_bytes w128 bytes) n h is

pub identifier_small : (text : List ℕ) (n : ℕ) → identifier_of text ≡ Some n → n < 2 ^ 128
unfolding identifier_of
identifier_small text n is = from_small text (parsed text) n (parsed_small text) is
