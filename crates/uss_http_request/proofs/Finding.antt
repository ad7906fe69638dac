-- What is found of the fields with one name.
use Rattle.std.proofs.Common.{◌≡◌, ℕ, ◌+◌, ◌*◌, ◌<◌, ◌≤◌, min, Bool, true, false, cond, List, [], ◌∷◌, ◌++◌, length, get_or, take, refl, sym, ap, ◌∙◌, subst, arith, add-one, ◌-◌, append_assoc, append-nil, length-append, All}
use Rattle.std.specs.Prelude.{map, fold, filter, ◌⊎◌}
use Rattle.std.specs.List.{list_all}
use Rattle.std.specs.Char.{is_ascii_digit, digit_value}
use Rattle.std.specs.Str.Parse.{digits_value}
use Rattle.std.proofs.Math.Seq.{take-suc}
use Rattle.std.proofs.lemmas.List.Elements.{All-head, All-tail}
use Rattle.std.proofs.lemmas.List.Folds.{list_all_more}
use Rattle.std.proofs.lemmas.Int.Digits.{digits_value_push}
use Rattle.std.proofs.lemmas.Str.{digit_value_digit}
use Rattle.std.proofs.lemmas.Bool.{and_from}
use Rattle.std.proofs.lemmas.Bool.Decides.{nat_tests}
use Rattle.httparse.specs.declared.spans.Span.{Span}
use Rattle.httparse.specs.declared.spans.HeaderSpan.{HeaderSpan}
use Rattle.httparse.specs.Spans.{IsWithin, IsHeaderWithin, span_bytes, header_bytes}
use Rattle.uss_http_request.specs.declared.fields.Values.{Values}
use Rattle.uss_http_request.specs.declared.fields.Values.TheVariants as found
use Rattle.uss_http_request.specs.Fields.{is_named, values_of, capped_number}
use Rattle.uss_http_request.specs.Found.{Describes, and_one_more, after_field}

one_more : (bytes : List ℕ) (seen : Values) (place : Span) (values : List (List ℕ)) → IsWithin (length bytes) place → Describes bytes seen values → Describes bytes (and_one_more seen place) (values ++ span_bytes bytes place ∷ [])
one_more bytes found.None place values within d = (within, ap (λ (v : List (List ℕ)). v ++ span_bytes bytes place ∷ []) d)
one_more bytes (found.One earlier) place values within d = omega (arith, length-append values (span_bytes bytes place ∷ []), ap length d.1)
one_more bytes found.Several place values within d = omega (arith, length-append values (span_bytes bytes place ∷ []))

-- one more field: with its value where it has the name
one_field : (bytes name : List ℕ) (seen : Values) (header : HeaderSpan) (headers : List HeaderSpan) (values : List (List ℕ)) (test : Bool) → is_named name (header_bytes bytes header) ≡ test → IsHeaderWithin (length bytes) header → Describes bytes seen values → ((seen : Values) (values : List (List ℕ)) → Describes bytes seen values → Describes bytes (fold (after_field bytes name) seen headers) (values ++ values_of name (map (header_bytes bytes) headers))) → Describes bytes (fold (after_field bytes name) (cond test (and_one_more seen header.value) seen) headers) (values ++ map (λ (f : List ℕ × List ℕ). f.1) (cond test (header_bytes bytes header ∷ filter (is_named name) (map (header_bytes bytes) headers)) (filter (is_named name) (map (header_bytes bytes) headers))))
one_field bytes name seen header headers values true e within d later =
    subst (Describes bytes (fold (after_field bytes name) (and_one_more seen header.value) headers)) (append_assoc values (span_bytes bytes header.value ∷ []) (values_of name (map (header_bytes bytes) headers))) (later (and_one_more seen header.value) (values ++ span_bytes bytes header.value ∷ []) (one_more bytes seen header.value values within.1 d))
one_field bytes name seen header headers values false e within d later = later seen values d

describes_from : (bytes name : List ℕ) (headers : List HeaderSpan) → All (IsHeaderWithin (length bytes)) headers → (seen : Values) (values : List (List ℕ)) → Describes bytes seen values → Describes bytes (fold (after_field bytes name) seen headers) (values ++ values_of name (map (header_bytes bytes) headers))
describes_from bytes name [] all seen values d = subst (Describes bytes seen) (sym (append-nil values)) d
describes_from bytes name (h ∷ headers) all seen values d =
    one_field bytes name seen h headers values (is_named name (header_bytes bytes h)) refl (All-head (IsHeaderWithin (length bytes)) h headers all) d (describes_from bytes name headers (All-tail (IsHeaderWithin (length bytes)) h headers all))

-- what the fold over all fields finds
pub describes_all : (bytes name : List ℕ) (headers : List HeaderSpan) → All (IsHeaderWithin (length bytes)) headers → Describes bytes (fold (after_field bytes name) found.None headers) (values_of name (map (header_bytes bytes) headers))
describes_all bytes name headers all = describes_from bytes name headers all found.None [] refl

is_digit : (d : ℕ) → 48 ≤ d → d ≤ 57 → is_ascii_digit d ≡ true
is_digit d low high = grind (arith, nat_tests)

pub digits_more : (text : List ℕ) (i : ℕ) → i < length text → 48 ≤ get_or text i 0 → get_or text i 0 ≤ 57 → list_all is_ascii_digit (take i text) ≡ true → list_all is_ascii_digit (take (i + 1) text) ≡ true
digits_more text i h low high all = list_all_more is_ascii_digit text i 0 h ∙ and_from (list_all is_ascii_digit (take i text)) (is_ascii_digit (get_or text i 0)) all (is_digit (get_or text i 0) low high)

pub capped_more : (text : List ℕ) (i value : ℕ) → i < length text → 48 ≤ get_or text i 0 → get_or text i 0 ≤ 57 → value ≡ capped_number (take i text) → min (value * 10 + (get_or text i 0 - 48)) 8388609 ≡ capped_number (take (i + 1) text)
capped_more text i value h low high is =
    let digit = digit_value_digit (get_or text i 0) (low, high) in
    let front : take (i + 1) text ≡ take i text ++ get_or text i 0 ∷ [] = rw add-one (take-suc text i 0 h) in
    let all : digits_value 10 (take (i + 1) text) ≡ digits_value 10 (take i text) * 10 + digit_value (get_or text i 0) = ap (digits_value 10) front ∙ digits_value_push 10 (take i text) (get_or text i 0) in
    omega arith

pub no_digit : (d : ℕ) → (d < 48) ⊎ (57 < d) → is_ascii_digit d ≡ false
no_digit d out = grind (arith, nat_tests)
