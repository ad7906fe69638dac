-- Digits, names and phrases as values of fields, and the text of a section of fields.
use Rattle.std.proofs.Common.{◌≡◌, ℕ, ◌+◌, ◌^◌, ◌<◌, ◌≤◌, Bool, true, false, IsTrue, List, [], ◌∷◌, ◌++◌, length, take, reverse, Some, None, refl, sym, ap, ◌∙◌, arith, ⊎_elim, append_assoc, length-append, take_all}
use Rattle.std.specs.Prelude.{decimal, nat_lt, nat_le, ◌&&◌}
use Rattle.std.specs.List.{list_all, flat_map}
use Rattle.std.specs.Int.{IsInRange}
use Rattle.std.specs.Char.{is_ascii_digit}
use Rattle.std.specs.Str.Parse.{AllDigits, digits_value}
use Rattle.std.proofs.lemmas.Bool.{cond-true, cond-false, and_from, and_parts, lt-ltb, cases_lt}
use Rattle.std.proofs.lemmas.Bool.Decides.{nat_tests}
use Rattle.std.proofs.lemmas.Fmt.{decimal_is_IsNumeral, length-decimal-le}
use Rattle.std.proofs.lemmas.List.{take-append-le}
use Rattle.std.proofs.lemmas.List.Elements.{All-nil, All-cons, All-head, All-weaker}
use Rattle.std.proofs.lemmas.List.Sums.{AllPass-from_list_all, list_all-from_AllPass}
use Rattle.std.proofs.lemmas.Str.Parse.{IsNumeralModel, numerals_by_value, tells_digits, digit_from_value, digits_value_short}
use Rattle.httparse.specs.Ascii.{crlf_bytes}
use Rattle.httparse.specs.Grammar.{AllPass, is_token_byte, is_token, IsToken, is_value_byte, is_ows, skip_ows, trim_ows, crlf, Field, IsField, print_field, print_section}
use Rattle.httparse.proofs.TrimLemmas.{AllPass-reverse, trim_ows_space}
use Rattle.uss_intent.specs.Texts.{is_name_byte, is_name, IsName}
use Rattle.uss_http_request.specs.declared.fields.Framing.TheVariants.{Length}
use Rattle.uss_http_request.specs.Fields.{body_limit, is_number, capped_number, framing_by, client_by}

abbrev pub Passes : (ℕ → Bool) → ℕ → Type 0
Passes test b = IsTrue (test b)

-- ---- values without white space

skipped : (test : ℕ → Bool) → ((b : ℕ) → IsTrue (test b) → is_ows b ≡ false) → (v : List ℕ) → AllPass test v → skip_ows v ≡ v
skipped test none [] all = refl
skipped test none (b ∷ v) all = cond-false (is_ows b) (skip_ows v) (b ∷ v) (none b (All-head (Passes test) b v all))

-- such a value comes back from after a space as it is
trimmed : (test : ℕ → Bool) → ((b : ℕ) → IsTrue (test b) → is_ows b ≡ false) → (v : List ℕ) → AllPass test v → trim_ows (32 ∷ v) ≡ v
trimmed test none v all = trim_ows_space v (skipped test none v all) (skipped test none (reverse v) (AllPass-reverse test v all))

-- ---- digits

digit_true : (b : ℕ) → IsInRange 48 57 b → is_ascii_digit b ≡ true
digit_true b h = grind (arith, nat_tests)

digit_no_space : (b : ℕ) → IsTrue (is_ascii_digit b) → is_ows b ≡ false
digit_no_space b h = grind (arith, nat_tests)

digit_value_byte : (b : ℕ) → IsTrue (is_ascii_digit b) → IsTrue (is_value_byte b)
digit_value_byte b h = grind (arith, nat_tests)

all_digits : (ds : List ℕ) → AllDigits 10 ds → AllPass is_ascii_digit ds
all_digits [] all = All-nil (Passes is_ascii_digit)
all_digits (c ∷ cs) all = All-cons (Passes is_ascii_digit) c cs (digit_true c (digit_from_value c all.0)) (all_digits cs all.1)

-- digits that write a number
pub record Writes (n : ℕ) (digits : List ℕ) : Type 0 where
  pub some : 0 < length digits
  pub all : AllPass is_ascii_digit digits
  pub value : digits_value 10 digits ≡ n

pub decimal_writes : (n : ℕ) → n < 2 ^ 64 → Writes n (decimal n)
decimal_writes n small =
    let d = decimal_is_IsNumeral n small in
    record { some = d.0.0; all = all_digits (decimal n) d.0.1; value = d.1 }

pub digits_are_a_value : (digits : List ℕ) → AllPass is_ascii_digit digits → AllPass is_value_byte digits
digits_are_a_value digits all = All-weaker (Passes is_ascii_digit) (Passes is_value_byte) digit_value_byte digits all

pub digits_trimmed : (digits : List ℕ) → AllPass is_ascii_digit digits → trim_ows (32 ∷ digits) ≡ digits
digits_trimmed digits all = trimmed is_ascii_digit digit_no_space digits all

capped : (n : ℕ) (digits : List ℕ) → Writes n digits → n ≤ body_limit → capped_number digits ≡ n
capped n digits writes within = let value = writes.value in omega arith

-- one length is read as that length
pub framed : (n : ℕ) (digits : List ℕ) → Writes n digits → n ≤ body_limit → framing_by (digits ∷ []) [] ≡ Some (Length n)
framed n digits writes within =
    cond-true (is_number digits) (Some (Length (capped_number digits))) None (and_from (nat_lt 0 (length digits)) (list_all is_ascii_digit digits) (lt-ltb 0 (length digits) writes.some) (list_all-from_AllPass is_ascii_digit digits writes.all))
    ∙ ap (λ (k : ℕ). Some (Length k)) (capped n digits writes within)

own : IsNumeralModel (AllDigits 10) (digits_value 10)
own = numerals_by_value (AllDigits 10) tells_digits

pub three_digits : (n : ℕ) → 100 ≤ n → n ≤ 999 → length (decimal n) ≡ 3
three_digits n low high =
    let small : n < 2 ^ 64 = omega arith in
    let d = decimal_is_IsNumeral n small in
    let most : length (decimal n) ≤ 3 = length-decimal-le 3 n (omega arith) (omega arith) small in
    ⊎_elim
    (λ few. absurd (let two : length (decimal n) ≤ 2 = omega arith in let s = digits_value_short own (decimal n) 2 d.0.1 two in let value = d.1 in omega arith))
    (λ many. omega arith)
    (cases_lt (length (decimal n)) 3)

-- ---- names

name_no_space : (b : ℕ) → IsTrue (is_name_byte b) → is_ows b ≡ false
name_no_space b h = grind (arith, nat_tests)

name_value_byte : (b : ℕ) → IsTrue (is_name_byte b) → IsTrue (is_value_byte b)
name_value_byte b h = grind (arith, nat_tests)

name_bytes : (name : List ℕ) → IsName name → AllPass is_name_byte name
name_bytes name is = AllPass-from_list_all is_name_byte name (and_parts (nat_le 1 (length name) && nat_le (length name) 64) (list_all is_name_byte name) is).1

pub name_is_a_value : (name : List ℕ) → IsName name → AllPass is_value_byte name
name_is_a_value name is = All-weaker (Passes is_name_byte) (Passes is_value_byte) name_value_byte name (name_bytes name is)

pub name_trimmed : (name : List ℕ) → IsName name → trim_ows (32 ∷ name) ≡ name
name_trimmed name is = trimmed is_name_byte name_no_space name (name_bytes name is)

-- one name is read as that name
pub named : (name : List ℕ) → IsName name → client_by (name ∷ []) ≡ Some name
named name is = cond-true (is_name name) (Some name) None is

-- ---- fields

pub token : (name : List ℕ) → is_token name ≡ true → IsToken name
token name is =
    let parts = and_parts (nat_lt 0 (length name)) (list_all is_token_byte name) is in
    (some_of name parts.0, AllPass-from_list_all is_token_byte name parts.1)
  where
    some_of : (name : List ℕ) → nat_lt 0 (length name) ≡ true → 0 < length name
    some_of name h = grind (arith, nat_tests)

-- a field as this project writes it: a space before the value
abbrev pub field : (name value : List ℕ) → Field
field name value = record { name = name; raw = 32 ∷ value; end = crlf }

pub is_field : (name value : List ℕ) → IsToken name → AllPass is_value_byte value → IsField (field name value)
is_field name value is all = record { name = is; raw = All-cons (Passes is_value_byte) 32 value refl all }

grouped : (a c s e x : List ℕ) → a ++ c ++ s ++ e ++ x ≡ a ++ (c ++ (s ++ e ++ x))
grouped a c s e x = simp append_assoc

front_of : (n v s e x : List ℕ) → n ++ 58 ∷ 32 ∷ v ++ crlf_bytes ++ s ++ e ++ x ≡ n ++ 58 ∷ 32 ∷ (v ++ 13 ∷ 10 ∷ (s ++ e ++ x))
front_of n v s e x = grouped (n ++ 58 ∷ 32 ∷ v) crlf_bytes s e x ∙ append_assoc n (58 ∷ 32 ∷ v) (13 ∷ 10 ∷ (s ++ e ++ x))

-- the first field stands at the start of its section
pub section_more : (name value : List ℕ) (fields : List Field) (x : List ℕ) → print_section (field name value ∷ fields) crlf ++ x ≡ name ++ 58 ∷ 32 ∷ (value ++ 13 ∷ 10 ∷ (print_section fields crlf ++ x))
section_more name value fields x = front_of name value (flat_map print_field fields) crlf_bytes x

-- ---- bodies

pub front_is : (body rest : List ℕ) → body ≡ take (length body) (body ++ rest)
front_is body rest = sym (take_all (length body) body (omega arith)) ∙ sym (take-append-le (length body) body rest (omega arith))

pub whole_body : (body rest : List ℕ) → length body ≤ body_limit → (length body ≤ body_limit) × (length body ≤ length (body ++ rest)) × (body ≡ take (length body) (body ++ rest))
whole_body body rest within = (within, omega (arith, length-append body rest), front_is body rest)
