-- A base URL has the tag that is read at its end, and no other.
use Rattle.std.proofs.Common.{◌≡◌, ◌<◌, ◌≤◌, ◌-◌, ◌+◌, ◌^◌, ◌/◌, ◌%◌, ℕ, zero, suc, Bool, true, false, ◌&&◌, ◌==◌, nat_lt, nat_le, List, [], ◌∷◌, ◌++◌, length, get_or, slice_index, take, drop, reverse, Option, Some, None, Result, Ok, Err, refl, sym, ap, ◌∙◌, subst, arith, if◌then◌else◌, length-append}
use Rattle.std.specs.Prelude.{codes, decimal, nat_eq}
use Rattle.std.specs.Char.{is_ascii_digit}
use Rattle.std.specs.List.{ends_with, suffix_len, prefix_len}
use Rattle.std.specs.Result.{result_ok}
use Rattle.std.specs.Str.{IsUtf8, all_ascii_digits}
use Rattle.std.specs.Str.Parse.{digits_value, ParsesUnsigned}
use Rattle.std.specs.Cmp.Lexicographic.{bytes_decides}
use Rattle.std.proofs.lemmas.Bool.{and_parts}
use Rattle.std.proofs.lemmas.Bool.Decides.{nat_tests}
use Rattle.std.proofs.lemmas.Fmt.{decimal-digits_value, decimal_is_IsNumeral, decimal_digit, decimal_by_steps}
use Rattle.std.proofs.lemmas.List.{reverse-append, length-reverse, take-append-drop, take_at, drop_at, get_or_append_left, get_or-reverse}
use Rattle.std.proofs.lemmas.List.Folds.{prefix_len-append, length-prefix_len}
use Rattle.std.proofs.lemmas.Str.{IsUtf8-from_ascii}
use Rattle.std.proofs.lemmas.Str.Parse.{IsNumeralModel, numerals_by_value, tells_all_ascii_digits, parse_plain}
use Rattle.uss_intent.specs.Tags.{HasTag, number_of_digits, digits_at_end, tag_of}
use Rattle.uss_intent.specs.Texts.{tagged_base}

own : IsNumeralModel (λ ds. all_ascii_digits ds ≡ true) (digits_value 10)
own = numerals_by_value _ tells_all_ascii_digits

-- the tests that a number passes
record Passes (digits : List ℕ) : Type 0 where
  first : nat_le 49 (slice_index digits 0) ≡ true
  all : all_ascii_digits digits ≡ true
  fits : nat_lt (digits_value 10 digits) (2 ^ 64) ≡ true

passes : (digits : List ℕ) → (nat_le 49 (slice_index digits 0) && all_ascii_digits digits && nat_lt (digits_value 10 digits) (2 ^ 64)) ≡ true → Passes digits
passes digits h =
    let both = and_parts (nat_le 49 (slice_index digits 0) && all_ascii_digits digits) (nat_lt (digits_value 10 digits) (2 ^ 64)) h in
    let front = and_parts (nat_le 49 (slice_index digits 0)) (all_ascii_digits digits) both.0 in
    record { first = front.0; all = front.1; fits = both.1 }

some_same : (test : Bool) (n m : ℕ) → (if test then Some n else None) ≡ Some m → (test ≡ true) × (n ≡ m)
some_same true n m h = (refl, cc)
some_same false n m h = cc

first_large : (n : ℕ) → nat_le 49 n ≡ true → 49 ≤ n
first_large n h = grind (arith, nat_tests)

large_first : (n : ℕ) → 49 ≤ n → nat_le 49 n ≡ true
large_first n h = grind (arith, nat_tests)

fits_64 : (n : ℕ) → nat_lt n (2 ^ 64) ≡ true → n < 2 ^ 64
fits_64 n h = grind (arith, nat_tests)

test_64 : (n : ℕ) → n < 2 ^ 64 → nat_lt n (2 ^ 64) ≡ true
test_64 n h = grind (arith, nat_tests)

some_first : (bs : List ℕ) → 49 ≤ slice_index bs 0 → 0 < length bs
some_first [] h = absurd (omega arith)
some_first (b ∷ bs) h = omega arith

-- what `parse` gives of a text that begins with a digit from 1 to 9
pub parsed_number : {E : Type 0} (bs : List ℕ) (r : Result ℕ E) → 49 ≤ slice_index bs 0 → slice_index bs 0 ≤ 57 → ParsesUnsigned 64 10 bs r → result_ok r ≡ number_of_digits bs
unfolding number_of_digits
parsed_number {E} bs (Ok x) low high h =
    let told = parse_plain own {E = E} 64 bs (Ok x) h (λ e. absurd (omega arith)) in
    rw (large_first (slice_index bs 0) low, told.0.0, test_64 (digits_value 10 bs) told.0.2) (ap Some told.1)
parsed_number {E} bs (Err e) low high h = go (nat_le 49 (slice_index bs 0) && all_ascii_digits bs && nat_lt (digits_value 10 bs) (2 ^ 64)) refl
  where
    go : (b : Bool) → (nat_le 49 (slice_index bs 0) && all_ascii_digits bs && nat_lt (digits_value 10 bs) (2 ^ 64)) ≡ b → None ≡ (if b then Some (digits_value 10 bs) else None)
    go true t =
        let p = passes bs t in
        absurd (parse_plain own {E = E} 64 bs (Err e) h (λ q. absurd (omega arith)) (p.all, some_first bs low, fits_64 (digits_value 10 bs) p.fits))
    go false t = refl

ascii_digits : (bs : List ℕ) → all_ascii_digits bs ≡ true → (i : ℕ) → get_or bs i 0 < 128
ascii_digits [] h i = omega arith
ascii_digits (b ∷ bs) h zero = let d = (and_parts (is_ascii_digit b) (all_ascii_digits bs) h).0 in grind (arith, nat_tests)
ascii_digits (b ∷ bs) h (suc i) = ascii_digits bs (and_parts (is_ascii_digit b) (all_ascii_digits bs) h).1 i

-- what is no text is no number
pub no_number : (bs : List ℕ) → (IsUtf8 bs → ⊥) → None ≡ number_of_digits bs
unfolding number_of_digits
no_number bs bad = go (nat_le 49 (slice_index bs 0) && all_ascii_digits bs && nat_lt (digits_value 10 bs) (2 ^ 64)) refl
  where
    go : (b : Bool) → (nat_le 49 (slice_index bs 0) && all_ascii_digits bs && nat_lt (digits_value 10 bs) (2 ^ 64)) ≡ b → None ≡ (if b then Some (digits_value 10 bs) else None)
    go true t = absurd (bad (IsUtf8-from_ascii bs (ascii_digits bs (passes bs t).all)))
    go false t = refl

-- the digits of a number are its decimal form
number_is_decimal : (digits : List ℕ) (n : ℕ) → number_of_digits digits ≡ Some n → (digits ≡ decimal n) × (1 ≤ n) × (n < 2 ^ 64)
unfolding number_of_digits
number_is_decimal digits n h =
    let value = digits_value 10 digits in
    let both = some_same (nat_le 49 (slice_index digits 0) && all_ascii_digits digits && nat_lt value (2 ^ 64)) value n h in
    let p = passes digits both.0 in
    let first = first_large (slice_index digits 0) p.first in
    let small = fits_64 value p.fits in
    let back : decimal value ≡ digits = decimal-digits_value own digits p.all (some_first digits first) (λ e. absurd (omega (arith, e))) small in
    let here : digits ≡ decimal n = sym back ∙ ap decimal both.1 in
    (here, positive n here first, subst (λ m. m < 2 ^ 64) both.1 small)
  where
    positive : (m : ℕ) → digits ≡ decimal m → 49 ≤ slice_index digits 0 → 1 ≤ m
    positive zero e first = absurd (let f : slice_index digits 0 ≡ 48 = ap (λ ds. slice_index ds 0) (e ∙ decimal_digit 0 (omega arith)) in omega arith)
    positive (suc m) e first = omega arith

by_test : (b : Bool) (o : Option ℕ) (n : ℕ) → (if b then o else None) ≡ Some n → (b ≡ true) × (o ≡ Some n)
by_test true o n h = (refl, h)
by_test false o n h = cc

pub tag_is_there : (text : List ℕ) (tag : ℕ) → tag_of text ≡ Some tag → HasTag text tag
unfolding tag_of
tag_is_there text tag h =
    let place = length text - digits_at_end text in
    let front = take place text in
    let k = length front - 3 in
    let both = by_test (ends_with nat_eq front (codes "/a/")) (number_of_digits (drop place text)) tag h in
    let slash : codes "/a/" ≡ drop k front = (bytes_decides (codes "/a/") (drop k front)).0 both.0 in
    let number = number_is_decimal (drop place text) tag both.1 in
    let split : front ≡ take k front ++ codes "/a/" = sym (take-append-drop k front) ∙ ap (λ (t : List ℕ). take k front ++ t) (sym slash) in
    record {
      front = take k front;
      ends = sym (take-append-drop place text) ∙ ap (λ (t : List ℕ). t ++ drop place text) split ∙ ap (λ (t : List ℕ). (take k front ++ codes "/a/") ++ t) number.0;
      positive = number.1;
      fits = number.2;
    }

all_prefix : (p : ℕ → Bool) (xs : List ℕ) → ((i : ℕ) → i < length xs → p (get_or xs i 0) ≡ true) → prefix_len p xs ≡ length xs
all_prefix p [] h = refl
all_prefix p (x ∷ xs) h =
    let here : p x ≡ true = h 0 (omega arith) in
    let rest = all_prefix p xs (λ i l. h (suc i) (omega arith)) in
    rw here (omega arith)

digit_here : (bs : List ℕ) (i : ℕ) → all_ascii_digits bs ≡ true → i < length bs → is_ascii_digit (get_or bs i 0) ≡ true
digit_here [] i h l = absurd (omega arith)
digit_here (b ∷ bs) zero h l = (and_parts (is_ascii_digit b) (all_ascii_digits bs) h).0
digit_here (b ∷ bs) (suc i) h l = digit_here bs i (and_parts (is_ascii_digit b) (all_ascii_digits bs) h).1 (omega arith)

at_end : (g d : List ℕ) → prefix_len is_ascii_digit (reverse g) ≡ 0 → all_ascii_digits d ≡ true → digits_at_end (g ++ d) ≡ length d
unfolding digits_at_end
at_end g d none all =
    let whole : reverse (g ++ d) ≡ reverse d ++ reverse g = reverse-append g d in
    let len : length (reverse d) ≡ length d = length-reverse d in
    let each : (i : ℕ) → i < length (reverse d) → is_ascii_digit (get_or (reverse d) i 0) ≡ true =
    λ i l. rw (get_or-reverse d i 0 (omega arith)) (digit_here d (length d - 1 - i) all (omega arith)) in
    let front : prefix_len is_ascii_digit (reverse d) ≡ length (reverse d) = all_prefix is_ascii_digit (reverse d) each in
    let same : (prefix_len is_ascii_digit (reverse d) == length (reverse d)) ≡ true = grind (arith, nat_tests) in
    ap (prefix_len is_ascii_digit) whole ∙ prefix_len-append is_ascii_digit (reverse d) (reverse g) ∙ rw (same, none) (omega arith)

-- the first of the digits of a number
abbrev First : ℕ → List ℕ → Type 0
First n ds = (0 < length ds) × (1 ≤ n → 49 ≤ slice_index ds 0)

first_one : (m : ℕ) → m < 10 → First m ((48 + m) ∷ [])
first_one m l = (omega arith, λ p. omega arith)

first_more : (m : ℕ) (ds : List ℕ) → 10 ≤ m → First (m / 10) ds → First m (ds ++ (48 + m % 10) ∷ [])
first_more m ds l f = (omega (arith, length-append ds ((48 + m % 10) ∷ [])), λ p. rw (get_or_append_left ds ((48 + m % 10) ∷ []) 0 0 f.0) (f.1 (omega arith)))

-- the decimal form of a number from 1 on begins with no zero
first_of_decimal : (n : ℕ) → 1 ≤ n → n < 2 ^ 64 → 49 ≤ slice_index (decimal n) 0
first_of_decimal n low high = (decimal_by_steps First first_one first_more n high).1 low

number_of_decimal : (n : ℕ) → 1 ≤ n → n < 2 ^ 64 → (all_ascii_digits (decimal n) ≡ true) × (number_of_digits (decimal n) ≡ Some n)
unfolding number_of_digits
number_of_decimal n low high =
    let digits = decimal_is_IsNumeral n high in
    let all : all_ascii_digits (decimal n) ≡ true = own.from (decimal n) digits.0.1 in
    let first = large_first (slice_index (decimal n) 0) (first_of_decimal n low high) in
    let fits : nat_lt (digits_value 10 (decimal n)) (2 ^ 64) ≡ true = test_64 (digits_value 10 (decimal n)) (rw digits.1 high) in
    (all, rw (first, all, fits) (ap Some digits.1))

tag_at : ℕ → List ℕ → Option ℕ
tag_at place text = if ends_with nat_eq (take place text) (codes "/a/") then number_of_digits (drop place text) else None

slash_at_end : (f : List ℕ) → ends_with nat_eq (f ++ codes "/a/") (codes "/a/") ≡ true
slash_at_end f =
    let len = length-append f (codes "/a/") in
    let three : length (codes "/a/") ≡ 3 = refl in
    let place : length (f ++ codes "/a/") - 3 ≡ length f = omega arith in
    (bytes_decides (codes "/a/") _).1 (sym (ap (λ n. drop n (f ++ codes "/a/")) place ∙ drop_at f (codes "/a/") (length f) refl))

at_place : (g d : List ℕ) (n : ℕ) → ends_with nat_eq g (codes "/a/") ≡ true → number_of_digits d ≡ Some n → tag_at (length g) (g ++ d) ≡ Some n
unfolding tag_at
at_place g d n slash number = rw (take_at g d (length g) refl, drop_at g d (length g) refl, slash) number

pub tagged_is_read : (f : List ℕ) (n : ℕ) → 1 ≤ n → n < 2 ^ 64 → tag_of (tagged_base f n) ≡ Some n
unfolding tag_at tag_of
tagged_is_read f n low high =
    let g = f ++ codes "/a/" in
    let d = decimal n in
    let number = number_of_decimal n low high in
    let none : prefix_len is_ascii_digit (reverse g) ≡ 0 = ap (prefix_len is_ascii_digit) (reverse-append f (codes "/a/")) in
    let end : digits_at_end (g ++ d) ≡ length d = at_end g d none number.0 in
    let len = length-append g d in
    let place : length (g ++ d) - digits_at_end (g ++ d) ≡ length g = omega arith in
    ap (λ (k : ℕ). tag_at k (g ++ d)) place ∙ at_place g d n (slash_at_end f) number.1

pub tag_is_read : (text : List ℕ) (tag : ℕ) → HasTag text tag → tag_of text ≡ Some tag
tag_is_read text tag has = subst (λ (t : List ℕ). tag_of t ≡ Some tag) (sym has.ends) (tagged_is_read has.front tag has.positive has.fits)

-- what a count of the digits from the end gives
pub suffix_is : (text : List ℕ) → length (take (prefix_len is_ascii_digit (reverse text)) (reverse text)) ≡ suffix_len is_ascii_digit text
suffix_is text = length-prefix_len is_ascii_digit (reverse text)

pub too_small : (bs : List ℕ) → slice_index bs 0 < 49 → number_of_digits bs ≡ None
unfolding number_of_digits
too_small bs h = let f : nat_le 49 (slice_index bs 0) ≡ false = grind (arith, nat_tests) in rw f refl

no_digit : (bs : List ℕ) → 57 < slice_index bs 0 → all_ascii_digits bs ≡ false
no_digit [] h = absurd (omega arith)
no_digit (b ∷ bs) h = let f : is_ascii_digit b ≡ false = grind (arith, nat_tests) in rw f refl

pub too_large : (bs : List ℕ) → 57 < slice_index bs 0 → number_of_digits bs ≡ None
unfolding number_of_digits
too_large bs h = rw (no_digit bs h) (go (nat_le 49 (slice_index bs 0)))
  where
    go : (b : Bool) → (if b && false && nat_lt (digits_value 10 bs) (2 ^ 64) then Some (digits_value 10 bs) else None) ≡ None
    go true = refl
    go false = refl
