-- A number's word is its decimal text, and no other.
use Rattle.std.proofs.Common.{◌≡◌, ℕ, ◌<◌, ◌^◌, zero, suc, Bool, true, false, not, List, [], ◌∷◌, length, get_or, Option, Some, None, refl, sym, ap, ◌∙◌, arith}
use Rattle.std.specs.Prelude.{◌&&◌, ◌||◌, nat_lt, ◌==◌, slice_index, IfSome, if◌then◌else◌}
use Rattle.std.specs.Fmt.{decimal}
use Rattle.std.specs.Int.{IsInRange}
use Rattle.std.specs.List.{list_all}
use Rattle.std.specs.Char.{is_ascii_digit}
use Rattle.std.specs.Str.Parse.{AllDigits, digits_value}
use Rattle.std.proofs.lemmas.Bool.Decides.{nat_tests}
use Rattle.std.proofs.lemmas.Str.Parse.{IsNumeralModel, numerals_by_value, tells_digits, digit_from_value}
use Rattle.std.proofs.lemmas.Fmt.{decimal_is_IsNumeral, decimal-digits_value, decimal_nonempty, decimal_digit, first_decimal}
use Rattle.uss_text.specs.Numbers.{is_natural, natural_of}
use Rattle.uss_text.specs.Reading.{natural_below}
use Rattle.uss_text.proofs.Digits.{and_left, and_right, natural_numeral}

own : IsNumeralModel (AllDigits 10) (digits_value 10)
own = numerals_by_value (AllDigits 10) tells_digits

pub both : (a b : Bool) → a ≡ true → b ≡ true → (a && b) ≡ true
both a b h k = rw (h, k) refl

or_right : (a : Bool) → (a || true) ≡ true
or_right true = refl
or_right false = refl

or_left : (a b : Bool) → (a || b) ≡ true → b ≡ false → a ≡ true
or_left true b h k = refl
or_left false b h k = sym k ∙ h

equal_true : (m n : ℕ) → m ≡ n → (m == n) ≡ true
equal_true m n h = grind (arith, nat_tests)

equal_from : (m n : ℕ) → (m == n) ≡ true → m ≡ n
equal_from m n h = grind (arith, nat_tests)

above_zero : (n : ℕ) → 0 < n → nat_lt 0 n ≡ true
above_zero n h = grind (arith, nat_tests)

digit_true : (c : ℕ) → IsInRange 48 57 c → is_ascii_digit c ≡ true
digit_true c h = grind (arith, nat_tests)

all_true : (w : List ℕ) → AllDigits 10 w → list_all is_ascii_digit w ≡ true
all_true [] h = refl
all_true (c ∷ cs) h = both (is_ascii_digit c) (list_all is_ascii_digit cs) (digit_true c (digit_from_value c h.0)) (all_true cs h.1)

-- no zero stands before other digits
lead_by : (n f : ℕ) (t : Bool) → (f == 48) ≡ t → (f ≡ 48 → n ≡ 1) → ((n == 1) || not t) ≡ true
lead_by n f true is one = rw (equal_true n 1 (one (equal_from f 48 is))) refl
lead_by n f false is one = or_right (n == 1)

lead_from : (n f : ℕ) → ((n == 1) || not (f == 48)) ≡ true → f ≡ 48 → n ≡ 1
lead_from n f h is = equal_from n 1 (or_left (n == 1) (not (f == 48)) h (rw (equal_true f 48 is) refl))

pub is_natural_from : (w : List ℕ) → 0 < length w → (get_or w 0 0 ≡ 48 → length w ≡ 1) → AllDigits 10 w → is_natural w ≡ true
is_natural_from w some lead digits =
    both (nat_lt 0 (length w) && ((length w == 1) || not (slice_index w 0 == 48))) (list_all is_ascii_digit w)
    (both (nat_lt 0 (length w)) ((length w == 1) || not (slice_index w 0 == 48)) (above_zero (length w) some) (lead_by (length w) (slice_index w 0) (slice_index w 0 == 48) refl lead)) (all_true w digits)

pub lead_of : (w : List ℕ) → is_natural w ≡ true → get_or w 0 0 ≡ 48 → length w ≡ 1
lead_of w h = lead_from (length w) (slice_index w 0) (and_right (nat_lt 0 (length w)) ((length w == 1) || not (slice_index w 0 == 48)) (and_left (nat_lt 0 (length w) && ((length w == 1) || not (slice_index w 0 == 48))) (list_all is_ascii_digit w) h))

decimal_lead : (n : ℕ) → n < 2 ^ 64 → get_or (decimal n) 0 0 ≡ 48 → length (decimal n) ≡ 1
decimal_lead zero h is = ap (λ (w : List ℕ). length w) (decimal_digit 0 (omega arith))
decimal_lead (suc n) h is = let first : 48 < get_or (decimal (suc n)) 0 0 = first_decimal (suc n) (omega arith) h in absurd (omega arith)

pub decimal_is_natural : (n : ℕ) → n < 2 ^ 64 → is_natural (decimal n) ≡ true
decimal_is_natural n h = is_natural_from (decimal n) (decimal_nonempty n h) (decimal_lead n h) (decimal_is_IsNumeral n h).0.1

-- the decimal text of a number is a number's word, ..
pub decimal_read : (n : ℕ) → n < 2 ^ 64 → natural_of (decimal n) ≡ Some n
decimal_read n h = rw (decimal_is_natural n h) (ap Some (decimal_is_IsNumeral n h).1)

pub natural_text : (w : List ℕ) → is_natural w ≡ true → digits_value 10 w < 2 ^ 64 → w ≡ decimal (digits_value 10 w)
natural_text w h small = sym (decimal-digits_value own w (natural_numeral w h).1 (natural_numeral w h).0 (lead_of w h) small)

read_by : (w : List ℕ) (n : ℕ) (t : Bool) → is_natural w ≡ t → (if t then Some (digits_value 10 w) else None) ≡ Some n → n < 2 ^ 64 → w ≡ decimal n
read_by w n true h is small = let same : digits_value 10 w ≡ n = cc in natural_text w h (omega arith) ∙ ap decimal same
read_by w n false h is small = cc

-- .. and the only one of it
pub read_decimal : (w : List ℕ) (n : ℕ) → natural_of w ≡ Some n → n < 2 ^ 64 → w ≡ decimal n
read_decimal w n is small = read_by w n (is_natural w) refl is small

below_by : (v n : ℕ) (t : Bool) → nat_lt v 18446744073709551616 ≡ t → (if t then Some v else None) ≡ Some n → (v ≡ n) × (n < 2 ^ 64)
below_by v n true h is = let same : v ≡ n = cc in (same, below v n h same)
  where
    below : (v n : ℕ) → nat_lt v 18446744073709551616 ≡ true → v ≡ n → n < 18446744073709551616
    below v n h same = grind (arith, nat_tests)
below_by v n false h is = cc

below_parts : (o : Option ℕ) (n : ℕ) → natural_below 18446744073709551616 o ≡ Some n → (o ≡ Some n) × (n < 2 ^ 64)
below_parts None n is = cc
below_parts (Some v) n is = let h = below_by v n (nat_lt v 18446744073709551616) refl is in (ap Some h.0, h.1)

below_true : (n : ℕ) → n < 2 ^ 64 → natural_below 18446744073709551616 (Some n) ≡ Some n
below_true n h = grind (arith, nat_tests)

pub found : (w : List ℕ) (r : Option ℕ) → r ≡ natural_below (2 ^ 64) (natural_of w) → IfSome r (λ n. w ≡ decimal n)
found w None is = tt
found w (Some n) is = let h = below_parts (natural_of w) n (sym is) in read_decimal w n h.0 h.1

pub every : (w : List ℕ) (r : Option ℕ) → r ≡ natural_below (2 ^ 64) (natural_of w) → (n : ℕ) → n < 2 ^ 64 → w ≡ decimal n → r ≡ Some n
every w r is n small same = is ∙ ap (λ (v : List ℕ). natural_below 18446744073709551616 (natural_of v)) same ∙ ap (natural_below 18446744073709551616) (decimal_read n small) ∙ below_true n small
