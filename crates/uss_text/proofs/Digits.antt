-- Numbers: what `parse` reads of the digits that a script allows.
use Rattle.std.proofs.Common.{◌≡◌, ◌≢◌, ℕ, ◌<◌, zero, suc, Bool, true, false, cond, not, List, [], ◌∷◌, length, get_or, Some, None, Result, Ok, Err, ℤ, pos, negsuc, refl, sym, ap, ◌∙◌, arith, lit<}
use Rattle.std.specs.Prelude.{◌&&◌, ◌||◌, nat_lt, ◌==◌, slice_index, bytes_eq, codes, if◌then◌else◌}
use mir.Syntax.{w64}
use mir.Val.{SFits}
use Rattle.std.specs.List.{list_all}
use Rattle.std.specs.Result.{OkIff, result_ok}
use Rattle.std.specs.Char.{is_ascii_digit, digit_value}
use Rattle.std.specs.Str.{IsUtf8, IsAscii}
use Rattle.std.specs.Str.Parse.{AllDigits, IsNumeral, digits_value, signed_digits_value, without_leading_plus, without_leading_sign, ParsesUnsigned, ParsesSigned}
use Rattle.std.proofs.lemmas.Bool.Decides.{nat_tests}
use Rattle.std.proofs.lemmas.Str.{IsUtf8-from_ascii}
use Rattle.std.specs.Int.{IsInRange}
use Rattle.std.proofs.lemmas.Str.Parse.{without_leading_plus_none, digit_from_value}
use Rattle.uss_text.specs.Numbers.{is_natural, natural_of, without_minus, is_integer, integer_of}
use Rattle.uss_text.specs.Reading.{natural_below, integer_within, is_signed_64}

pub and_left : (a b : Bool) → (a && b) ≡ true → a ≡ true
and_left true b h = refl
and_left false b h = h

pub and_right : (a b : Bool) → (a && b) ≡ true → b ≡ true
and_right true b h = h
and_right false b h = cc

-- a decimal digit is one in radix 10
digit_small : (c : ℕ) → is_ascii_digit c ≡ true → digit_value c < 10
digit_small c h = grind (arith, nat_tests)

all_digits : (w : List ℕ) → list_all is_ascii_digit w ≡ true → AllDigits 10 w
all_digits [] h = tt
all_digits (c ∷ cs) h = (digit_small c (and_left (is_ascii_digit c) (list_all is_ascii_digit cs) h), all_digits cs (and_right (is_ascii_digit c) (list_all is_ascii_digit cs) h))

pub natural_digits : (w : List ℕ) → is_natural w ≡ true → list_all is_ascii_digit w ≡ true
natural_digits w h = and_right (nat_lt 0 (length w) && ((length w == 1) || not (slice_index w 0 == 48))) (list_all is_ascii_digit w) h

not_empty : (n : ℕ) → nat_lt 0 n ≡ true → 0 < n
not_empty n h = grind (arith, nat_tests)

pub natural_numeral : (w : List ℕ) → is_natural w ≡ true → IsNumeral 10 w
natural_numeral w h = (
  not_empty (length w) (and_left (nat_lt 0 (length w)) ((length w == 1) || not (slice_index w 0 == 48)) (and_left (nat_lt 0 (length w) && ((length w == 1) || not (slice_index w 0 == 48))) (list_all is_ascii_digit w) h)),
  all_digits w (natural_digits w h),
)

digits_ascii : (w : List ℕ) → AllDigits 10 w → (i : ℕ) → get_or w i 0 < 128
digits_ascii [] digits i = lit< tt
digits_ascii (c ∷ cs) digits zero = let r : IsInRange 48 57 c = digit_from_value c digits.0 in omega arith
digits_ascii (c ∷ cs) digits (suc i) = digits_ascii cs digits.1 i

-- a word that is a number has no leading `+`
pub no_plus : (w : List ℕ) → AllDigits 10 w → get_or w 0 0 ≢ 43
no_plus [] digits = λ e. omega arith
no_plus (c ∷ cs) digits = λ e. (let r : IsInRange 48 57 c = digit_from_value c digits.0 in omega arith)

pub natural_utf8 : (w : List ℕ) → is_natural w ≡ true → IsUtf8 w
natural_utf8 w h = IsUtf8-from_ascii w (digits_ascii w (all_digits w (natural_digits w h)))

below_fits : (v : ℕ) → v < 18446744073709551616 → natural_below 18446744073709551616 (Some v) ≡ Some v
below_fits v h = grind (arith, nat_tests)

below_past : (v : ℕ) → ¬ (v < 18446744073709551616) → natural_below 18446744073709551616 (Some v) ≡ None
below_past v h = grind (arith, nat_tests)

natural_value : (w : List ℕ) → is_natural w ≡ true → natural_of w ≡ Some (digits_value 10 w)
natural_value w h = rw h refl

parsed_natural : {E : Type 0} (v : ℕ) (P : Type 0) → P → (r : Result ℕ E) → OkIff r (P × (v < 18446744073709551616)) v → result_ok r ≡ natural_below 18446744073709551616 (Some v)
parsed_natural v P p (Ok x) parsed = ap Some parsed.1 ∙ sym (below_fits v parsed.0.1)
parsed_natural v P p (Err e) parsed = sym (below_past v (λ fits. parsed (p, fits)))

-- what parse gives of a number is the number, where it fits
pub natural_parsed : {E : Type 0} (w : List ℕ) (r : Result ℕ E) → is_natural w ≡ true → ParsesUnsigned 64 10 w r → result_ok r ≡ natural_below 18446744073709551616 (natural_of w)
natural_parsed w r h parsed =
    let numeral = natural_numeral w h in
    let plain : without_leading_plus w ≡ w = without_leading_plus_none w (no_plus w numeral.1) in
    let bare = rw plain at parsed in
    rw (natural_value w h) (parsed_natural (digits_value 10 w) (IsNumeral 10 w) numeral r bare)

-- the same of a number with a sign
signed_numeral_by : (b : ℕ) (bs : List ℕ) (t : Bool) → is_natural (cond t bs (b ∷ bs)) ≡ true → IsNumeral 10 (cond t bs (without_leading_plus (b ∷ bs)))
signed_numeral_by b bs true h = natural_numeral bs h
signed_numeral_by b bs false h =
    let numeral = natural_numeral (b ∷ bs) h in
    rw (without_leading_plus_none (b ∷ bs) (no_plus (b ∷ bs) numeral.1)) numeral

signed_numeral : (w : List ℕ) → is_natural (without_minus w) ≡ true → IsNumeral 10 (without_leading_sign w)
signed_numeral [] h = cc
signed_numeral (b ∷ bs) h = signed_numeral_by b bs (b == 45) h

minus_small : (b : ℕ) → (b == 45) ≡ true → b < 128
minus_small b h = grind (arith, nat_tests)

minus_ascii : (b : ℕ) (bs : List ℕ) → (b == 45) ≡ true → IsAscii bs → IsAscii (b ∷ bs)
minus_ascii b bs minus ascii zero = minus_small b minus
minus_ascii b bs minus ascii (suc i) = ascii i

signed_utf8_by : (b : ℕ) (bs : List ℕ) (t : Bool) → (b == 45) ≡ t → is_natural (cond t bs (b ∷ bs)) ≡ true → IsAscii (b ∷ bs)
signed_utf8_by b bs true minus h = minus_ascii b bs minus (digits_ascii bs (all_digits bs (natural_digits bs h)))
signed_utf8_by b bs false minus h = digits_ascii (b ∷ bs) (all_digits (b ∷ bs) (natural_digits (b ∷ bs) h))

pub integer_utf8 : (w : List ℕ) → is_integer w ≡ true → IsUtf8 w
integer_utf8 [] h = cc
integer_utf8 (b ∷ bs) h = IsUtf8-from_ascii (b ∷ bs) (signed_utf8_by b bs (b == 45) refl (and_left (is_natural (without_minus (b ∷ bs))) (not (bytes_eq (b ∷ bs) (codes "-0"))) h))

fits_true : (z : ℤ) → SFits w64 z → is_signed_64 z ≡ true
fits_true (pos n) fits = let small : n < 9223372036854775808 = fits.sfits in grind (arith, nat_tests)
fits_true (negsuc n) fits = let small : n < 9223372036854775808 = fits.sfits in grind (arith, nat_tests)

nat_lt_from : (m n : ℕ) → nat_lt m n ≡ true → m < n
nat_lt_from m n h = grind (arith, nat_tests)

fits_from : (z : ℤ) → is_signed_64 z ≡ true → SFits w64 z
fits_from (pos n) h = record { sfits = nat_lt_from n 9223372036854775808 h }
fits_from (negsuc n) h = record { sfits = nat_lt_from n 9223372036854775808 h }

within_fits : (z : ℤ) → SFits w64 z → integer_within (Some z) ≡ Some z
within_fits z fits = rw (fits_true z fits) refl

within_past_by : (z : ℤ) (t : Bool) → is_signed_64 z ≡ t → ¬ (SFits w64 z) → (if t then Some z else None) ≡ None
within_past_by z true is past = absurd (past (fits_from z is))
within_past_by z false is past = refl

parsed_integer : {E : Type 0} (z : ℤ) (P : Type 0) → P → (r : Result ℤ E) → OkIff r (P × SFits w64 z) z → result_ok r ≡ integer_within (Some z)
parsed_integer z P p (Ok x) parsed = ap Some parsed.1 ∙ sym (within_fits z parsed.0.1)
parsed_integer z P p (Err e) parsed = sym (within_past_by z (is_signed_64 z) refl (λ fits. parsed (p, fits)))

integer_value : (w : List ℕ) → is_integer w ≡ true → integer_of w ≡ Some (signed_digits_value 10 w)
integer_value w h = rw h refl

pub integer_parsed : {E : Type 0} (w : List ℕ) (r : Result ℤ E) → is_integer w ≡ true → ParsesSigned w64 10 w r → result_ok r ≡ integer_within (integer_of w)
integer_parsed w r h parsed =
    let numeral = signed_numeral w (and_left (is_natural (without_minus w)) (not (bytes_eq w (codes "-0"))) h) in
    rw (integer_value w h) (parsed_integer (signed_digits_value 10 w) (IsNumeral 10 (without_leading_sign w)) numeral r parsed)
