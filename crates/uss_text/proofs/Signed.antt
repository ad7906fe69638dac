-- The same of numbers with a sign.
use Rattle.std.proofs.Common.{◌≡◌, ℕ, ◌<◌, ◌^◌, zero, suc, Bool, true, false, not, List, [], ◌∷◌, get_or, Option, Some, None, ℤ, pos, negsuc, neg_ℤ, refl, sym, ap, subst, ◌∙◌, arith}
use Rattle.std.specs.Prelude.{nat_lt, ◌==◌, bytes_eq, codes, IfSome, IsTrue, if◌then◌else◌}
use Rattle.std.specs.Fmt.{decimal, signed_decimal}
use Rattle.std.specs.Int.{IsInRange}
use Rattle.std.specs.Str.Parse.{AllDigits, digits_value, signed_digits_value}
use Rattle.std.proofs.lemmas.Bool.Decides.{nat_tests}
use Rattle.std.proofs.lemmas.Slice.Eq.{bytes_eq-Decides}
use Rattle.std.proofs.lemmas.Str.Parse.{digit_from_value, without_leading_plus_none}
use Rattle.std.proofs.lemmas.Fmt.{decimal_is_IsNumeral, decimal_digit, first_decimal}
use Rattle.uss_text.specs.Numbers.{is_natural, without_minus, is_integer, integer_of}
use Rattle.uss_text.specs.Reading.{is_signed_64, integer_within}
use Rattle.uss_text.proofs.Digits.{and_left, and_right, natural_numeral, no_plus}
use Rattle.uss_text.proofs.Decimal.{both, decimal_is_natural, natural_text}

false_by : (t : Bool) → (t ≡ true → ⊥) → t ≡ false
false_by true h = absurd (h refl)
false_by false h = refl

not_true : (t : Bool) → not t ≡ true → t ≡ true → ⊥
not_true true h k = cc
not_true false h k = cc

is_minus : (b : ℕ) → (b == 45) ≡ true → b ≡ 45
is_minus b h = grind (arith, nat_tests)

no_minus : (b : ℕ) → IsInRange 48 57 b → (b == 45) ≡ false
no_minus b h = grind (arith, nat_tests)

-- ---- digits without a sign
plain : (w : List ℕ) → AllDigits 10 w → without_minus w ≡ w
plain [] digits = refl
plain (c ∷ cs) digits = rw (no_minus c (digit_from_value c digits.0)) refl

digits_not_minus_zero : (w : List ℕ) → AllDigits 10 w → w ≡ codes "-0" → ⊥
digits_not_minus_zero w digits is =
    let there : AllDigits 10 (codes "-0") = subst (AllDigits 10) is digits in
    let first : IsInRange 48 57 45 = digit_from_value 45 there.0 in omega arith

unequal : (w : List ℕ) → (w ≡ codes "-0" → ⊥) → not (bytes_eq w (codes "-0")) ≡ true
unequal w other = rw (false_by (bytes_eq w (codes "-0")) (λ same. other ((bytes_eq-Decides w (codes "-0")).0 same))) refl

natural_integer : (w : List ℕ) → is_natural w ≡ true → is_integer w ≡ true
natural_integer w h =
    let digits = (natural_numeral w h).1 in
    both (is_natural (without_minus w)) (not (bytes_eq w (codes "-0"))) (rw (plain w digits) h) (unequal w (digits_not_minus_zero w digits))

plain_value : (w : List ℕ) → AllDigits 10 w → signed_digits_value 10 w ≡ pos (digits_value 10 w)
plain_value [] digits = refl
plain_value (c ∷ cs) digits = rw (no_minus c (digit_from_value c digits.0), without_leading_plus_none (c ∷ cs) (no_plus (c ∷ cs) digits)) refl

natural_read : (w : List ℕ) → is_natural w ≡ true → integer_of w ≡ Some (pos (digits_value 10 w))
natural_read w h = rw (natural_integer w h) (ap Some (plain_value w (natural_numeral w h).1))

-- ---- digits after a sign
behind_minus : (n : ℕ) → suc n < 2 ^ 64 → 45 ∷ decimal (suc n) ≡ codes "-0" → ⊥
behind_minus n small is =
    let zero_text : decimal (suc n) ≡ 48 ∷ [] = cc in
    let first : 48 < get_or (decimal (suc n)) 0 0 = first_decimal (suc n) (omega arith) small in
    let at : get_or (decimal (suc n)) 0 0 ≡ 48 = ap (λ (w : List ℕ). get_or w 0 0) zero_text in omega arith

minus_read : (n : ℕ) → suc n < 2 ^ 64 → integer_of (45 ∷ decimal (suc n)) ≡ Some (negsuc n)
minus_read n small =
    let is : is_integer (45 ∷ decimal (suc n)) ≡ true = both (is_natural (decimal (suc n))) (not (bytes_eq (45 ∷ decimal (suc n)) (codes "-0"))) (decimal_is_natural (suc n) small) (unequal (45 ∷ decimal (suc n)) (behind_minus n small)) in
    rw is (ap (λ (v : ℕ). Some (neg_ℤ (pos v))) (decimal_is_IsNumeral (suc n) small).1)

nat_lt_from : (m n : ℕ) → nat_lt m n ≡ true → m < n
nat_lt_from m n h = grind (arith, nat_tests)

-- the decimal text of a number is a number's word, ..
pub text_read : (z : ℤ) → is_signed_64 z ≡ true → integer_of (signed_decimal z) ≡ Some z
text_read (pos n) h =
    let small : n < 9223372036854775808 = nat_lt_from n 9223372036854775808 h in
    natural_read (decimal n) (decimal_is_natural n (omega arith)) ∙ ap (λ (v : ℕ). Some (pos v)) (decimal_is_IsNumeral n (omega arith)).1
text_read (negsuc n) h =
    let small : n < 9223372036854775808 = nat_lt_from n 9223372036854775808 h in minus_read n (omega arith)

plain_by : (w : List ℕ) (z : ℤ) → is_natural w ≡ true → integer_of w ≡ Some z → is_signed_64 z ≡ true → w ≡ signed_decimal z
plain_by w z h is fits = ends (digits_value 10 w) refl
  where
    ends : (v : ℕ) → digits_value 10 w ≡ v → w ≡ signed_decimal z
    ends v same =
        let told : pos v ≡ z = (let read : Some (pos (digits_value 10 w)) ≡ Some z = sym (natural_read w h) ∙ is in cc) in
        let small : v < 9223372036854775808 = nat_lt_from v 9223372036854775808 (ap is_signed_64 told ∙ fits) in
        natural_text w h (omega arith) ∙ ap decimal same ∙ ap signed_decimal told

minus_by : (bs : List ℕ) (v : ℕ) (z : ℤ) → is_natural bs ≡ true → (45 ∷ bs ≡ codes "-0" → ⊥) → digits_value 10 bs ≡ v → neg_ℤ (pos v) ≡ z → is_signed_64 z ≡ true → 45 ∷ bs ≡ signed_decimal z
minus_by bs zero z h other same is fits = absurd (other (ap (λ (w : List ℕ). 45 ∷ w) (natural_text bs h (omega arith) ∙ ap decimal same ∙ decimal_digit 0 (omega arith))))
minus_by bs (suc m) z h other same is fits =
    let small : m < 9223372036854775808 = nat_lt_from m 9223372036854775808 (ap is_signed_64 is ∙ fits) in
    ap (λ (w : List ℕ). 45 ∷ w) (natural_text bs h (omega arith) ∙ ap decimal same) ∙ ap signed_decimal is

some_same : (test : Bool) (y z : ℤ) → (if test then Some y else None) ≡ Some z → (test ≡ true) × (y ≡ z)
some_same true y z h = (refl, cc)
some_same false y z h = cc

signed_by : (b : ℕ) (bs : List ℕ) (z : ℤ) (t : Bool) → (b == 45) ≡ t → integer_of (b ∷ bs) ≡ Some z → is_signed_64 z ≡ true → b ∷ bs ≡ signed_decimal z
signed_by b bs z true minus is fits =
    let sign : b ≡ 45 = is_minus b minus in
    let read : integer_of (45 ∷ bs) ≡ Some z = subst (λ (c : ℕ). integer_of (c ∷ bs) ≡ Some z) sign is in
    let parts = some_same (is_integer (45 ∷ bs)) (neg_ℤ (pos (digits_value 10 bs))) z read in
    let natural = and_left (is_natural bs) (not (bytes_eq (45 ∷ bs) (codes "-0"))) parts.0 in
    let other = and_right (is_natural bs) (not (bytes_eq (45 ∷ bs) (codes "-0"))) parts.0 in
    ap (λ (c : ℕ). c ∷ bs) sign ∙ minus_by bs (digits_value 10 bs) z natural (λ same. not_true (bytes_eq (45 ∷ bs) (codes "-0")) other ((bytes_eq-Decides (45 ∷ bs) (codes "-0")).1 same)) refl parts.1 fits
signed_by b bs z false minus is fits =
    let parts = some_same (is_integer (b ∷ bs)) (signed_digits_value 10 (b ∷ bs)) z is in
    let whole : without_minus (b ∷ bs) ≡ b ∷ bs = rw minus refl in
    let natural = and_left (is_natural (without_minus (b ∷ bs))) (not (bytes_eq (b ∷ bs) (codes "-0"))) parts.0 in
    plain_by (b ∷ bs) z (subst (λ (w : List ℕ). is_natural w ≡ true) whole natural) is fits

-- .. and the only one of it
pub read_text : (w : List ℕ) (z : ℤ) → integer_of w ≡ Some z → is_signed_64 z ≡ true → w ≡ signed_decimal z
read_text [] z is fits = cc
read_text (b ∷ bs) z is fits = signed_by b bs z (b == 45) refl is fits

within_by : (y z : ℤ) (t : Bool) → is_signed_64 y ≡ t → (if t then Some y else None) ≡ Some z → (y ≡ z) × (is_signed_64 z ≡ true)
within_by y z true h is = let same : y ≡ z = cc in (same, sym (ap is_signed_64 same) ∙ h)
within_by y z false h is = cc

within_parts : (o : Option ℤ) (z : ℤ) → integer_within o ≡ Some z → (o ≡ Some z) × (is_signed_64 z ≡ true)
within_parts None z is = cc
within_parts (Some y) z is = let h = within_by y z (is_signed_64 y) refl is in (ap Some h.0, h.1)

pub found : (w : List ℕ) (r : Option ℤ) → r ≡ integer_within (integer_of w) → IfSome r (λ z. w ≡ signed_decimal z)
found w None is = tt
found w (Some z) is = let h = within_parts (integer_of w) z (sym is) in read_text w z h.0 h.1

pub every : (w : List ℕ) (r : Option ℤ) → r ≡ integer_within (integer_of w) → (z : ℤ) → IsTrue (is_signed_64 z) → w ≡ signed_decimal z → r ≡ Some z
every w r is z fits same = is ∙ ap (λ (v : List ℕ). integer_within (integer_of v)) same ∙ ap integer_within (text_read z fits) ∙ rw fits refl
