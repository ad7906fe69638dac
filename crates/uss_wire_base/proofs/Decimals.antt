-- Decimal digits: how large a number they write.
use Rattle.std.proofs.Common.{◌≡◌, ℕ, ◌+◌, ◌*◌, ◌-◌, ◌^◌, ◌<◌, ◌≤◌, zero, suc, Bool, true, false, List, [], ◌∷◌, length, get_or, take, refl, sym, ap, ◌∙◌, subst, arith, lit≤, lit<, mul-zero}
use Rattle.std.proofs.Math.Nat.{mul-lt-mul_of_pos_right}
use Rattle.std.proofs.lemmas.List.{take_all}
use Rattle.std.specs.Prelude.{◌&&◌}
use Rattle.std.specs.List.{list_all}
use Rattle.std.specs.Char.{is_ascii_digit, digit_value}
use Rattle.std.specs.Str.Parse.{AllDigits, digits_value}
use Rattle.std.proofs.lemmas.Bool.Decides.{nat_tests}
use Rattle.std.proofs.lemmas.Int.Digits.{digits_value-lt, digits_value_more}
use Rattle.std.proofs.lemmas.Str.Parse.{digits_value-take-le}
use Rattle.std.proofs.lemmas.Nat.{pow-add}

pub and_left : (a b : Bool) → (a && b) ≡ true → a ≡ true
and_left true b h = refl
and_left false b h = h

pub and_right : (a b : Bool) → (a && b) ≡ true → b ≡ true
and_right true b h = h
and_right false b h = cc

digit_small : (c : ℕ) → is_ascii_digit c ≡ true → digit_value c < 10
digit_small c h = grind (arith, nat_tests)

pub all_digits : (w : List ℕ) → list_all is_ascii_digit w ≡ true → AllDigits 10 w
all_digits [] h = tt
all_digits (c ∷ cs) h = (digit_small c (and_left (is_ascii_digit c) (list_all is_ascii_digit cs) h), all_digits cs (and_right (is_ascii_digit c) (list_all is_ascii_digit cs) h))

digit_is : (c : ℕ) → is_ascii_digit c ≡ true → digit_value c + 48 ≡ c
digit_is c h = grind (arith, nat_tests)

pub digit_at : (w : List ℕ) (i : ℕ) → list_all is_ascii_digit w ≡ true → i < length w → digit_value (get_or w i 0) + 48 ≡ get_or w i 0
digit_at [] i h inside = absurd (omega arith)
digit_at (c ∷ cs) zero h inside = digit_is c (and_left (is_ascii_digit c) (list_all is_ascii_digit cs) h)
digit_at (c ∷ cs) (suc i) h inside = digit_at cs i (and_right (is_ascii_digit c) (list_all is_ascii_digit cs) h) (omega arith)

pub power_le : (k : ℕ) → k ≤ 9 → 10 ^ k ≤ 1_000_000_000
power_le k few = let split = pow-add 10 k (9 - k) in let e : k + (9 - k) ≡ 9 = omega arith in grind (arith, ap (λ n. 10 ^ n) e)

pub digits_bound : (w : List ℕ) → list_all is_ascii_digit w ≡ true → digits_value 10 w < 10 ^ length w
digits_bound w h = digits_value-lt 10 w (all_digits w h)

-- one more digit
pub record Further (w : List ℕ) (i : ℕ) : Type 0 where
  pub digit : 48 ≤ get_or w i 0
  pub value : digits_value 10 (take (i + 1) w) ≡ digits_value 10 (take i w) * 10 + (get_or w i 0 - 48)
  pub bound : digits_value 10 (take i w) * 10 + (get_or w i 0 - 48) < 1_000_000_000

pub further : (w : List ℕ) (i : ℕ) → list_all is_ascii_digit w ≡ true → length w ≤ 9 → i < length w → Further w i
further w i digits few inside =
    let d = digit_at w i digits inside in
    let m = digits_value_more 10 w i inside in
    let v : digits_value 10 (take (i + 1) w) ≡ digits_value 10 (take i w) * 10 + (get_or w i 0 - 48) = omega arith in
    let t = digits_value-take-le 10 w (i + 1) (lit≤ tt) in
    let b = digits_bound w digits in
    let p = power_le (length w) few in
    record { digit = omega arith; value = v; bound = omega arith }

pub number_bound : (w : List ℕ) (i n : ℕ) → list_all is_ascii_digit w ≡ true → length w ≤ i → n ≡ digits_value 10 (take i w) → n < 10 ^ length w
number_bound w i n digits past is = let b = digits_bound w digits in rw (is, take_all i w past) b

factor_positive : (a p q : ℕ) → a * p ≡ q → 0 < q → 0 < p
factor_positive a zero q is some = absurd (let none : a * 0 ≡ 0 = simp mul-zero in omega arith)
factor_positive a (suc p) q is some = omega arith

pub scaled_bound : (n k : ℕ) → k ≤ 9 → n < 10 ^ k → n * 10 ^ (9 - k) < 1_000_000_000
scaled_bound n k few small =
    let split = pow-add 10 k (9 - k) in
    let e : k + (9 - k) ≡ 9 = omega arith in
    let whole : 10 ^ k * 10 ^ (9 - k) ≡ 1_000_000_000 = sym split ∙ ap (λ m. 10 ^ m) e in
    subst (λ q. n * 10 ^ (9 - k) < q) whole (mul-lt-mul_of_pos_right small (factor_positive (10 ^ k) (10 ^ (9 - k)) 1_000_000_000 whole (lit< tt)))
