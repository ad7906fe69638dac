-- Different landings have different OVNs, and each of them is an OVN.
use Rattle.std.proofs.Common.{ℕ, zero, suc, ◌<◌, ◌+◌, ◌*◌, ◌/◌, ◌%◌, ◌^◌, Bool, true, List, [], ◌∷◌, ◌++◌, ◌≡◌, length, refl, arith, length-append}
use Rattle.std.specs.Char.{digit_value, is_ascii_digit}
use Rattle.std.specs.List.{list_all}
use Rattle.std.specs.Str.{all_ascii_digits}
use Rattle.std.specs.Str.Parse.{digits_value}
use Rattle.std.proofs.lemmas.Int.Digits.{digits_value_push}
use Rattle.std.proofs.lemmas.Bool.Decides.{nat_tests}
use Rattle.std.proofs.lemmas.List.{same_from_push}
use Rattle.std.proofs.Math.Nat.{pow-succ'}
use Rattle.uss_intent.specs.Texts.{is_visible, IsOvn}
use Rattle.uss_law_dss.specs.Service.{digits, ovn_of}
use Rattle.uss_law_dss.specs.Grows.{IsOvnOf}
use Rattle.uss_law_dss.proofs.Tests.{and_true, both}

digits_same : (k m n : ℕ) → m < 10 ^ k → n < 10 ^ k → digits k m ≡ digits k n → m ≡ n
digits_same zero m n a b h = omega arith
digits_same (suc k) m n a b h =
    let e = same_from_push (digits k (m / 10)) (digits k (n / 10)) (48 + m % 10) (48 + n % 10) h in
    let p : 10 ^ suc k ≡ 10 * 10 ^ k = pow-succ' 10 k in
    let q : m / 10 ≡ n / 10 = digits_same k (m / 10) (n / 10) (omega arith) (omega arith) e.0 in
    omega (arith, e.1)

pub ovns_differ : (m n : ℕ) → m < 10 ^ 16 → n < 10 ^ 16 → ovn_of m ≡ ovn_of n → m ≡ n
unfolding ovn_of
ovns_differ m n a b h = digits_same 16 m n a b (cc)

all_append : (p : ℕ → Bool) (xs ys : List ℕ) → list_all p xs ≡ true → list_all p ys ≡ true → list_all p (xs ++ ys) ≡ true
all_append p [] ys a b = b
all_append p (x ∷ xs) ys a b = let h = both (p x) (list_all p xs) a in and_true (p x) (list_all p (xs ++ ys)) h.0 (all_append p xs ys h.1 b)

visible_digit : (n : ℕ) → is_visible (48 + n % 10) ≡ true
visible_digit n = grind (arith, nat_tests)

visible_digits : (k n : ℕ) → list_all is_visible (digits k n) ≡ true
visible_digits zero n = refl
visible_digits (suc k) n = all_append is_visible (digits k (n / 10)) ((48 + n % 10) ∷ []) (visible_digits k (n / 10)) (and_true (is_visible (48 + n % 10)) true (visible_digit n) refl)

pub ovn_is_ovn : (n : ℕ) → IsOvn (ovn_of n)
unfolding ovn_of
ovn_is_ovn n = visible_digits 16 n

-- ---- the digits of a number

digits_long : (k n : ℕ) → length (digits k n) ≡ k
digits_long zero n = refl
digits_long (suc k) n = let l = digits_long k (n / 10) in let m = length-append (digits k (n / 10)) ((48 + n % 10) ∷ []) in omega arith

decimal_append : (xs ys : List ℕ) → all_ascii_digits xs ≡ true → all_ascii_digits ys ≡ true → all_ascii_digits (xs ++ ys) ≡ true
decimal_append [] ys a b = b
decimal_append (x ∷ xs) ys a b = let h = both (is_ascii_digit x) (all_ascii_digits xs) a in and_true (is_ascii_digit x) (all_ascii_digits (xs ++ ys)) h.0 (decimal_append xs ys h.1 b)

decimal_digit : (n : ℕ) → is_ascii_digit (48 + n % 10) ≡ true
decimal_digit n = grind (arith, nat_tests)

digits_decimal : (k n : ℕ) → all_ascii_digits (digits k n) ≡ true
digits_decimal zero n = refl
digits_decimal (suc k) n = decimal_append (digits k (n / 10)) ((48 + n % 10) ∷ []) (digits_decimal k (n / 10)) (and_true (is_ascii_digit (48 + n % 10)) true (decimal_digit n) refl)

value_of_digit : (d : ℕ) → d < 10 → digit_value (48 + d) ≡ d
value_of_digit d l = grind (arith, nat_tests)

digits_number : (k n : ℕ) → n < 10 ^ k → digits_value 10 (digits k n) ≡ n
digits_number zero n l = omega arith
digits_number (suc k) n l =
    let p : 10 ^ suc k ≡ 10 * 10 ^ k = pow-succ' 10 k in
    let q = digits_number k (n / 10) (omega arith) in
    let v = value_of_digit (n % 10) (omega arith) in
    let e = digits_value_push 10 (digits k (n / 10)) (48 + n % 10) in
    omega arith

pub ovn_is_of : (n : ℕ) → n < 10 ^ 16 → IsOvnOf n (ovn_of n)
unfolding ovn_of
ovn_is_of n l = record { digits = digits 16 n; is = refl; sixteen = digits_long 16 n; decimal = digits_decimal 16 n; number = digits_number 16 n l }
