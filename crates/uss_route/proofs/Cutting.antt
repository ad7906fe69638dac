-- The bytes before the first of a kind.
use Rattle.std.proofs.Common.{◌≡◌, ℕ, zero, suc, ◌<◌, ◌≤◌, Bool, true, false, List, [], ◌∷◌, length, get_or, take, refl, sym, ap, ◌∙◌, arith, cond}
use Rattle.std.specs.Prelude.{◌&&◌, ◌==◌, not}
use Rattle.std.specs.List.{list_all, take_while}
use Rattle.std.proofs.lemmas.List.Sums.{take_while-cons}
use Rattle.std.proofs.lemmas.Bool.Decides.{nat_tests}
use Rattle.uss_route.specs.Routes.{before}

all_head : (a b : Bool) → (a && b) ≡ true → a ≡ true
all_head true b e = refl
all_head false b e = e

all_tail : (a b : Bool) → (a && b) ≡ true → b ≡ true
all_tail true b e = e
all_tail false b e = absurd (cc)

-- so many bytes that pass are all before the first that doesn't
pub before_is : (p : ℕ → Bool) (bytes : List ℕ) (n : ℕ) → n ≤ length bytes → list_all p (take n bytes) ≡ true → (n < length bytes → p (get_or bytes n 0) ≡ false) → take n bytes ≡ take_while p bytes
before_is p [] zero within all end = refl
before_is p [] (suc n) within all end = refl
before_is p (b ∷ bs) zero within all end = sym (take_while-cons p b bs ∙ ap (λ (t : Bool). cond t (b ∷ take_while p bs) []) (end (omega arith)))
before_is p (b ∷ bs) (suc n) within all end =
    ap (λ (l : List ℕ). b ∷ l) (before_is p bs n (omega arith) (all_tail (p b) (list_all p (take n bs)) all) (λ lt. end (omega arith)))
    ∙ sym (take_while-cons p b bs ∙ ap (λ (t : Bool). cond t (b ∷ take_while p bs) []) (all_head (p b) (list_all p (take n bs)) all))

same_byte : (b sep : ℕ) → b ≡ sep → not (b == sep) ≡ false
same_byte b sep same = grind (arith, nat_tests)

-- the same of the bytes before a separator
pub before_separator : (bytes : List ℕ) (sep n : ℕ) → n ≤ length bytes → list_all (λ b. not (b == sep)) (take n bytes) ≡ true → (n < length bytes → get_or bytes n 0 ≡ sep) → take n bytes ≡ before sep bytes
before_separator bytes sep n within all end = before_is (λ b. not (b == sep)) bytes n within all (λ lt. same_byte (get_or bytes n 0) sep (end lt))
