-- What the tests of the definitions tell.
use Rattle.std.proofs.Common.{ℕ, ◌<◌, ◌≤◌, ◌≡◌, ◌≢◌, Bool, true, false, not, ◌&&◌, ◌||◌, ◌==◌, nat_lt, nat_le, List, Option, Some, None, is_some, is_none, refl, sym, ◌∙◌, arith}
use Rattle.std.specs.Cmp.Lexicographic.{bytes_decides}
use Rattle.std.proofs.lemmas.Bool.Decides.{nat_tests}
use Rattle.uss_intent.specs.Same.{same_text}

pub same_number : (a b : ℕ) → (a == b) ≡ true → a ≡ b
same_number a b h = grind (arith, nat_tests)

pub equal_number : (a b : ℕ) → a ≡ b → (a == b) ≡ true
equal_number a b h = grind (arith, nat_tests)

pub other_number : (a b : ℕ) → (a == b) ≡ false → a ≢ b
other_number a b h = λ e. grind (arith, nat_tests)

pub unequal_number : (a b : ℕ) → a ≢ b → (a == b) ≡ false
unequal_number a b h = grind (arith, nat_tests)

pub less_is : (a b : ℕ) → nat_lt a b ≡ true → a < b
less_is a b h = grind (arith, nat_tests)

pub less_test : (a b : ℕ) → a < b → nat_lt a b ≡ true
less_test a b h = grind (arith, nat_tests)

pub not_less : (a b : ℕ) → nat_lt a b ≡ false → b ≤ a
not_less a b h = grind (arith, nat_tests)

pub not_le : (a b : ℕ) → nat_le a b ≡ false → b < a
not_le a b h = grind (arith, nat_tests)

pub le_is : (a b : ℕ) → nat_le a b ≡ true → a ≤ b
le_is a b h = grind (arith, nat_tests)

pub le_test : (a b : ℕ) → a ≤ b → nat_le a b ≡ true
le_test a b h = grind (arith, nat_tests)

pub same_bytes : (a b : List ℕ) → same_text a b ≡ true → a ≡ b
same_bytes a b h = (bytes_decides a b).0 h

pub equal_bytes : (a b : List ℕ) → a ≡ b → same_text a b ≡ true
equal_bytes a b h = (bytes_decides a b).1 h

pub not_false : (a : Bool) → not a ≡ false → a ≡ true
not_false true h = refl
not_false false h = cc

pub not_true : (a : Bool) → not a ≡ true → a ≡ false
not_true true h = cc
not_true false h = refl

pub both : (a b : Bool) → (a && b) ≡ true → (a ≡ true) × (b ≡ true)
both true b h = (refl, h)
both false b h = cc

pub and_true : (a b : Bool) → a ≡ true → b ≡ true → (a && b) ≡ true
and_true a b h k = rw (h, k) refl

pub second_false : (a b : Bool) → (a && b) ≡ false → a ≡ true → b ≡ false
second_false true b h e = h
second_false false b h e = cc

pub neither : (a b : Bool) → (a || b) ≡ false → (a ≡ false) × (b ≡ false)
neither true b h = cc
neither false b h = (refl, h)

pub either : (a b : Bool) → (a || b) ≡ true → (a ≡ false) → b ≡ true
either true b h e = cc
either false b h e = h

pub left_true : (a b : Bool) → a ≡ true → (a || b) ≡ true
left_true a b h = rw h refl

pub right_true : (a b : Bool) → b ≡ true → (a || b) ≡ true
right_true true b h = refl
right_true false b h = h

pub left_false : (a b : Bool) → a ≡ false → b ≡ false → (a || b) ≡ false
left_false a b h k = rw (h, k) refl

pub none_is : {X : Type 0} (o : Option X) → is_some o ≡ false → o ≡ None
none_is None h = refl
none_is (Some r) h = cc

pub some_is : {X : Type 0} (o : Option X) → is_none o ≡ false → (x : X) × (o ≡ Some x)
some_is None h = cc
some_is (Some r) h = (r, refl)

pub some_same : {X : Type 0} (x y : X) → Some x ≡ Some y → x ≡ y
some_same x y e = cc

pub not_both : {P : Type 0} (a : Bool) → a ≡ true → a ≡ false → P
not_both a t f = absurd (true_false (sym t ∙ f))
  where
    true_false : true ≡ false → ⊥
    true_false e = cc
