-- Signed numbers that are compared by their bits.
use Rattle.std.proofs.Common.{◌≡◌, true, false, sym, ◌∙◌, ap, arith, ℤ, pos, neg_ℤ, ◌+ℤ◌, eqb}
use Rattle.std.specs.Prelude.{◌≤ℤ◌, ◌<ℤ◌}
use lib.Signed.{lt_z}
use Rattle.uss_index.proofs.Tests.{lt_is}
use Rattle.std.specs.Ordering.{int_eq}
use Rattle.std.proofs.lemmas.Int.{ints, to_z-of_z}
use Rattle.std.proofs.lemmas.Bool.{eqb-true, eq-eqb, false_from_ne_true}
use Rattle.std.proofs.lemmas.Bool.Decides.{Decides-int_eq, same_from_decides}
use mir.Syntax.{w64}
use mir.Val.{of_z, to_z, SFits}

pub bits_same : (x y : ℤ) → SFits w64 x → SFits w64 y → of_z w64 x ≡ of_z w64 y → x ≡ y
bits_same x y f g e = sym (to_z-of_z w64 x f) ∙ ap (to_z w64) e ∙ to_z-of_z w64 y g

pub bits_answer : (x y : ℤ) → SFits w64 x → SFits w64 y → eqb (of_z w64 x) (of_z w64 y) ≡ int_eq x y
bits_answer x y f g =
    same_from_decides (eqb (of_z w64 x) (of_z w64 y)) (int_eq x y) (λ h. bits_same x y f g (eqb-true _ _ h), λ e. eq-eqb _ _ (ap (of_z w64) e)) (Decides-int_eq x y)

pub bits_differ : (x y : ℤ) → (of_z w64 x ≡ of_z w64 y → ⊥) → int_eq x y ≡ false
bits_differ x y h = false_from_ne_true (int_eq x y) (λ e. h (ap (of_z w64) ((Decides-int_eq x y).0 e)))

pub same_ints : (x y : ℤ) → x ≡ y → int_eq x y ≡ true
same_ints x y e = (Decides-int_eq x y).1 e

-- the next number fits, so far out
pub next_fits : (z : ℤ) → neg_ℤ (pos 10000000000000) ≤ℤ z → z ≤ℤ pos 10000000000000 → to_z w64 (of_z w64 (z +ℤ pos 1)) ≡ z +ℤ pos 1
next_fits z h k = omega (arith, ints)

-- the end of a loop up to and with t
abbrev pub end_of : ℤ → ℤ
end_of t = to_z w64 (of_z w64 (to_z w64 (of_z w64 t) +ℤ pos 1))

end_is : (t : ℤ) → neg_ℤ (pos 10000000000000) ≤ℤ t → t ≤ℤ pos 10000000000000 → end_of t ≡ t +ℤ pos 1
end_is t h k = omega (arith, ints)

pub before_end : (z t : ℤ) → neg_ℤ (pos 10000000000000) ≤ℤ t → t ≤ℤ pos 10000000000000 → lt_z z (end_of t) ≡ true → z ≤ℤ t
before_end z t h k l = let e : lt_z z (t +ℤ pos 1) ≡ true = rw (end_is t h k) at l in let i = (lt_is z (t +ℤ pos 1)).0 e in omega (arith, ints)

not_less : (s t : ℤ) → lt_z s t ≡ false → t ≤ℤ s
not_less s t h = grind (arith, ints)

pub past_end : (z t : ℤ) → neg_ℤ (pos 10000000000000) ≤ℤ t → t ≤ℤ pos 10000000000000 → lt_z z (end_of t) ≡ false → t <ℤ z
past_end z t h k l = let e : lt_z z (t +ℤ pos 1) ≡ false = rw (end_is t h k) at l in let i = not_less z (t +ℤ pos 1) e in omega (arith, ints)
