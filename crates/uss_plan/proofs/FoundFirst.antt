-- What the first that passes is.
use Rattle.std.proofs.Common.{◌≡◌, ℕ, zero, suc, ◌<◌, ◌+◌, Bool, true, false, List, [], ◌∷◌, Option, Some, None, refl, arith}
use Rattle.std.specs.Prelude.{slice_get, if◌then◌else◌}
use Rattle.std.proofs.lemmas.Bool.Decides.{nat_tests}
use Rattle.uss_plan.specs.Firsts.{first_from, first_passing}
use Rattle.uss_plan.specs.Best.{IsFirst, NonePasses, IsFirstOrNone}

module _ {X : Type 0} (test : X → Bool) where
  -- what is found from a place on stands in the list as far after its start
  abbrev IsFoundFrom : ℕ → List X → Option (ℕ × X) → Type 0
  IsFoundFrom n list (Some found) = (k : ℕ) × (found.0 ≡ n + k) × IsFirst test list k found.1
  IsFoundFrom n list None = NonePasses test list

  at_first : (x y : X) (xs : List X) → slice_get (x ∷ xs) zero ≡ Some y → test x ≡ false → test y ≡ false
  at_first x y xs s h = grind (arith, nat_tests)

  earlier : (x : X) (xs : List X) (k : ℕ) → test x ≡ false → ((i : ℕ) (y : X) → i < k → slice_get xs i ≡ Some y → test y ≡ false) → (i : ℕ) (y : X) → i < suc k → slice_get (x ∷ xs) i ≡ Some y → test y ≡ false
  earlier x xs k h before zero y l s = at_first x y xs s h
  earlier x xs k h before (suc i) y l s = before i y (omega arith) s

  later : (x : X) (xs : List X) → test x ≡ false → NonePasses test xs → NonePasses test (x ∷ xs)
  later x xs h none zero y s = at_first x y xs s h
  later x xs h none (suc i) y s = none i y s

  further : (n : ℕ) (x : X) (xs : List X) (o : Option (ℕ × X)) → test x ≡ false → IsFoundFrom (n + 1) xs o → IsFoundFrom n (x ∷ xs) o
  further n x xs (Some found) h (k, e, (at, passes, before)) = (suc k, omega (arith, e), (at, passes, earlier x xs k h before))
  further n x xs None h none = later x xs h none

  chosen : (n : ℕ) (x : X) (xs : List X) (b : Bool) → test x ≡ b → IsFoundFrom (n + 1) xs (first_from (n + 1) test xs) → IsFoundFrom n (x ∷ xs) (if b then Some (n, x) else first_from (n + 1) test xs)
  chosen n x xs true h rest = (0, omega arith, (refl, h, λ i y l s. absurd (omega arith)))
  chosen n x xs false h rest = further n x xs (first_from (n + 1) test xs) h rest

  found_from : (n : ℕ) (xs : List X) → IsFoundFrom n xs (first_from n test xs)
  found_from n [] = λ i y s. absurd (grind (arith, nat_tests))
  found_from n (x ∷ xs) = chosen n x xs (test x) refl (found_from (n + 1) xs)

  settled : (list : List X) (o : Option (ℕ × X)) → IsFoundFrom 0 list o → IsFirstOrNone test list o
  settled list (Some (place, x)) (k, e, first) =
      let same : place ≡ k = omega (arith, e) in
      rw same first
  settled list None none = none

  pub first_is_first : (list : List X) → IsFirstOrNone test list (first_passing test list)
  first_is_first list = settled list (first_passing test list) (found_from 0 list)
