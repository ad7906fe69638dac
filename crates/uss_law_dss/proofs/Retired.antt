-- Identifiers that were removed.
use Rattle.std.proofs.Common.{ℕ, suc, ◌+◌, ◌≤◌, ◌≡◌, ◌≢◌, Bool, true, false, cond, ◌||◌, ◌==◌, List, [], ◌∷◌, ◌++◌, length, filter, inl, inr, refl, ap, ◌∙◌, arith}
use Rattle.uss_intent.specs.Numbers.{is_one_of}
use Rattle.uss_law_dss.specs.Lists.{Has}
use Rattle.uss_law_dss.proofs.Lists.{length-filter_le}
use Rattle.uss_law_dss.proofs.Tests.{equal_number, unequal_number, left_false, right_true, neither}

pub pushed_out : (n m : ℕ) (ns : List ℕ) → is_one_of n ns ≡ false → m ≢ n → is_one_of n (ns ++ m ∷ []) ≡ false
pushed_out n m [] h d = rw (unequal_number m n d) refl
pushed_out n m (k ∷ ns) h d = let p = neither (k == n) (is_one_of n ns) h in left_false (k == n) _ p.0 (pushed_out n m ns p.1 d)

pub pushed_in : (n : ℕ) (ns : List ℕ) → is_one_of n (ns ++ n ∷ []) ≡ true
pushed_in n [] = rw (equal_number n n refl) refl
pushed_in n (k ∷ ns) = right_true (k == n) _ (pushed_in n ns)

pub pushed_before : (n m : ℕ) (ns : List ℕ) → is_one_of n ns ≡ true → is_one_of n (ns ++ m ∷ []) ≡ true
pushed_before n m [] h = cc
pushed_before n m (k ∷ ns) h = go (k == n) (pushed_before n m ns) h
  where
    go : (b : Bool) → (is_one_of n ns ≡ true → is_one_of n (ns ++ m ∷ []) ≡ true) → (b || is_one_of n ns) ≡ true → (b || is_one_of n (ns ++ m ∷ [])) ≡ true
    go true rec e = refl
    go false rec e = rec e

-- fewer are left, where one fails the test
pub length-filter_less : {X : Type 0} (p : X → Bool) (xs : List X) (x : X) → Has xs x → p x ≡ false → length (filter p xs) + 1 ≤ length xs
length-filter_less p [] x h f = absurd h
length-filter_less {X} p (y ∷ xs) x (inl e) f =
    let here : p y ≡ false = ap p e ∙ f in
    let len = length-filter_le p xs in
    rw here (omega arith)
length-filter_less {X} p (y ∷ xs) x (inr h) f = go (p y) (length-filter_less p xs x h f)
  where
    go : (b : Bool) → length (filter p xs) + 1 ≤ length xs → length (cond b (y ∷ filter p xs) (filter p xs)) + 1 ≤ suc (length xs)
    go true k = omega arith
    go false k = omega arith
