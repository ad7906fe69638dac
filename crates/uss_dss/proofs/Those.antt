-- What is looked up by ascending numbers is what a filter finds.
use Rattle.std.proofs.Common.{◌≡◌, ℕ, ◌<◌, ◌≤◌, ◌==◌, Bool, true, false, ◌||◌, List, [], ◌∷◌, ◌++◌, Option, Some, None, Bor, map, append-nil, refl, sym, ap, ◌∙◌, arith}
use Rattle.std.proofs.lemmas.List.{map-append}
use Rattle.std.specs.List.{find, filter, list_any, AllByRecursion}
use Rattle.std.specs.List.Sorted.{IsStrictlySortedBy}
use Rattle.std.specs.Option.{option_to_list}
use Rattle.std.specs.Ordering.{nat_cmp}
use Rattle.std.specs.BTreeMap.{is_at}
use Rattle.std.specs.declared.cmp.Ordering.{Ordering}
use Rattle.std.specs.declared.cmp.Ordering.TheVariants.{Less, Equal, Greater}
use Rattle.std.proofs.lemmas.Bool.Decides.{nat_tests}
use Rattle.uss_law_dss.specs.Orderly.{AllAbove, Ascend}
use Rattle.uss_dss.specs.Located.{those_of}

not_at : (m k : ℕ) → m < k → is_at (nat_cmp m) k ≡ false
not_at m k h = grind (arith, nat_tests)

not_after : (m k : ℕ) → k < m → is_at (nat_cmp m) k ≡ false
not_after m k h = grind (arith, nat_tests)

-- a number that is at most k isn't among greater ones
not_in : (m k : ℕ) (ks : List ℕ) → m ≤ k → AllByRecursion (λ y. nat_cmp k y ≡ Less) ks → list_any (is_at (nat_cmp m)) ks ≡ false
not_in m k [] h a = refl
not_in m k (y ∷ ys) h a =
    let less : k < y = (let first = a.0 in grind (arith, nat_tests)) in
    rw (not_at m y (omega (arith, h, less))) (not_in m k ys h a.1)

module _ {X : Type 0} (number : X → ℕ) where
  -- one of greater numbers isn't found by k
  none_beyond : (k n : ℕ) (xs : List X) → k ≤ n → AllAbove number n xs → find (λ x. number x == k) xs ≡ None
  none_beyond k n [] h a = refl
  none_beyond k n (x ∷ xs) h a =
      let less : n < number x = a.0 in
      let other : (number x == k) ≡ false = grind (arith, nat_tests) in
      rw other (none_beyond k n xs h a.1)

  beyond_at : (k : ℕ) (ks : List ℕ) (x : X) (xs : List X) (b : Bool) → is_at (nat_cmp (number x)) k ≡ false → list_any (is_at (nat_cmp (number x))) ks ≡ b
      → filter (λ x. is_at (nat_cmp (number x)) k || list_any (is_at (nat_cmp (number x))) ks) xs ≡ filter (λ x. list_any (is_at (nat_cmp (number x))) ks) xs
      → filter (λ x. is_at (nat_cmp (number x)) k || list_any (is_at (nat_cmp (number x))) ks) (x ∷ xs) ≡ filter (λ x. list_any (is_at (nat_cmp (number x))) ks) (x ∷ xs)
  beyond_at k ks x xs true e f rest = rw (e, f) (ap (λ ys. x ∷ ys) rest)
  beyond_at k ks x xs false e f rest = rw (e, f) rest

  beyond : (k n : ℕ) (ks : List ℕ) (xs : List X) → k ≤ n → AllAbove number n xs
      → filter (λ x. is_at (nat_cmp (number x)) k || list_any (is_at (nat_cmp (number x))) ks) xs ≡ filter (λ x. list_any (is_at (nat_cmp (number x))) ks) xs
  beyond k n ks [] h a = refl
  beyond k n ks (x ∷ xs) h a =
      let less : n < number x = a.0 in
      beyond_at k ks x xs (list_any (is_at (nat_cmp (number x))) ks) (not_after (number x) k (omega (arith, h, less))) refl (beyond k n ks xs h a.1)

  front_at : (k : ℕ) (ks : List ℕ) (x : X) (xs : List X) (o : Ordering) → nat_cmp (number x) k ≡ o → AllByRecursion (λ y. nat_cmp k y ≡ Less) ks → Ascend number (x ∷ xs)
      → option_to_list (find (λ x. number x == k) xs) ++ filter (λ x. list_any (is_at (nat_cmp (number x))) ks) xs ≡ filter (λ x. is_at (nat_cmp (number x)) k || list_any (is_at (nat_cmp (number x))) ks) xs
      → option_to_list (find (λ x. number x == k) (x ∷ xs)) ++ filter (λ x. list_any (is_at (nat_cmp (number x))) ks) (x ∷ xs)
      ≡ filter (λ x. is_at (nat_cmp (number x)) k || list_any (is_at (nat_cmp (number x))) ks) (x ∷ xs)
  front_at k ks x xs Less o a up rest =
      let other : (number x == k) ≡ false = grind (arith, nat_tests) in
      let at : is_at (nat_cmp (number x)) k ≡ false = grind (arith, nat_tests) in
      let less : number x ≤ k = grind (arith, nat_tests) in
      rw (at, other, not_in (number x) k ks less a) rest
  front_at k ks x xs Equal o a up rest =
      let here : (number x == k) ≡ true = grind (arith, nat_tests) in
      let at : is_at (nat_cmp (number x)) k ≡ true = grind (arith, nat_tests) in
      let less : number x ≤ k = grind (arith, nat_tests) in
      let more : k ≤ number x = grind (arith, nat_tests) in
      rw (at, here, not_in (number x) k ks less a) (ap (λ ys. x ∷ ys) (sym (beyond k (number x) ks xs more up.0)))
  front_at k ks x xs Greater o a up rest =
      let other : (number x == k) ≡ false = grind (arith, nat_tests) in
      let more : k ≤ number x = grind (arith, nat_tests) in
      let strictly : k < number x = grind (arith, nat_tests) in
      let none : find (λ x. number x == k) (x ∷ xs) ≡ None = rw other (none_beyond k (number x) xs more up.0) in
      ap (λ w. option_to_list w ++ filter (λ x. list_any (is_at (nat_cmp (number x))) ks) (x ∷ xs)) none
      ∙ (sym (beyond_at k ks x xs (list_any (is_at (nat_cmp (number x))) ks) (not_after (number x) k strictly) refl (beyond k (number x) ks xs more up.0)))

  front : (k : ℕ) (ks : List ℕ) (xs : List X) → AllByRecursion (λ y. nat_cmp k y ≡ Less) ks → Ascend number xs
      → option_to_list (find (λ x. number x == k) xs) ++ filter (λ x. list_any (is_at (nat_cmp (number x))) ks) xs ≡ filter (λ x. is_at (nat_cmp (number x)) k || list_any (is_at (nat_cmp (number x))) ks) xs
  front k ks [] a up = refl
  front k ks (x ∷ xs) a up = front_at k ks x xs (nat_cmp (number x) k) refl a up (front k ks xs a up.1)

  nothing : (xs : List X) → [] ≡ filter (λ (x : X). false) xs
  nothing [] = refl
  nothing (x ∷ xs) = nothing xs

  pub those_are : (ks : List ℕ) (xs : List X) → IsStrictlySortedBy nat_cmp ks → Ascend number xs → those_of number ks xs ≡ filter (λ x. list_any (is_at (nat_cmp (number x))) ks) xs
  unfolding IsStrictlySortedBy
  those_are [] xs s up = nothing xs
  those_are (k ∷ ks) xs s up = ap (λ ys. option_to_list (find (λ x. number x == k) xs) ++ ys) (those_are ks xs s.1 up) ∙ front k ks xs s.0 up

  -- what is found when nothing is left
  pub ended : (found xs : List X) (left ks : List ℕ) → found ++ those_of number left xs ≡ those_of number ks xs → left ≡ [] → IsStrictlySortedBy nat_cmp ks → Ascend number xs
      → found ≡ filter (λ x. list_any (is_at (nat_cmp (number x))) ks) xs
  ended found xs left ks e none s up =
      sym (append-nil found) ∙ ap (λ l. found ++ those_of number l xs) (sym none) ∙ e ∙ those_are ks xs s up

-- one more is found, or none
pub pushed : {X : Type 0} (xs ys : List (Bor X)) (r : Bor X) (w : Option X) → ys ≡ xs ++ r ∷ [] → Some r.now ≡ w → map (λ x. x.now) ys ≡ map (λ x. x.now) xs ++ option_to_list w
pushed {X} xs ys r w e f = ap (map (λ (x : Bor X). x.now)) e ∙ map-append (λ (x : Bor X). x.now) xs (r ∷ []) ∙ ap (λ o. map (λ (x : Bor X). x.now) xs ++ option_to_list o) f

pub not_pushed : {X : Type 0} (xs : List (Bor X)) (w : Option X) → None ≡ w → map (λ x. x.now) xs ≡ map (λ x. x.now) xs ++ option_to_list w
not_pushed {X} xs w f = sym (append-nil (map (λ (x : Bor X). x.now) xs)) ∙ ap (λ o. map (λ (x : Bor X). x.now) xs ++ option_to_list o) f
