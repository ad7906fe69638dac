-- What a search by halves says of a list that ascends.
use Rattle.std.proofs.Common.{◌≡◌, ℕ, zero, suc, ◌<◌, ◌≤◌, ◌+◌, true, false, List, [], ◌∷◌, length, get_or, sym, arith, eqb, add-one, ⊎_elim}
use Rattle.std.specs.Prelude.{Result, Ok, Err}
use Rattle.std.specs.Ordering.{nat_cmp}
use Rattle.std.specs.Result.{is_ok}
use Rattle.std.specs.List.Sorted.{IsBinarySearchResult}
use Rattle.std.proofs.lemmas.Bool.{cases_order}
use Rattle.std.proofs.lemmas.Bool.Decides.{nat_tests, Decides-eqb}
use Rattle.std.proofs.lemmas.List.{get_or_default}
use Rattle.std.proofs.lemmas.List.Folds.{list_any_at, list_any_none}
use Rattle.std.proofs.lemmas.List.Sorted.{searched, IsNonDecreasingBy-from_all_adjacent}
use Rattle.uss_intent.specs.Numbers.{is_one_of}
use Rattle.uss_event.specs.Rules.{ascend, is_table}

-- the number at a place is at most the next
at_most_the_next : (xs : List ℕ) → ascend xs ≡ true → (k d : ℕ) → k + 1 < length xs → get_or xs k d ≤ get_or xs (k + 1) d
at_most_the_next [] h k d l = absurd (omega arith)
at_most_the_next (x ∷ []) h k d l = absurd (omega arith)
at_most_the_next (x ∷ (y ∷ ys)) h zero d l = grind (arith, nat_tests)
at_most_the_next (x ∷ (y ∷ ys)) h (suc k) d l =
    let rest : ascend (y ∷ ys) ≡ true = grind (arith, nat_tests) in
    let at : get_or (y ∷ ys) k d ≤ get_or (y ∷ ys) (k + 1) d = at_most_the_next (y ∷ ys) rest k d (omega arith) in
    simp add-one (simp add-one at at)

never_falls : (xs : List ℕ) → ascend xs ≡ true → (i j : ℕ) → i ≤ j → j < length xs → get_or xs i 0 ≤ get_or xs j 0
never_falls xs h i j = IsNonDecreasingBy-from_all_adjacent (λ x. x) xs (at_most_the_next xs h) i j 0

other : (x p : ℕ) → (x < p → eqb x p ≡ false) × (p < x → eqb x p ≡ false)
other x p = (λ l. grind (arith, nat_tests), λ l. grind (arith, nat_tests))

-- a search by halves finds exactly what is listed
search_tells : (xs : List ℕ) (p : ℕ) (found : Result ℕ ℕ) → ascend xs ≡ true → IsBinarySearchResult (λ y. nat_cmp y p) xs found → is_ok found ≡ is_one_of p xs
search_tells xs p (Ok i) h s =
    let at = searched xs p (Ok i) s (never_falls xs h) in
    sym (list_any_at (λ q. eqb q p) xs i 0 at.0 ((Decides-eqb (get_or xs i 0) p).1 at.1))
search_tells xs p (Err i) h s =
    let at = searched xs p (Err i) s (never_falls xs h) in
    let none : (k d : ℕ) → k < length xs → eqb (get_or xs k d) p ≡ false = λ k d l.
    let same = get_or_default xs k d 0 l in
    ⊎_elim
    (λ b. let higher = at.2 k (omega (arith, b)) l in (other (get_or xs k d) p).1 (omega (arith, same, higher)))
    (λ e. ⊎_elim
    (λ b. let lower = at.1 k b in (other (get_or xs k d) p).0 (omega (arith, same, lower)))
    (λ b. let higher = at.2 k (omega (arith, b)) l in (other (get_or xs k d) p).1 (omega (arith, same, higher)))
    e)
    (cases_order k i) in
    sym (list_any_none (λ q. eqb q p) xs none)

pub search_of_a_table : (xs : List ℕ) (p : ℕ) (found : Result ℕ ℕ) → is_table xs ≡ true → IsBinarySearchResult (λ y. nat_cmp y p) xs found → is_ok found ≡ is_one_of p xs
search_of_a_table xs p found h s =
    let up : ascend xs ≡ true = grind (arith, nat_tests) in
    search_tells xs p found up s
