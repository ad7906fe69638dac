-- What becomes of a list of priorities that is sorted and whose repeated ones are taken out.
use Rattle.std.proofs.Common.{◌≡◌, ℕ, ◌<◌, ◌+◌, true, false, List, [], ◌∷◌, refl, subst, sym, ◌∙◌, arith, leb, eqb, add-one}
use Rattle.std.specs.List.{list_any, dedup, All, Contains, Any}
use Rattle.std.specs.List.Sorted.{IsStrictlyIncreasing, IsPermutation, IsSorted}
use Rattle.std.specs.Ordering.{nat_cmp}
use Rattle.std.specs.Bool.{Decides}
use Rattle.std.proofs.lemmas.Bool.Decides.{nat_tests, same_from_decides, Decides-eqb}
use Rattle.std.proofs.lemmas.List.Folds.{Any-from_list_any, list_any-from_Any}
use Rattle.std.proofs.lemmas.List.Filters.{All-dedup}
use Rattle.std.proofs.lemmas.List.Kept.{Contains-dedup_nat, Contains-from_dedup}
use Rattle.std.proofs.lemmas.List.Sorted.{All-permutation, list_any-IsPermutation}
use Rattle.std.proofs.lemmas.List.Sums.{AllPass-from_list_all, list_all-from_AllPass}
use Rattle.std.proofs.lemmas.Map.Keys.{IsStrictlyIncreasing-dedup}
use Rattle.uss_intent.specs.Numbers.{is_one_of}
use Rattle.uss_event.specs.Rules.{ascend, is_too_great, are_in_range, is_table}

below_first : (x y : ℕ) (ys : List ℕ) → IsStrictlyIncreasing (x ∷ (y ∷ ys)) → x < y
below_first x y ys h = h 0 (omega arith)

increasing_tail : (x : ℕ) (xs : List ℕ) → IsStrictlyIncreasing (x ∷ xs) → IsStrictlyIncreasing xs
increasing_tail x xs h = λ k l. let at = h (k + 1) (omega arith) in simp add-one (simp add-one at at)

pub ascend-from_increasing : (xs : List ℕ) → IsStrictlyIncreasing xs → ascend xs ≡ true
ascend-from_increasing [] h = refl
ascend-from_increasing (x ∷ []) h = refl
ascend-from_increasing (x ∷ (y ∷ ys)) h =
    let first : x < y = below_first x y ys h in
    let rest : ascend (y ∷ ys) ≡ true = ascend-from_increasing (y ∷ ys) (increasing_tail x (y ∷ ys) h) in
    grind (arith, nat_tests)

listed_from_contained : (p : ℕ) (xs : List ℕ) → Contains xs p → is_one_of p xs ≡ true
listed_from_contained p xs (k, l, e) = list_any-from_Any (λ q. eqb q p) xs (k, p, l, e, (Decides-eqb p p).1 refl)

contained_from_listed : (p : ℕ) (xs : List ℕ) → is_one_of p xs ≡ true → Contains xs p
contained_from_listed p xs h =
    let found : Any (λ q. eqb q p ≡ true) xs = Any-from_list_any (λ q. eqb q p) xs h in
    let same : found.1 ≡ p = (Decides-eqb found.1 p).0 found.4 in
    subst (λ (q : ℕ). Contains xs q) same (found.0, found.2, found.3)

listed : (p : ℕ) (xs : List ℕ) → Decides (is_one_of p xs) (Contains xs p)
listed p xs = (contained_from_listed p xs, listed_from_contained p xs)

-- taking repeated ones out leaves the set as it was
pub listed_in_dedup : (p : ℕ) (xs : List ℕ) → is_one_of p (dedup eqb xs) ≡ is_one_of p xs
listed_in_dedup p xs =
    same_from_decides (is_one_of p (dedup eqb xs)) (is_one_of p xs)
    (λ h. Contains-from_dedup eqb xs p (contained_from_listed p (dedup eqb xs) h), λ h. listed_from_contained p (dedup eqb xs) (Contains-dedup_nat xs p h))
    (listed p xs)

-- so does sorting
pub listed_in_sorted : (p : ℕ) (xs ys : List ℕ) → IsPermutation xs ys → is_one_of p (dedup eqb ys) ≡ is_one_of p xs
listed_in_sorted p xs ys moved = listed_in_dedup p ys ∙ sym (list_any-IsPermutation (λ q. eqb q p) xs ys moved)

in_range : (xs : List ℕ) → are_in_range xs ≡ true → All (λ q. leb q 1000 ≡ true) xs
in_range xs h = AllPass-from_list_all (λ q. leb q 1000) xs h

range_of_sorted : (xs ys : List ℕ) → IsPermutation xs ys → are_in_range xs ≡ true → are_in_range (dedup eqb ys) ≡ true
range_of_sorted xs ys moved h =
    let P = λ (q : ℕ). leb q 1000 ≡ true in
    list_all-from_AllPass (λ q. leb q 1000) (dedup eqb ys) (All-dedup eqb P ys (All-permutation P xs ys moved (in_range xs h)))

-- both together make a table of rules
pub table_of_sorted : (xs ys : List ℕ) → IsPermutation xs ys → IsSorted nat_cmp ys → are_in_range xs ≡ true → is_table (dedup eqb ys) ≡ true
table_of_sorted xs ys moved sorted h =
    let up : ascend (dedup eqb ys) ≡ true = ascend-from_increasing (dedup eqb ys) (IsStrictlyIncreasing-dedup ys sorted) in
    let within : are_in_range (dedup eqb ys) ≡ true = range_of_sorted xs ys moved h in
    cc

-- a list without too great a priority is in range
pub in_range_without_too_great : (xs : List ℕ) → list_any is_too_great xs ≡ false → are_in_range xs ≡ true
in_range_without_too_great [] h = refl
in_range_without_too_great (x ∷ xs) h =
    let rest : list_any is_too_great xs ≡ false → are_in_range xs ≡ true = in_range_without_too_great xs in
    grind (arith, nat_tests)
