-- Sums over the jobs of a book.
use Rattle.std.proofs.Common.{ℕ, ◌+◌, ◌*◌, ◌<◌, ◌≤◌, ◌==◌, Bool, true, false, cond, not, ◌||◌, List, [], ◌∷◌, ◌++◌, ◌≡◌, inl, inr, filter, length, refl, ap, sym, subst, ◌∙◌, arith, zero, suc}
use Rattle.std.specs.Prelude.{sum_by}
use Rattle.std.specs.List.{range_with_len}
use Rattle.std.proofs.lemmas.Bool.Decides.{nat_tests}
use Rattle.std.proofs.lemmas.List.Sums.{sum_by-cons}
use Rattle.uss_law_dss.specs.Lists.{Has}
use Rattle.uss_law_dss.proofs.Tests.{same_number, unequal_number}
use Rattle.uss_event.specs.declared.entries.Opening.{Opening}
use Rattle.uss_law_book.proofs.Still.{one_if}

-- the jobs are numbered without a gap
abbrev pub AreNumbered : ℕ → List Opening → Type 0
AreNumbered n [] = Unit {0}
AreNumbered n (o ∷ os) = (o.job ≡ n) × AreNumbered (n + 1) os

pub one_more_job : (n : ℕ) (os : List Opening) (o : Opening) → AreNumbered n os → o.job ≡ n + length os → AreNumbered n (os ++ o ∷ [])
one_more_job n [] o h e = (omega (arith, e), tt)
one_more_job n (p ∷ os) o h e = (h.0, one_more_job (n + 1) os o h.1 (omega (arith, e)))

pub at_least : (n : ℕ) (os : List Opening) (o : Opening) → AreNumbered n os → Has os o → n ≤ o.job
at_least n [] o h k = absurd k
at_least n (p ∷ os) o h (inl q) = let e : p.job ≡ n = h.0 in let f : p.job ≡ o.job = ap (λ (x : Opening). x.job) q in omega (arith, e, f)
at_least n (p ∷ os) o h (inr k) = let r = at_least (n + 1) os o h.1 k in omega (arith, r)

-- sums of what agrees on the jobs
pub sums_agree : (f g : ℕ → ℕ) (os : List Opening) → ((o : Opening) → Has os o → g o.job ≡ f o.job) → sum_by (λ o. g o.job) os ≡ sum_by (λ o. f o.job) os
sums_agree f g [] h = refl
sums_agree f g (o ∷ os) h =
    sum_by-cons (λ (p : Opening). g p.job) o os ∙ rw (h o (inl refl), sums_agree f g os (λ p k. h p (inr k))) (sym (sum_by-cons (λ (p : Opening). f p.job) o os))

-- what agrees but for one job
pub sums_differ : (f g : ℕ → ℕ) (j n : ℕ) (os : List Opening) (o : Opening) → AreNumbered n os → ((x : ℕ) → (j == x) ≡ false → g x ≡ f x) → Has os o → o.job ≡ j
    → sum_by (λ p. g p.job) os + f j ≡ sum_by (λ p. f p.job) os + g j
sums_differ f g j n [] o h same k e = absurd k
sums_differ f g j n (p ∷ os) o h same (inl q) e =
    let first : p.job ≡ j = ap (λ (x : Opening). x.job) q ∙ e in
    let rest : sum_by (λ (x : Opening). g x.job) os ≡ sum_by (λ (x : Opening). f x.job) os =
    sums_agree f g os (λ x i. same x.job (let l = at_least (n + 1) os x h.1 i in let m : p.job ≡ n = h.0 in unequal_number j x.job (λ y. absurd (omega (arith, l, m, first, y))))) in
    let a = sum_by-cons (λ (x : Opening). g x.job) p os in
    let b = sum_by-cons (λ (x : Opening). f x.job) p os in
    let c : g p.job ≡ g j = ap g first in
    let d : f p.job ≡ f j = ap f first in
    omega (arith, a, b, c, d, rest)
sums_differ f g j n (p ∷ os) o h same (inr k) e =
    let l = at_least (n + 1) os o h.1 k in
    let m : p.job ≡ n = h.0 in
    let here : g p.job ≡ f p.job = same p.job (unequal_number j p.job (λ y. absurd (omega (arith, l, m, e, y)))) in
    let rest = sums_differ f g j (n + 1) os o h.1 same k e in
    let a = sum_by-cons (λ (x : Opening). g x.job) p os in
    let b = sum_by-cons (λ (x : Opening). f x.job) p os in
    omega (arith, a, b, here, rest)

-- counts as sums
counted_if : (b c : Bool) (k s : ℕ) (o : Opening) (xs ys : List Opening)
    → 8388608 * length (cond b (o ∷ xs) xs) + 64 * (k + s) + 64 * length (cond c (o ∷ ys) ys) ≡ (8388608 * one_if b + 64 * k + 64 * one_if c) + (8388608 * length xs + 64 * s + 64 * length ys)
counted_if true true k s o xs ys = omega arith
counted_if true false k s o xs ys = omega arith
counted_if false true k s o xs ys = omega arith
counted_if false false k s o xs ys = omega arith

pub counts_are_sums : (p q : Opening → Bool) (u : Opening → ℕ) (os : List Opening)
    → 8388608 * length (filter p os) + 64 * sum_by u os + 64 * length (filter q os) ≡ sum_by (λ o. 8388608 * one_if (p o) + 64 * u o + 64 * one_if (q o)) os
counts_are_sums p q u [] = refl
counts_are_sums p q u (o ∷ os) =
    let a = sum_by-cons u o os in
    let b = sum_by-cons (λ (x : Opening). 8388608 * one_if (p x) + 64 * u x + 64 * one_if (q x)) o os in
    let r = counts_are_sums p q u os in
    let i = counted_if (p o) (q o) (u o) (sum_by u os) o (filter p os) (filter q os) in
    ap (λ s. 8388608 * length (filter p (o ∷ os)) + 64 * s + 64 * length (filter q (o ∷ os))) a ∙ i ∙ ap (λ s. (8388608 * one_if (p o) + 64 * u o + 64 * one_if (q o)) + s) r ∙ sym b

-- ---- places

same_above : (t : ℕ → Bool) (p a n : ℕ) → p < a → length (filter (λ x. not (t x || (p == x))) (range_with_len a n)) ≡ length (filter (λ x. not (t x)) (range_with_len a n))
same_above t p a zero h = refl
same_above t p a (suc n) h =
    let e : (p == a) ≡ false = unequal_number p a (λ y. absurd (omega (arith, h, y))) in
    let r = same_above t p (a + 1) n (omega (arith, h)) in
    go (t a) e r
  where
    go : (b : Bool) → (p == a) ≡ false → length (filter (λ x. not (t x || (p == x))) (range_with_len (a + 1) n)) ≡ length (filter (λ x. not (t x)) (range_with_len (a + 1) n))
        → length (cond (not (b || (p == a))) (a ∷ filter (λ x. not (t x || (p == x))) (range_with_len (a + 1) n)) (filter (λ x. not (t x || (p == x))) (range_with_len (a + 1) n)))
        ≡ length (cond (not b) (a ∷ filter (λ x. not (t x)) (range_with_len (a + 1) n)) (filter (λ x. not (t x)) (range_with_len (a + 1) n)))
    go true e r = r
    go false e r = rw e (ap suc r)

above : (a p : ℕ) → a ≤ p → (p == a) ≡ false → a < p
above a p h q = grind (arith, nat_tests)

-- one more notification is answered
pub one_less : (t : ℕ → Bool) (p a n : ℕ) → a ≤ p → p < a + n → t p ≡ false → length (filter (λ x. not (t x)) (range_with_len a n)) ≡ length (filter (λ x. not (t x || (p == x))) (range_with_len a n)) + 1
one_less t p a zero h k e = absurd (omega (arith, h, k))
one_less t p a (suc n) h k e = go (p == a) refl (t a) refl (λ l. one_less t p (a + 1) n (omega (arith, l)) (omega (arith, k)) e)
  where
    here : List ℕ
    here = filter (λ x. not (t x)) (range_with_len (a + 1) n)

    there : List ℕ
    there = filter (λ x. not (t x || (p == x))) (range_with_len (a + 1) n)

    go : (b : Bool) → (p == a) ≡ b → (c : Bool) → t a ≡ c → (a < p → length here ≡ length there + 1) → length (cond (not (t a)) (a ∷ here) here) ≡ length (cond (not (t a || (p == a))) (a ∷ there) there) + 1
    go true q c f rec =
        let same : p ≡ a = same_number p a q in
        let u : t a ≡ false = subst (λ x. t x ≡ false) same e in
        let r = same_above t p (a + 1) n (omega (arith, same)) in
        rw (u, q) (omega (arith, r))
    go false q true f rec = let r = rec (above a p h q) in rw f r
    go false q false f rec = let r = rec (above a p h q) in rw (f, q) (omega (arith, r))
