-- Lists of entries that pass a test, by what they are called.
use Rattle.std.proofs.Common.{◌≡◌, inl, inr, ℕ, ◌<◌, Bool, true, false, ◌&&◌, ◌||◌, cond, sym, ◌∙◌, ap, refl, arith, Some, None, nat_eq, List, [], ◌∷◌, ◌++◌, map}
use Rattle.std.specs.List.{AllByRecursion, IsDistinct, list_any, filter}
use Rattle.std.specs.List.Sorted.{IsStrictlySortedBy}
use Rattle.std.specs.Map.{keys_of, lookup}
use Rattle.std.specs.declared.cmp.Ordering.{Ordering}
use Rattle.std.specs.declared.cmp.Ordering.TheVariants.{Less, Equal, Greater}
use Rattle.std.specs.Ordering.{nat_cmp, is_eq}
use Rattle.std.proofs.lemmas.Bool.{eqb-true, eq-eqb, false_from_ne_true, or_cases, or_left, or_right}
use Rattle.std.proofs.lemmas.Bool.Decides.{nat_tests}

pub false_true : false ≡ true → ⊥
false_true e = cc

-- ---- an entry that passes
pub some_with : {A : Type 0} (P : A → Type 0) (g : A → Bool) (es : List A) → AllByRecursion P es → list_any g es ≡ true → (e : A) × P e × (g e ≡ true)
some_with P g [] a h = absurd (false_true h)
some_with P g (e ∷ es) a h = elim (or_cases (g e) (list_any g es) h) [
  | inl t ↦ (e, a.0, t)
  | inr t ↦ some_with P g es a.1 t
]

equal : (o : Ordering) → is_eq o ≡ true → o ≡ Equal
equal Less h = absurd (false_true h)
equal Equal h = refl
equal Greater h = absurd (false_true h)

nothing : {X : Type 0} (v : X) → None ≡ Some v → ⊥
nothing v h = cc

one_value : {X : Type 0} (a b : X) → Some a ≡ Some b → a ≡ b
one_value a b h = cc

-- what a look-up finds passes
passes_at : {K X : Type 0} (test : K → Bool) (k : K) → ((l : K) → test l ≡ true → k ≡ l) → (g : K × X → Bool) (v : X) (e : K × X) (es : List (K × X)) (b : Bool) → test e.0 ≡ b → cond b (Some e.1) (lookup test es) ≡ Some v → g (k, v) ≡ true → (lookup test es ≡ Some v → list_any g es ≡ true) → (g e || list_any g es) ≡ true
passes_at test k one g v e es true i h t r =
    or_left (g e) (list_any g es) (sym (ap (λ l. g (l, e.1)) (one e.0 i)) ∙ ap (λ w. g (k, w)) (one_value e.1 v h) ∙ t)
passes_at test k one g v e es false i h t r = or_right (g e) (list_any g es) (r h)

pub passes_from_lookup : {K X : Type 0} (test : K → Bool) (k : K) → ((l : K) → test l ≡ true → k ≡ l) → (g : K × X → Bool) (v : X) (es : List (K × X)) → lookup test es ≡ Some v → g (k, v) ≡ true → list_any g es ≡ true
passes_from_lookup test k one g v [] h t = absurd (nothing v h)
passes_from_lookup test k one g v (e ∷ es) h t =
    passes_at test k one g v e es (test e.0) refl h t (λ m. passes_from_lookup test k one g v es m t)

-- ---- identifiers of the entries that pass
any_at : {A : Type 0} (f : A → ℕ) (p : A → Bool) (k : ℕ) (e : A) (es : List A) (b : Bool) → p e ≡ b → list_any (nat_eq k) (map f (filter p es)) ≡ list_any (λ e. p e && nat_eq k (f e)) es → list_any (nat_eq k) (map f (cond b (e ∷ filter p es) (filter p es))) ≡ ((b && nat_eq k (f e)) || list_any (λ e. p e && nat_eq k (f e)) es)
any_at f p k e es true i r = ap (λ b. nat_eq k (f e) || b) r
any_at f p k e es false i r = r

pub any_id : {A : Type 0} (f : A → ℕ) (p : A → Bool) (k : ℕ) (es : List A) → list_any (nat_eq k) (map f (filter p es)) ≡ list_any (λ e. p e && nat_eq k (f e)) es
any_id f p k [] = refl
any_id f p k (e ∷ es) = any_at f p k e es (p e) refl (any_id f p k es)

-- the key of an entry that passes is told by its identifier
abbrev pub IsKeyed : {K X : Type 0} → (K × X → ℕ) → (ℕ → K) → (K × X → Bool) → K × X → Type 0
IsKeyed f key p e = p e ≡ true → e.0 ≡ key (f e)

others_at : (n m : ℕ) (b : Bool) {A : Type 0} (f : A → ℕ) (x : A) (xs : List A) → (b ≡ true → nat_eq n (f x) ≡ false) → AllByRecursion (λ y. nat_eq n y ≡ false) (map f xs) → AllByRecursion (λ y. nat_eq n y ≡ false) (map f (cond b (x ∷ xs) xs))
others_at n m true f x xs h r = (h refl, r)
others_at n m false f x xs h r = r

others : {K X : Type 0} (cmp : K → K → Ordering) (self : (x : K) → cmp x x ≡ Less → ⊥) (f : K × X → ℕ) (key : ℕ → K) (p : K × X → Bool) (e : K × X) (es : List (K × X)) → e.0 ≡ key (f e) → AllByRecursion (λ y. cmp e.0 y ≡ Less) (keys_of es) → AllByRecursion (IsKeyed f key p) es → AllByRecursion (λ y. nat_eq (f e) y ≡ false) (map f (filter p es))
others cmp self f key p e [] k less keyed = tt
others cmp self f key p e (x ∷ xs) k less keyed =
    others_at (f e) 0 (p x) f x (filter p xs)
    (λ i. false_from_ne_true (nat_eq (f e) (f x)) (λ h.
    let same : e.0 ≡ x.0 = k ∙ ap key (eqb-true (f e) (f x) h) ∙ sym (keyed.0 i) in
    self e.0 (ap (cmp e.0) same ∙ less.0)))
    (others cmp self f key p e xs k less.1 keyed.1)

distinct_at : (b : Bool) {A : Type 0} (f : A → ℕ) (e : A) (es : List A) → (b ≡ true → AllByRecursion (λ y. nat_eq (f e) y ≡ false) (map f es)) → IsDistinct nat_eq (map f es) → IsDistinct nat_eq (map f (cond b (e ∷ es) es))
unfolding IsDistinct
distinct_at true f e es h r = (h refl, r)
distinct_at false f e es h r = r

pub distinct_ids : {K X : Type 0} (cmp : K → K → Ordering) (self : (x : K) → cmp x x ≡ Less → ⊥) (f : K × X → ℕ) (key : ℕ → K) (p : K × X → Bool) (es : List (K × X)) → IsStrictlySortedBy cmp (keys_of es) → AllByRecursion (IsKeyed f key p) es → IsDistinct nat_eq (map f (filter p es))
unfolding IsStrictlySortedBy IsDistinct
distinct_ids cmp self f key p [] s keyed = tt
distinct_ids cmp self f key p (e ∷ es) s keyed =
    distinct_at (p e) f e (filter p es) (λ i. others cmp self f key p e es (keyed.0 i) s.0 keyed.1) (distinct_ids cmp self f key p es s.1 keyed.1)

-- ---- one list after another
none_at : (x y : ℕ) (ys : List ℕ) (b : Bool) → nat_eq x y ≡ b → (b || list_any (nat_eq x) ys) ≡ false → (list_any (nat_eq x) ys ≡ false → AllByRecursion (λ y. nat_eq x y ≡ false) ys) → AllByRecursion (λ y. nat_eq x y ≡ false) (y ∷ ys)
none_at x y ys true i h r = absurd (false_true (sym h))
none_at x y ys false i h r = (i, r h)

none_same : (x : ℕ) (ys : List ℕ) → list_any (nat_eq x) ys ≡ false → AllByRecursion (λ y. nat_eq x y ≡ false) ys
none_same x [] h = tt
none_same x (y ∷ ys) h = none_at x y ys (nat_eq x y) refl h (none_same x ys)

all_both : (P : ℕ → Type 0) (xs ys : List ℕ) → AllByRecursion P xs → AllByRecursion P ys → AllByRecursion P (xs ++ ys)
all_both P [] ys a b = b
all_both P (x ∷ xs) ys a b = (a.0, all_both P xs ys a.1 b)

pub distinct_both : (xs ys : List ℕ) → IsDistinct nat_eq xs → IsDistinct nat_eq ys → ((k : ℕ) → list_any (nat_eq k) xs ≡ true → list_any (nat_eq k) ys ≡ false) → IsDistinct nat_eq (xs ++ ys)
unfolding IsDistinct
distinct_both [] ys d e apart = e
distinct_both (x ∷ xs) ys d e apart = (
  all_both (λ y. nat_eq x y ≡ false) xs ys d.0 (none_same x ys (apart x (or_left (nat_eq x x) (list_any (nat_eq x) xs) (eq-eqb x x refl)))),
  distinct_both xs ys d.1 e (λ k h. apart k (or_right (nat_eq k x) (list_any (nat_eq k) xs) h)),
)

-- ---- lists in order that have the same numbers
less_is : (x y : ℕ) → nat_cmp x y ≡ Less → x < y
less_is x y h = grind (arith, nat_tests)

head_least : (x k : ℕ) (xs : List ℕ) → AllByRecursion (λ y. nat_cmp x y ≡ Less) xs → list_any (nat_eq k) xs ≡ true → x < k
head_least x k [] a h = absurd (false_true h)
head_least x k (y ∷ ys) a h = elim (or_cases (nat_eq k y) (list_any (nat_eq k) ys) h) [
  | inl t ↦ (let e = eqb-true k y t in let l = less_is x y a.0 in omega (arith, e, l))
  | inr t ↦ head_least x k ys a.1 t
]

abbrev has : ℕ → List ℕ → Bool
has k xs = list_any (nat_eq k) xs

own : (x : ℕ) (xs : List ℕ) → has x (x ∷ xs) ≡ true
own x xs = or_left (nat_eq x x) (has x xs) (eq-eqb x x refl)

heads : (x y : ℕ) (xs ys : List ℕ) → AllByRecursion (λ z. nat_cmp x z ≡ Less) xs → AllByRecursion (λ z. nat_cmp y z ≡ Less) ys → ((k : ℕ) → has k (x ∷ xs) ≡ has k (y ∷ ys)) → x ≡ y
heads x y xs ys a b h = elim (or_cases (nat_eq x y) (has x ys) (sym (h x) ∙ own x xs)) [
  | inl e ↦ eqb-true x y e
  | inr i ↦ elim (or_cases (nat_eq y x) (has y xs) (h y ∙ own y ys)) [
    | inl e ↦ sym (eqb-true y x e)
    | inr j ↦ absurd (let u = head_least y x ys b i in let v = head_least x y xs a j in omega (arith, u, v))
  ]
]

least : (z k : ℕ) (zs : List ℕ) → AllByRecursion (λ w. nat_cmp z w ≡ Less) zs → k ≡ z → has k zs ≡ false
least z k zs a e = false_from_ne_true (has k zs) (λ i. let u = head_least z k zs a i in omega (arith, u, e))

rest : (x y : ℕ) (xs ys : List ℕ) → x ≡ y → AllByRecursion (λ z. nat_cmp x z ≡ Less) xs → AllByRecursion (λ z. nat_cmp y z ≡ Less) ys → (k : ℕ) → (b : Bool) → nat_eq k x ≡ b → (b || has k xs) ≡ (nat_eq k y || has k ys) → has k xs ≡ has k ys
rest x y xs ys e a c k true i h = least x k xs a (eqb-true k x i) ∙ sym (least y k ys c (eqb-true k x i ∙ e))
rest x y xs ys e a c k false i h = h ∙ ap (λ b. b || has k ys) (sym (ap (nat_eq k) e) ∙ i)

pub same_sorted : (xs ys : List ℕ) → IsStrictlySortedBy nat_cmp xs → IsStrictlySortedBy nat_cmp ys → ((k : ℕ) → list_any (nat_eq k) xs ≡ list_any (nat_eq k) ys) → xs ≡ ys
unfolding IsStrictlySortedBy
same_sorted [] [] s t h = refl
same_sorted [] (y ∷ ys) s t h = absurd (false_true (h y ∙ own y ys))
same_sorted (x ∷ xs) [] s t h = absurd (false_true (sym (h x) ∙ own x xs))
same_sorted (x ∷ xs) (y ∷ ys) s t h =
    let e : x ≡ y = heads x y xs ys s.0 t.0 h in
    ap (λ z. z ∷ xs) e ∙ ap (λ zs. y ∷ zs) (same_sorted xs ys s.1 t.1 (λ k. rest x y xs ys e s.0 t.0 k (nat_eq k x) refl (h k)))

-- the keys of the entries that pass ascend still
less_at : (m : ℕ) {X : Type 0} (e : ℕ × X) (es : List (ℕ × X)) (b : Bool) → nat_cmp m e.0 ≡ Less → AllByRecursion (λ y. nat_cmp m y ≡ Less) (keys_of es) → AllByRecursion (λ y. nat_cmp m y ≡ Less) (keys_of (cond b (e ∷ es) es))
less_at m e es true l r = (l, r)
less_at m e es false l r = r

less_kept : (m : ℕ) {X : Type 0} (p : ℕ × X → Bool) (es : List (ℕ × X)) → AllByRecursion (λ y. nat_cmp m y ≡ Less) (keys_of es) → AllByRecursion (λ y. nat_cmp m y ≡ Less) (keys_of (filter p es))
less_kept m p [] a = tt
less_kept m p (e ∷ es) a = less_at m e (filter p es) (p e) a.0 (less_kept m p es a.1)

sorted_at : {X : Type 0} (e : ℕ × X) (es : List (ℕ × X)) (b : Bool) → AllByRecursion (λ y. nat_cmp e.0 y ≡ Less) (keys_of es) → IsStrictlySortedBy nat_cmp (keys_of es) → IsStrictlySortedBy nat_cmp (keys_of (cond b (e ∷ es) es))
unfolding IsStrictlySortedBy
sorted_at e es true l r = (l, r)
sorted_at e es false l r = r

pub sorted_kept : {X : Type 0} (p : ℕ × X → Bool) (es : List (ℕ × X)) → IsStrictlySortedBy nat_cmp (keys_of es) → IsStrictlySortedBy nat_cmp (keys_of (filter p es))
unfolding IsStrictlySortedBy
sorted_kept p [] s = tt
sorted_kept p (e ∷ es) s = sorted_at e (filter p es) (p e) (less_kept e.0 p es s.0) (sorted_kept p es s.1)
