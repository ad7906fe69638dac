-- Lemmas on what lists have.
use Rattle.std.proofs.Common.{◌≤◌, Bool, true, false, cond, ◌||◌, List, [], ◌∷◌, ◌++◌, ◌≡◌, ◌⊎◌, inl, inr, map, filter, length, refl, ap, subst, ◌∙◌, arith, Some, None, suc}
use Rattle.std.specs.List.{list_any, find}
use Rattle.uss_law_dss.specs.Lists.{Has}

pub has_append : {X : Type 0} (xs ys : List X) (x : X) → Has (xs ++ ys) x → Has xs x ⊎ Has ys x
has_append [] ys x h = inr h
has_append (y ∷ xs) ys x (inl e) = inl (inl e)
has_append (y ∷ xs) ys x (inr h) = elim (has_append xs ys x h) [ inl a ↦ inl (inr a) | inr b ↦ inr b ]

pub has_left : {X : Type 0} (xs ys : List X) (x : X) → Has xs x → Has (xs ++ ys) x
has_left [] ys x h = absurd h
has_left (y ∷ xs) ys x (inl e) = inl e
has_left (y ∷ xs) ys x (inr h) = inr (has_left xs ys x h)

pub has_right : {X : Type 0} (xs ys : List X) (x : X) → Has ys x → Has (xs ++ ys) x
has_right [] ys x h = h
has_right (y ∷ xs) ys x h = inr (has_right xs ys x h)

pub has_last : {X : Type 0} (xs : List X) (y : X) → Has (xs ++ y ∷ []) y
has_last xs y = has_right xs (y ∷ []) y (inl refl)

pub has_push : {X : Type 0} (xs : List X) (y x : X) → Has (xs ++ y ∷ []) x → Has xs x ⊎ (y ≡ x)
has_push xs y x h = elim (has_append xs (y ∷ []) x h) [ inl a ↦ inl a | inr b ↦ elim b [ inl e ↦ inr e | inr n ↦ absurd n ] ]

pub has_map : {X Y : Type 0} (f : X → Y) (xs : List X) (y : Y) → Has (map f xs) y → (x : X) × Has xs x × (f x ≡ y)
has_map f [] y h = absurd h
has_map f (x ∷ xs) y (inl e) = (x, inl refl, e)
has_map f (x ∷ xs) y (inr h) = let r = has_map f xs y h in (r.0, inr r.1, r.2)

has_filter_step : {X : Type 0} (b : Bool) (y : X) (ys zs : List X) (x : X) → (Has ys x → Has zs x) → Has (cond b (y ∷ ys) ys) x → (y ≡ x) ⊎ Has zs x
has_filter_step true y ys zs x f (inl e) = inl e
has_filter_step true y ys zs x f (inr k) = inr (f k)
has_filter_step false y ys zs x f k = inr (f k)

pub has_filter : {X : Type 0} (p : X → Bool) (xs : List X) (x : X) → Has (filter p xs) x → Has xs x
has_filter p [] x h = h
has_filter p (y ∷ xs) x h = has_filter_step (p y) y (filter p xs) xs x (has_filter p xs x) h

pub has_filtered : {X : Type 0} (p : X → Bool) (xs : List X) (x : X) → Has xs x → p x ≡ true → Has (filter p xs) x
has_filtered p [] x h e = h
has_filtered p (y ∷ xs) x (inl q) e = rw (ap p q ∙ e) (inl q)
has_filtered p (y ∷ xs) x (inr h) e = at_tail (p y) (has_filtered p xs x h e)
  where
    at_tail : (b : Bool) → Has (filter p xs) x → Has (cond b (y ∷ filter p xs) (filter p xs)) x
    at_tail true k = inr k
    at_tail false k = k

pub find_has : {X : Type 0} (p : X → Bool) (xs : List X) (x : X) → find p xs ≡ Some x → Has xs x × (p x ≡ true)
find_has p [] x h = cc
find_has {X} p (y ∷ xs) x h = go (p y) refl (find_has p xs x) h
  where
    go : (b : Bool) → p y ≡ b → (find p xs ≡ Some x → Has xs x × (p x ≡ true)) → cond b (Some y) (find p xs) ≡ Some x → ((y ≡ x) ⊎ Has xs x) × (p x ≡ true)
    go true e rec f = let q : y ≡ x = cc in (inl q, subst (λ z. p z ≡ true) q e)
    go false e rec f = let r = rec f in (inr r.0, r.1)

-- what passes a test is somewhere
pub list_any_has : {X : Type 0} (p : X → Bool) (xs : List X) → list_any p xs ≡ true → (x : X) × Has xs x × (p x ≡ true)
list_any_has p [] h = cc
list_any_has {X} p (y ∷ xs) h = go (p y) refl (list_any_has p xs) h
  where
    go : (b : Bool) → p y ≡ b → (list_any p xs ≡ true → (x : X) × Has xs x × (p x ≡ true)) → (b || list_any p xs) ≡ true → (x : X) × Has (y ∷ xs) x × (p x ≡ true)
    go true e rec f = (y, inl refl, e)
    go false e rec f = let r = rec f in (r.0, inr r.1, r.2)

pub find_none : {X : Type 0} (p : X → Bool) (xs : List X) (x : X) → find p xs ≡ None → Has xs x → p x ≡ false
find_none p [] x h i = absurd i
find_none {X} p (y ∷ xs) x h i = go (p y) refl (find_none p xs x) h i
  where
    go : (b : Bool) → p y ≡ b → (find p xs ≡ None → Has xs x → p x ≡ false) → cond b (Some y) (find p xs) ≡ None → (y ≡ x) ⊎ Has xs x → p x ≡ false
    go true e rec f k = cc
    go false e rec f (inl q) = subst (λ z. p z ≡ false) q e
    go false e rec f (inr k) = rec f k

pub any_true : {X : Type 0} (p : X → Bool) (xs : List X) (x : X) → Has xs x → p x ≡ true → list_any p xs ≡ true
any_true p [] x h e = absurd h
any_true p (y ∷ xs) x (inl q) e = rw (ap p q ∙ e) refl
any_true p (y ∷ xs) x (inr h) e = or_right (p y) (list_any p xs) (any_true p xs x h e)
  where
    or_right : (a b : Bool) → b ≡ true → (a || b) ≡ true
    or_right true b h = refl
    or_right false b h = h

-- what no item passes
pub any_false : {X : Type 0} (p : X → Bool) (xs : List X) (x : X) → list_any p xs ≡ false → Has xs x → p x ≡ false
any_false p xs x h has = go (p x) refl
  where
    go : (b : Bool) → p x ≡ b → b ≡ false
    go true e = let t = any_true p xs x has e in cc
    go false e = refl

pub none_passes : {X : Type 0} (p : X → Bool) (xs : List X) → ((x : X) → Has xs x → p x ≡ false) → list_any p xs ≡ false
none_passes p [] h = refl
none_passes p (x ∷ xs) h = rw (h x (inl refl)) (none_passes p xs (λ y k. h y (inr k)))

-- what passed a filter
pub has_passed : {X : Type 0} (p : X → Bool) (xs : List X) (x : X) → Has (filter p xs) x → p x ≡ true
has_passed p [] x h = absurd h
has_passed {X} p (y ∷ xs) x h = go (p y) refl (has_passed p xs x) h
  where
    go : (b : Bool) → p y ≡ b → (Has (filter p xs) x → p x ≡ true) → Has (cond b (y ∷ filter p xs) (filter p xs)) x → p x ≡ true
    go true e rec (inl q) = subst (λ z. p z ≡ true) q e
    go true e rec (inr k) = rec k
    go false e rec k = rec k

pub mapped : {X Y : Type 0} (f : X → Y) (xs : List X) (x : X) → Has xs x → Has (map f xs) (f x)
mapped f [] x h = absurd h
mapped f (y ∷ xs) x (inl e) = inl (ap f e)
mapped f (y ∷ xs) x (inr h) = inr (mapped f xs x h)

pub length-map : {X Y : Type 0} (f : X → Y) (xs : List X) → length (map f xs) ≡ length xs
length-map f [] = refl
length-map f (x ∷ xs) = ap suc (length-map f xs)

pub length-filter_le : {X : Type 0} (p : X → Bool) (xs : List X) → length (filter p xs) ≤ length xs
length-filter_le p [] = omega arith
length-filter_le {X} p (x ∷ xs) = go (p x) (length-filter_le p xs)
  where
    go : (b : Bool) → length (filter p xs) ≤ length xs → length (cond b (x ∷ filter p xs) (filter p xs)) ≤ suc (length xs)
    go true k = omega arith
    go false k = omega arith
