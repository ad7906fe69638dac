use Rattle.uss_shape.proofs.Ring.{lin, linc}
use Rattle.std.proofs.lemmas.Int.{by_lt_z}
use Rattle.std.proofs.Common.{◌≡◌, suc, ◌<◌, ◌⊎◌, inl, inr, refl, sym, ◌∙◌, arith, List, [], ◌∷◌, length, get_or, ℤ}
use Rattle.std.specs.Prelude.{◌≤ℤ◌, All, Any}
use Rattle.std.specs.Int.{int_min, int_max}
use Rattle.std.specs.List.{fold}
use Rattle.std.proofs.lemmas.List.Elements.{All-nil, All-cons}
use Rattle.uss_shape.specs.declared.Place.{Place}
use Rattle.uss_shape.specs.declared.Rect.{Rect}
use Rattle.uss_shape.specs.Words.{IsWithin, Covers}
use Rattle.uss_shape.specs.Shape.{IsLeast, IsGreatest, IsOutline, IsBounds, grown, spot, bounds_of}

pub any_here : {A : Type 0} (P : A → Type 0) (x : A) (xs : List A) → P x → Any P (x ∷ xs)
any_here P x xs h = (0, x, omega arith, refl, h)

pub any_more : {A : Type 0} (P : A → Type 0) (x : A) (xs : List A) → Any P xs → Any P (x ∷ xs)
any_more P x xs r = (suc r.0, r.1, omega (arith, r.2), r.3, r.4)

min_is : (a b : ℤ) → (int_min a b ≡ a) ⊎ (int_min a b ≡ b)
min_is a b = by_lt_z b a (λ l. inr (omega linc)) (λ l. inl (omega linc))

max_is : (a b : ℤ) → (int_max a b ≡ a) ⊎ (int_max a b ≡ b)
max_is a b = by_lt_z b a (λ l. inl (omega linc)) (λ l. inr (omega linc))

-- ---- the least and the greatest, step by step from a
abbrev pub least_from : {A : Type 0} → (A → ℤ) → ℤ → List A → ℤ
least_from f a xs = fold (λ m x. int_min m (f x)) a xs

abbrev pub greatest_from : {A : Type 0} → (A → ℤ) → ℤ → List A → ℤ
greatest_from f a xs = fold (λ m x. int_max m (f x)) a xs

record Below {A : Type 0} (f : A → ℤ) (a : ℤ) (xs : List A) (r : ℤ) : Type 0 where
  start : r ≤ℤ a
  bound : All (λ x. r ≤ℤ f x) xs
  reached : (r ≡ a) ⊎ Any (λ x. f x ≡ r) xs

record Above {A : Type 0} (f : A → ℤ) (a : ℤ) (xs : List A) (r : ℤ) : Type 0 where
  start : a ≤ℤ r
  bound : All (λ x. f x ≤ℤ r) xs
  reached : (r ≡ a) ⊎ Any (λ x. f x ≡ r) xs

below_here : {A : Type 0} (f : A → ℤ) (a r : ℤ) (x : A) (xs : List A) → (r ≡ int_min a (f x)) ⊎ Any (λ y. f y ≡ r) xs → (r ≡ a) ⊎ Any (λ y. f y ≡ r) (x ∷ xs)
below_here f a r x xs (inl e) = elim (min_is a (f x)) [
  | inl h ↦ inl (e ∙ h)
  | inr h ↦ inr (any_here (λ y. f y ≡ r) x xs (sym (e ∙ h)))
]
below_here f a r x xs (inr h) = inr (any_more (λ y. f y ≡ r) x xs h)

above_here : {A : Type 0} (f : A → ℤ) (a r : ℤ) (x : A) (xs : List A) → (r ≡ int_max a (f x)) ⊎ Any (λ y. f y ≡ r) xs → (r ≡ a) ⊎ Any (λ y. f y ≡ r) (x ∷ xs)
above_here f a r x xs (inl e) = elim (max_is a (f x)) [
  | inl h ↦ inl (e ∙ h)
  | inr h ↦ inr (any_here (λ y. f y ≡ r) x xs (sym (e ∙ h)))
]
above_here f a r x xs (inr h) = inr (any_more (λ y. f y ≡ r) x xs h)

least_is : {A : Type 0} (f : A → ℤ) (a : ℤ) (xs : List A) → Below f a xs (least_from f a xs)
least_is f a [] = record { start = omega lin; bound = All-nil (λ x. a ≤ℤ f x); reached = inl refl }
least_is f a (x ∷ xs) =
    let r = least_from f (int_min a (f x)) xs in
    let k : Below f (int_min a (f x)) xs r = least_is f (int_min a (f x)) xs in
    record {
      start = omega linc;
      bound = All-cons (λ y. r ≤ℤ f y) x xs (omega linc) k.bound;
      reached = below_here f a r x xs k.reached;
    }

greatest_is : {A : Type 0} (f : A → ℤ) (a : ℤ) (xs : List A) → Above f a xs (greatest_from f a xs)
greatest_is f a [] = record { start = omega lin; bound = All-nil (λ x. f x ≤ℤ a); reached = inl refl }
greatest_is f a (x ∷ xs) =
    let r = greatest_from f (int_max a (f x)) xs in
    let k : Above f (int_max a (f x)) xs r = greatest_is f (int_max a (f x)) xs in
    record {
      start = omega linc;
      bound = All-cons (λ y. f y ≤ℤ r) x xs (omega linc) k.bound;
      reached = above_here f a r x xs k.reached;
    }

-- begun at the first of the list
pub least_of : {A : Type 0} (f : A → ℤ) (x : A) (xs : List A) → IsLeast f (x ∷ xs) (least_from f (f x) (x ∷ xs))
least_of f x xs =
    let r = least_from f (f x) (x ∷ xs) in
    let k : Below f (f x) (x ∷ xs) r = least_is f (f x) (x ∷ xs) in
    record { bound = k.bound; reached = elim k.reached [ inl e ↦ any_here (λ y. f y ≡ r) x xs (sym e) | inr h ↦ h ] }

pub greatest_of : {A : Type 0} (f : A → ℤ) (x : A) (xs : List A) → IsGreatest f (x ∷ xs) (greatest_from f (f x) (x ∷ xs))
greatest_of f x xs =
    let r = greatest_from f (f x) (x ∷ xs) in
    let k : Above f (f x) (x ∷ xs) r = greatest_is f (f x) (x ∷ xs) in
    record { bound = k.bound; reached = elim k.reached [ inl e ↦ any_here (λ y. f y ≡ r) x xs (sym e) | inr h ↦ h ] }

-- ---- the bounds, coordinate by coordinate
x1_is : (r : Rect) (vs : List Place) → (fold grown r vs).x1 ≡ least_from (λ v. v.x) r.x1 vs
x1_is r [] = refl
x1_is r (v ∷ vs) = x1_is (grown r v) vs

y1_is : (r : Rect) (vs : List Place) → (fold grown r vs).y1 ≡ least_from (λ v. v.y) r.y1 vs
y1_is r [] = refl
y1_is r (v ∷ vs) = y1_is (grown r v) vs

x2_is : (r : Rect) (vs : List Place) → (fold grown r vs).x2 ≡ greatest_from (λ v. v.x) r.x2 vs
x2_is r [] = refl
x2_is r (v ∷ vs) = x2_is (grown r v) vs

y2_is : (r : Rect) (vs : List Place) → (fold grown r vs).y2 ≡ greatest_from (λ v. v.y) r.y2 vs
y2_is r [] = refl
y2_is r (v ∷ vs) = y2_is (grown r v) vs

-- the function gives the least and the greatest coordinates
pub bounds_are : (vs : List Place) → 0 < length vs → IsBounds vs (bounds_of vs)
unfolding bounds_of
bounds_are [] l = absurd (omega arith)
bounds_are (v ∷ vs) l = record {
  left = rw (x1_is (spot v) (v ∷ vs)) (least_of (λ (w : Place). w.x) v vs);
  low = rw (y1_is (spot v) (v ∷ vs)) (least_of (λ (w : Place). w.y) v vs);
  right = rw (x2_is (spot v) (v ∷ vs)) (greatest_of (λ (w : Place). w.x) v vs);
  high = rw (y2_is (spot v) (v ∷ vs)) (greatest_of (λ (w : Place). w.y) v vs);
}

-- the bounds that an outline keeps
pub kept_bounds : (vs : List Place) (r : Rect) → IsOutline vs → r ≡ bounds_of vs → IsBounds vs r
kept_bounds vs r o e = rw e (bounds_are vs (omega (arith, o.enough)))

-- ---- a rectangle that grew over some places covers them
grown_keeps : (r : Rect) (v p : Place) → IsWithin r p → IsWithin (grown r v) p
grown_keeps r v p h = (omega linc, omega linc, omega linc, omega linc)

grown_has : (r : Rect) (v : Place) → IsWithin (grown r v) v
grown_has r v = (omega linc, omega linc, omega linc, omega linc)

fold_keeps : (r : Rect) (vs : List Place) (p : Place) → IsWithin r p → IsWithin (fold grown r vs) p
fold_keeps r [] p h = h
fold_keeps r (v ∷ vs) p h = fold_keeps (grown r v) vs p (grown_keeps r v p h)

fold_covers : (r : Rect) (vs : List Place) → All (IsWithin (fold grown r vs)) vs
fold_covers r [] = All-nil (IsWithin r)
fold_covers r (v ∷ vs) = All-cons (IsWithin (fold grown (grown r v) vs)) v vs (fold_keeps (grown r v) vs v (grown_has r v)) (fold_covers (grown r v) vs)

pub grown_covers : (p : Place) (vs : List Place) → Covers (fold grown (spot p) vs) p vs
grown_covers p vs = record { at_first = fold_keeps (spot p) vs p (omega lin, omega lin, omega lin, omega lin); at_rest = fold_covers (spot p) vs }

pub bounds_cover : (vs : List Place) (r : Rect) → IsBounds vs r → All (IsWithin r) vs
bounds_cover vs r b = λ k d h. (b.left.bound k d h, b.right.bound k d h, b.low.bound k d h, b.high.bound k d h)

pub bounds_is : (vs : List Place) (d : Place) → 0 < length vs → fold grown (spot (get_or vs 0 d)) vs ≡ bounds_of vs
unfolding bounds_of
bounds_is [] d l = absurd (omega arith)
bounds_is (v ∷ vs) d l = refl
