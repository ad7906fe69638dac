-- What filters and look-ups find.
use Rattle.std.proofs.Common.{◌≤◌, Bool, true, false, cond, ◌||◌, ◌&&◌, List, [], ◌∷◌, ◌++◌, ◌≡◌, ◌⊎◌, inl, inr, filter, length, refl, ap, sym, ◌∙◌, arith, Option, Some, None, is_some}
use Rattle.std.specs.List.{list_any, find}
use Rattle.std.specs.Option.{option_or}
use Rattle.std.proofs.lemmas.List.Folds.{find-append}
use Rattle.uss_law_dss.specs.Lists.{Has}

pub has_some : {X : Type 0} (xs : List X) (x : X) → Has xs x → 1 ≤ length xs
has_some [] x h = absurd h
has_some (y ∷ xs) x h = omega arith

-- what passes is found, or something before it
pub find_found : {X : Type 0} (p : X → Bool) (xs : List X) (x : X) → Has xs x → p x ≡ true → (y : X) × (find p xs ≡ Some y)
find_found p [] x h e = absurd h
find_found {X} p (z ∷ xs) x h e = go (p z) refl h (find_found p xs x)
  where
    go : (b : Bool) → p z ≡ b → (z ≡ x) ⊎ Has xs x → (Has xs x → p x ≡ true → (y : X) × (find p xs ≡ Some y)) → (y : X) × (cond b (Some z) (find p xs) ≡ Some y)
    go true q k rec = (z, refl)
    go false q (inl k) rec = let r : true ≡ false = sym e ∙ sym (ap p k) ∙ q in cc
    go false q (inr k) rec = rec k e

pub find_kept : {X : Type 0} (p : X → Bool) (xs ys : List X) (x : X) → find p xs ≡ Some x → find p (xs ++ ys) ≡ Some x
find_kept p xs ys x h = find-append p xs ys ∙ ap (λ o. option_or o (find p ys)) h

pub any_found : {X : Type 0} (p : X → Bool) (xs : List X) → is_some (find p xs) ≡ list_any p xs
any_found p [] = refl
any_found {X} p (x ∷ xs) = go (p x) (any_found p xs)
  where
    go : (b : Bool) → is_some (find p xs) ≡ list_any p xs → is_some (cond b (Some x) (find p xs)) ≡ (b || list_any p xs)
    go true h = refl
    go false h = h

-- tests that agree on the items
pub any_agrees : {X : Type 0} (p q : X → Bool) (xs : List X) → ((x : X) → Has xs x → p x ≡ q x) → list_any p xs ≡ list_any q xs
any_agrees p q [] h = refl
any_agrees p q (x ∷ xs) h = rw (h x (inl refl), any_agrees p q xs (λ y k. h y (inr k))) refl

pub filter_agrees : {X : Type 0} (p q : X → Bool) (xs : List X) → ((x : X) → Has xs x → p x ≡ q x) → filter p xs ≡ filter q xs
filter_agrees p q [] h = refl
filter_agrees p q (x ∷ xs) h = rw (h x (inl refl), filter_agrees p q xs (λ y k. h y (inr k))) refl

pub none_filtered : {X : Type 0} (p : X → Bool) (xs : List X) → ((x : X) → Has xs x → p x ≡ false) → filter p xs ≡ []
none_filtered p [] h = refl
none_filtered p (x ∷ xs) h = rw (h x (inl refl)) (none_filtered p xs (λ y k. h y (inr k)))

pub first_false : (a b : Bool) → b ≡ false → (a && b) ≡ false
first_false true b h = h
first_false false b h = refl

pub halves : (a b c d : Bool) → ((a || b) || (c || d)) ≡ ((a || c) || (b || d))
halves true b c d = refl
halves false true true d = refl
halves false true false d = refl
halves false false c d = refl

pub or_false : (a : Bool) → (a || false) ≡ a
or_false true = refl
or_false false = refl

pub or_none : {X : Type 0} (o : Option X) → option_or o None ≡ o
or_none None = refl
or_none (Some x) = refl
