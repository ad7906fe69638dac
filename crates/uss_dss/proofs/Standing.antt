-- What is done to the boxes of things keeps each box with its thing.
use Rattle.std.proofs.Common.{◌≡◌, ℕ, Bool, true, false, cond, List, Option, Some, None, nat_eq, refl, sym, ap, subst, ◌∙◌}
use Rattle.std.proofs.lemmas.Bool.{eqb-true, eq-eqb}
use Rattle.uss_vol4.specs.declared.Box4.{Box4}
use Rattle.uss_vol4.specs.Volume.{Volume4D}
use Rattle.uss_vol4.specs.Bounding.{IsBoundingBox, bounding_box}
use Rattle.uss_dss.specs.declared.located.Located.{Located}
use Rattle.uss_dss.specs.Located.{number_of, whose, box_under, Stands, BelongsTo, IsLocated, IsEntered, IsAlike, is_that, IsWithout, AreNumbersKept, IsNumbered}

-- a number with a box isn't one without
differ : (l : Located) (k n : ℕ) (b : Box4) → box_under k l ≡ Some b → box_under n l ≡ None → nat_eq k n ≡ false
differ l k n b h free = go (nat_eq k n) refl
  where
    go : (t : Bool) → nat_eq k n ≡ t → t ≡ false
    go true e = absurd (let same : box_under n l ≡ Some b = ap (λ i. box_under i l) (sym (eqb-true k n e)) ∙ h in let no : Some b ≡ None = sym same ∙ free in cc)
    go false e = refl

pub alike : (what : ℕ → Option (List Volume4D)) (n : ℕ) (l m : Located) → IsLocated what l → box_under n l ≡ None → IsAlike n l m → IsLocated what m
alike what n l m j free a = record {
  all = λ id vs e. let s = j.all id vs e in
      record {
        number = s.number;
        named = a.numbers id ∙ s.named;
        owned = a.ids s.number (differ l s.number n (bounding_box vs) s.boxed free) ∙ s.owned;
        boxed = a.boxes s.number ∙ s.boxed;
        bounding = s.bounding;
      };
  only = λ k b h. let t = j.only k b (sym (a.boxes k) ∙ h) in
      record {
        id = t.id;
        volumes = t.volumes;
        there = t.there;
        boxed = t.boxed;
        named = a.numbers t.id ∙ t.named;
        owned = a.ids k (differ l k n b (sym (a.boxes k) ∙ h) free) ∙ t.owned;
      };
  named = λ id k e. j.named id k (sym (a.numbers id) ∙ e);
}

-- what was entered and undone
pub undone : (n id : ℕ) (b : Box4) (l m o : Located) → box_under n l ≡ None → IsEntered n id b l m → IsWithout (Some n) m o → IsNumbered id (number_of id l) m o → IsAlike n l o
undone n id b l m o free e w u = record {
  boxes = λ k. w.boxes k ∙ ap (cond (nat_eq k n) None) (e.boxes k) ∙ boxed k (nat_eq k n) refl;
  ids = λ k ne. w.ids k ∙ ap (λ t. cond t None (whose k m)) ne ∙ e.ids k ∙ ap (λ t. cond t (Some id) (whose k l)) ne;
  numbers = λ k. u k ∙ ap (cond (nat_eq k id) (number_of id l)) (e.numbers k) ∙ numbered k (nat_eq k id) refl;
}
  where
    boxed : (k : ℕ) (t : Bool) → nat_eq k n ≡ t → cond t None (cond t (Some b) (box_under k l)) ≡ box_under k l
    boxed k true q = sym (ap (λ i. box_under i l) (eqb-true k n q) ∙ free)
    boxed k false q = refl

    numbered : (k : ℕ) (t : Bool) → nat_eq k id ≡ t → cond t (number_of id l) (cond t (Some n) (number_of k l)) ≡ number_of k l
    numbered k true q = ap (λ i. number_of i l) (sym (eqb-true k id q))
    numbered k false q = refl

some_is : {X : Type 0} (x y : X) → Some x ≡ Some y → x ≡ y
some_is x y e = cc

-- the number of an identifier is its own
own_number : (what : ℕ → Option (List Volume4D)) (l : Located) (id p : ℕ) → IsLocated what l → number_of id l ≡ Some p → (whose p l ≡ Some id) × ((b : Box4) × (box_under p l ≡ Some b))
own_number what l id p j e =
    let there = j.named id p e in
    let s = j.all id there.0 there.1 in
    let same : s.number ≡ p = some_is s.number p (sym s.named ∙ e) in
    (ap (λ i. whose i l) (sym same) ∙ s.owned, (bounding_box there.0, ap (λ i. box_under i l) (sym same) ∙ s.boxed))

-- another's number isn't an identifier's
other_number : (what : ℕ → Option (List Volume4D)) (l : Located) (id k p : ℕ) → IsLocated what l → whose p l ≡ Some k → nat_eq k id ≡ false → is_that (number_of id l) p ≡ false
other_number what l id k p j owned ne = go (number_of id l) refl
  where
    at : (q : ℕ) (t : Bool) → nat_eq p q ≡ t → number_of id l ≡ Some q → t ≡ false
    at q true e is =
        let o : whose p l ≡ Some id = ap (λ i. whose i l) (eqb-true p q e) ∙ (own_number what l id q j is).0 in
        let same : k ≡ id = some_is k id (sym owned ∙ o) in
        absurd (let yes : nat_eq k id ≡ true = eq-eqb k id same in cc)
    at q false e is = refl

    go : (w : Option ℕ) → number_of id l ≡ w → is_that w p ≡ false
    go None e = refl
    go (Some q) e = at q (nat_eq p q) refl e

-- nor is a number without a box
free_number : (what : ℕ → Option (List Volume4D)) (l : Located) (id n : ℕ) → IsLocated what l → box_under n l ≡ None → is_that (number_of id l) n ≡ false
free_number what l id n j free = go (number_of id l) refl
  where
    at : (q : ℕ) (t : Bool) → nat_eq n q ≡ t → number_of id l ≡ Some q → t ≡ false
    at q true e is =
        let o = (own_number what l id q j is).1 in
        absurd (let yes : Some o.0 ≡ None = sym o.1 ∙ ap (λ i. box_under i l) (sym (eqb-true n q e)) ∙ free in cc)
    at q false e is = refl

    go : (w : Option ℕ) → number_of id l ≡ w → is_that w n ≡ false
    go None e = refl
    go (Some q) e = at q (nat_eq n q) refl e

-- who has a number that isn't an identifier's is another
not_own : (l : Located) (id k p : ℕ) → number_of k l ≡ Some p → is_that (number_of id l) p ≡ false → nat_eq k id ≡ false
not_own l id k p named not = go (nat_eq k id) refl
  where
    go : (t : Bool) → nat_eq k id ≡ t → t ≡ false
    go true e =
        let own : number_of id l ≡ Some p = ap (λ i. number_of i l) (sym (eqb-true k id e)) ∙ named in
        let yes : is_that (number_of id l) p ≡ true = ap (λ w. is_that w p) own ∙ eq-eqb p p refl in
        absurd (let no : true ≡ false = sym yes ∙ not in cc)
    go false e = refl

-- ---- a thing has other volumes, or is a new one
module _ (what what' : ℕ → Option (List Volume4D)) (n id : ℕ) (vs : List Volume4D) (b : Box4) (l m o : Located) (j : IsLocated what l) (free : box_under n l ≡ None)
    (bounding : IsBoundingBox vs (bounding_box vs)) (boxed : b ≡ bounding_box vs) (e : IsEntered n id b l m) (w : IsWithout (number_of id l) m o) (kept : AreNumbersKept m o)
    (now : (k : ℕ) → what' k ≡ cond (nat_eq k id) (Some vs) (what k)) where
  box_of_other : (p : ℕ) → is_that (number_of id l) p ≡ false → nat_eq p n ≡ false → box_under p o ≡ box_under p l
  box_of_other p not ne = w.boxes p ∙ ap (λ t. cond t None (box_under p m)) not ∙ e.boxes p ∙ ap (λ t. cond t (Some b) (box_under p l)) ne

  owner_of_other : (p : ℕ) → is_that (number_of id l) p ≡ false → nat_eq p n ≡ false → whose p o ≡ whose p l
  owner_of_other p not ne = w.ids p ∙ ap (λ t. cond t None (whose p m)) not ∙ e.ids p ∙ ap (λ t. cond t (Some id) (whose p l)) ne

  number_of_other : (k : ℕ) → nat_eq k id ≡ false → number_of k o ≡ number_of k l
  number_of_other k ne = kept k ∙ e.numbers k ∙ ap (λ t. cond t (Some n) (number_of k l)) ne

  own_named : number_of id o ≡ Some n
  own_named = kept id ∙ e.numbers id ∙ ap (λ t. cond t (Some n) (number_of id l)) (eq-eqb id id refl)

  own_owned : whose n o ≡ Some id
  own_owned = w.ids n ∙ ap (λ t. cond t None (whose n m)) (free_number what l id n j free) ∙ e.ids n ∙ ap (λ t. cond t (Some id) (whose n l)) (eq-eqb n n refl)

  own_box : box_under n o ≡ Some b
  own_box = w.boxes n ∙ ap (λ t. cond t None (box_under n m)) (free_number what l id n j free) ∙ e.boxes n ∙ ap (λ t. cond t (Some b) (box_under n l)) (eq-eqb n n refl)

  what_own : what' id ≡ Some vs
  what_own = now id ∙ ap (λ t. cond t (Some vs) (what id)) (eq-eqb id id refl)

  what_other : (k : ℕ) → nat_eq k id ≡ false → what' k ≡ what k
  what_other k ne = now k ∙ ap (λ t. cond t (Some vs) (what k)) ne

  stands_own : Stands o id vs
  stands_own = record { number = n; named = own_named; owned = own_owned; boxed = own_box ∙ ap Some boxed; bounding = bounding }

  stands_at : (k : ℕ) (ws : List Volume4D) (t : Bool) → nat_eq k id ≡ t → what' k ≡ Some ws → Stands o k ws
  stands_at k ws true q h =
      let same = eqb-true k id q in
      let vols : vs ≡ ws = some_is vs ws (sym what_own ∙ ap what' (sym same) ∙ h) in
      subst2 (λ (i : ℕ) (us : List Volume4D). Stands o i us) (sym same) vols stands_own
    where
      subst2 : (P : ℕ → List Volume4D → Type 0) {a c : ℕ} {us xs : List Volume4D} → a ≡ c → us ≡ xs → P a us → P c xs
      subst2 P f g x = rw (← f, ← g) x
  stands_at k ws false q h =
      let s = j.all k ws (sym (what_other k q) ∙ h) in
      let not = other_number what l id k s.number j s.owned q in
      let ne = differ l s.number n (bounding_box ws) s.boxed free in
      record { number = s.number; named = number_of_other k q ∙ s.named; owned = owner_of_other s.number not ne ∙ s.owned; boxed = box_of_other s.number not ne ∙ s.boxed; bounding = s.bounding }

  belongs_at : (p : ℕ) (c : Box4) (s t : Bool) → is_that (number_of id l) p ≡ s → nat_eq p n ≡ t → box_under p o ≡ Some c → BelongsTo what' o p c
  belongs_at p c true t is q h = absurd (let no : None ≡ Some c = sym (w.boxes p ∙ ap (λ t. cond t None (box_under p m)) is) ∙ h in cc)
  belongs_at p c false true is q h =
      let same = eqb-true p n q in
      let box : b ≡ c = some_is b c (sym own_box ∙ ap (λ i. box_under i o) (sym same) ∙ h) in
      record { id = id; volumes = vs; there = what_own; boxed = sym box ∙ boxed; named = own_named ∙ ap Some (sym same); owned = ap (λ i. whose i o) same ∙ own_owned }
  belongs_at p c false false is q h =
      let t = j.only p c (sym (box_of_other p is q) ∙ h) in
      let ne = not_own l id t.id p t.named is in
      record { id = t.id; volumes = t.volumes; there = what_other t.id ne ∙ t.there; boxed = t.boxed; named = number_of_other t.id ne ∙ t.named; owned = owner_of_other p is q ∙ t.owned }

  named_at : (k p : ℕ) (t : Bool) → nat_eq k id ≡ t → number_of k o ≡ Some p → (volumes : List Volume4D) × (what' k ≡ Some volumes)
  named_at k p true q h = (vs, ap what' (eqb-true k id q) ∙ what_own)
  named_at k p false q h = let t = j.named k p (sym (number_of_other k q) ∙ h) in (t.0, what_other k q ∙ t.1)

  pub moved : IsLocated what' o
  moved = record {
    all = λ k ws h. stands_at k ws (nat_eq k id) refl h;
    only = λ p c h. belongs_at p c (is_that (number_of id l) p) (nat_eq p n) refl refl h;
    named = λ k p h. named_at k p (nat_eq k id) refl h;
  }

-- ---- a thing is gone
module _ (what what' : ℕ → Option (List Volume4D)) (id : ℕ) (l o : Located) (j : IsLocated what l) (w : IsWithout (number_of id l) l o) (u : IsNumbered id None l o)
    (now : (k : ℕ) → what' k ≡ cond (nat_eq k id) None (what k)) where
  box_stays : (p : ℕ) → is_that (number_of id l) p ≡ false → box_under p o ≡ box_under p l
  box_stays p not = w.boxes p ∙ ap (λ t. cond t None (box_under p l)) not

  owner_stays : (p : ℕ) → is_that (number_of id l) p ≡ false → whose p o ≡ whose p l
  owner_stays p not = w.ids p ∙ ap (λ t. cond t None (whose p l)) not

  number_stays : (k : ℕ) → nat_eq k id ≡ false → number_of k o ≡ number_of k l
  number_stays k ne = u k ∙ ap (λ t. cond t None (number_of k l)) ne

  what_stays : (k : ℕ) → nat_eq k id ≡ false → what' k ≡ what k
  what_stays k ne = now k ∙ ap (λ t. cond t None (what k)) ne

  stays_at : (k : ℕ) (ws : List Volume4D) (t : Bool) → nat_eq k id ≡ t → what' k ≡ Some ws → Stands o k ws
  stays_at k ws true q h = absurd (let no : None ≡ Some ws = sym (now k ∙ ap (λ t. cond t None (what k)) q) ∙ h in cc)
  stays_at k ws false q h =
      let s = j.all k ws (sym (what_stays k q) ∙ h) in
      let not = other_number what l id k s.number j s.owned q in
      record { number = s.number; named = number_stays k q ∙ s.named; owned = owner_stays s.number not ∙ s.owned; boxed = box_stays s.number not ∙ s.boxed; bounding = s.bounding }

  left_at : (p : ℕ) (c : Box4) (s : Bool) → is_that (number_of id l) p ≡ s → box_under p o ≡ Some c → BelongsTo what' o p c
  left_at p c true is h = absurd (let no : None ≡ Some c = sym (w.boxes p ∙ ap (λ t. cond t None (box_under p l)) is) ∙ h in cc)
  left_at p c false is h =
      let t = j.only p c (sym (box_stays p is) ∙ h) in
      let ne = not_own l id t.id p t.named is in
      record { id = t.id; volumes = t.volumes; there = what_stays t.id ne ∙ t.there; boxed = t.boxed; named = number_stays t.id ne ∙ t.named; owned = owner_stays p is ∙ t.owned }

  numbered_at : (k p : ℕ) (t : Bool) → nat_eq k id ≡ t → number_of k o ≡ Some p → (volumes : List Volume4D) × (what' k ≡ Some volumes)
  numbered_at k p true q h = absurd (let no : None ≡ Some p = sym (u k ∙ ap (λ t. cond t None (number_of k l)) q) ∙ h in cc)
  numbered_at k p false q h = let t = j.named k p (sym (number_stays k q) ∙ h) in (t.0, what_stays k q ∙ t.1)

  pub gone : IsLocated what' o
  gone = record {
    all = λ k ws h. stays_at k ws (nat_eq k id) refl h;
    only = λ p c h. left_at p c (is_that (number_of id l) p) refl h;
    named = λ k p h. numbered_at k p (nat_eq k id) refl h;
  }

-- the same where the things are the same
pub same_things : (what what' : ℕ → Option (List Volume4D)) (l : Located) → ((k : ℕ) → what' k ≡ what k) → IsLocated what l → IsLocated what' l
same_things what what' l same j = record {
  all = λ k ws h. j.all k ws (sym (same k) ∙ h);
  only = λ p c h. let t = j.only p c h in record { id = t.id; volumes = t.volumes; there = same t.id ∙ t.there; boxed = t.boxed; named = t.named; owned = t.owned };
  named = λ k p h. let t = j.named k p h in (t.0, same k ∙ t.1);
}

-- the box of these volumes, as of those
pub bounded_as : (us vs : List Volume4D) (b : Box4) → us ≡ vs → b ≡ bounding_box us → IsBoundingBox us b → IsBoundingBox vs (bounding_box vs) × (b ≡ bounding_box vs)
bounded_as us vs b e f h =
    let g = f ∙ ap bounding_box e in
    (subst (λ (x : List Volume4D). IsBoundingBox x (bounding_box vs)) e (subst (IsBoundingBox us) g h), g)
