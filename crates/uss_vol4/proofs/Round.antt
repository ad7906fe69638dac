use Rattle.std.proofs.Common.{◌≡◌, zero, suc, ◌<◌, ◌⊎◌, inl, inr, refl, ◌∙◌, arith, List, [], ◌∷◌, ◌++◌, length, get_or, ℤ}
use Rattle.std.specs.Prelude.{◌≤ℤ◌, All, Any, Result, Ok, Err, IfErr}
use Rattle.std.specs.Int.{int_min, int_max}
use Rattle.std.specs.List.{fold, flat_map}
use Rattle.std.proofs.lemmas.Int.{ints, clamps}
use Rattle.std.proofs.lemmas.List.Elements.{All-nil, All-cons, All-head, All-tail, All-append}
use Rattle.uss_shape.specs.declared.Place.{Place}
use Rattle.uss_shape.specs.Shape.{IsLeast, IsGreatest, IsBounds, bounds_of}
use Rattle.uss_shape.proofs.Extreme.{any_here, any_more, least_from, greatest_from, least_of, greatest_of, bounds_are}
use Rattle.uss_vol4.specs.declared.Box4.{Box4}
use Rattle.uss_vol4.specs.Volume.{Volume4D, IsVolume, InAltitude, InTime}
use Rattle.uss_vol4.specs.Bounding.{vertices_of, IsBoundingBox, box_of, joined, bounding_box, BoundsSome}
use Rattle.uss_vol4.specs.declared.VolRefusal.{VolRefusal}
use Rattle.uss_vol4.specs.declared.VolRefusal.TheVariants.{LowAboveHigh, StartAfterEnd, AltitudeRange, TimeRange, Memory}
use Rattle.uss_vol4.specs.Refusal.{Refused}
use Rattle.uss_vol4.proofs.Share.{nowhere}

-- ---- lists joined end to end
any_right : {A : Type 0} (P : A → Type 0) (xs ys : List A) → Any P ys → Any P (xs ++ ys)
any_right P [] ys a = a
any_right P (x ∷ xs) ys a = any_more P x (xs ++ ys) (any_right P xs ys a)

any_split : {A : Type 0} (P : A → Type 0) (x : A) (xs : List A) → Any P (x ∷ xs) → P x ⊎ Any P xs
any_split P x xs (zero, e, l, i, h) = inl (rw (← i) at h)
any_split P x xs (suc k, e, l, i, h) = inr (k, e, omega (arith, l), i, h)

any_left : {A : Type 0} (P : A → Type 0) (xs ys : List A) → Any P xs → Any P (xs ++ ys)
any_left P [] ys (k, e, l, i, h) = absurd (omega (arith, l))
any_left P (x ∷ xs) ys a = elim (any_split P x xs a) [
  | inl h ↦ any_here P x (xs ++ ys) h
  | inr r ↦ any_more P x (xs ++ ys) (any_left P xs ys r)
]

any_flat : {A B : Type 0} (P : A → Type 0) (g : B → List A) (xs : List B) → Any (λ x. Any P (g x)) xs → Any P (flat_map g xs)
any_flat P g [] (k, e, l, i, h) = absurd (omega (arith, l))
any_flat P g (x ∷ xs) a = elim (any_split (λ y. Any P (g y)) x xs a) [
  | inl h ↦ any_left P (g x) (flat_map g xs) h
  | inr r ↦ any_right P (g x) (flat_map g xs) (any_flat P g xs r)
]

all_flat : {A B : Type 0} (P : A → Type 0) (g : B → List A) (xs : List B) → All (λ x. All P (g x)) xs → All P (flat_map g xs)
all_flat P g [] a = All-nil P
all_flat P g (x ∷ xs) a = All-append P (g x) (flat_map g xs) (All-head (λ y. All P (g y)) x xs a) (all_flat P g xs (All-tail (λ y. All P (g y)) x xs a))

-- the least of the parts' least is the least of all
least_flat : {A B : Type 0} (g : B → List A) (c : A → ℤ) (f : B → ℤ) (xs : List B) (m : ℤ) → All (λ x. IsLeast c (g x) (f x)) xs → IsLeast f xs m → IsLeast c (flat_map g xs) m
least_flat g c f xs m a o =
    let r : Any (λ x. f x ≡ m) xs = o.reached in
    let p : IsLeast c (g r.1) (f r.1) = rw r.3 at (a r.0 r.1 r.2) in
    let q : Any (λ y. c y ≡ f r.1) (g r.1) = p.reached in
    record {
      bound = all_flat (λ y. m ≤ℤ c y) g xs (λ k d h. λ j e l. let u = o.bound k d h in let v = (a k d h).bound j e l in omega (arith, ints));
      reached = any_flat (λ y. c y ≡ m) g xs (r.0, r.1, r.2, r.3, (q.0, q.1, q.2, q.3, q.4 ∙ r.4));
    }

greatest_flat : {A B : Type 0} (g : B → List A) (c : A → ℤ) (f : B → ℤ) (xs : List B) (m : ℤ) → All (λ x. IsGreatest c (g x) (f x)) xs → IsGreatest f xs m → IsGreatest c (flat_map g xs) m
greatest_flat g c f xs m a o =
    let r : Any (λ x. f x ≡ m) xs = o.reached in
    let p : IsGreatest c (g r.1) (f r.1) = rw r.3 at (a r.0 r.1 r.2) in
    let q : Any (λ y. c y ≡ f r.1) (g r.1) = p.reached in
    record {
      bound = all_flat (λ y. c y ≤ℤ m) g xs (λ k d h. λ j e l. let u = o.bound k d h in let v = (a k d h).bound j e l in omega (arith, ints));
      reached = any_flat (λ y. c y ≡ m) g xs (r.0, r.1, r.2, r.3, (q.0, q.1, q.2, q.3, q.4 ∙ r.4));
    }

-- ---- the box that grew over the volumes
abbrev pub grown_box : Box4 → List Volume4D → Box4
grown_box b vs = fold (λ (b : Box4) (w : Volume4D). joined b (box_of w)) b vs

x1_is : (b : Box4) (vs : List Volume4D) → (grown_box b vs).rect.x1 ≡ least_from (λ v. (bounds_of v.outline).x1) b.rect.x1 vs
x1_is b [] = refl
x1_is b (v ∷ vs) = x1_is (joined b (box_of v)) vs

y1_is : (b : Box4) (vs : List Volume4D) → (grown_box b vs).rect.y1 ≡ least_from (λ v. (bounds_of v.outline).y1) b.rect.y1 vs
y1_is b [] = refl
y1_is b (v ∷ vs) = y1_is (joined b (box_of v)) vs

x2_is : (b : Box4) (vs : List Volume4D) → (grown_box b vs).rect.x2 ≡ greatest_from (λ v. (bounds_of v.outline).x2) b.rect.x2 vs
x2_is b [] = refl
x2_is b (v ∷ vs) = x2_is (joined b (box_of v)) vs

y2_is : (b : Box4) (vs : List Volume4D) → (grown_box b vs).rect.y2 ≡ greatest_from (λ v. (bounds_of v.outline).y2) b.rect.y2 vs
y2_is b [] = refl
y2_is b (v ∷ vs) = y2_is (joined b (box_of v)) vs

low_is : (b : Box4) (vs : List Volume4D) → (grown_box b vs).low ≡ least_from (λ v. v.low) b.low vs
low_is b [] = refl
low_is b (v ∷ vs) = low_is (joined b (box_of v)) vs

high_is : (b : Box4) (vs : List Volume4D) → (grown_box b vs).high ≡ greatest_from (λ v. v.high) b.high vs
high_is b [] = refl
high_is b (v ∷ vs) = high_is (joined b (box_of v)) vs

start_is : (b : Box4) (vs : List Volume4D) → (grown_box b vs).start ≡ least_from (λ v. v.start) b.start vs
start_is b [] = refl
start_is b (v ∷ vs) = start_is (joined b (box_of v)) vs

end_is : (b : Box4) (vs : List Volume4D) → (grown_box b vs).end ≡ greatest_from (λ v. v.end) b.end vs
end_is b [] = refl
end_is b (v ∷ vs) = end_is (joined b (box_of v)) vs

abbrev shape : Volume4D → List Place
shape v = v.outline

outlines_are : (vs : List Volume4D) → All IsVolume vs → All (λ v. IsBounds v.outline (bounds_of v.outline)) vs
outlines_are vs a = λ k d h. let w = a k d h in bounds_are (get_or vs k d).outline (omega (arith, w.outline.enough))

bounding_rect : (v : Volume4D) (vs : List Volume4D) → All IsVolume (v ∷ vs) → IsBounds (vertices_of (v ∷ vs)) (grown_box (box_of v) (v ∷ vs)).rect
bounding_rect v vs a =
    let o = outlines_are (v ∷ vs) a in
    record {
      left = rw (x1_is (box_of v) (v ∷ vs)) (least_flat shape (λ p. p.x) (λ w. (bounds_of w.outline).x1) (v ∷ vs) _ (λ k d h. (o k d h).left) (least_of (λ w. (bounds_of w.outline).x1) v vs));
      low = rw (y1_is (box_of v) (v ∷ vs)) (least_flat shape (λ p. p.y) (λ w. (bounds_of w.outline).y1) (v ∷ vs) _ (λ k d h. (o k d h).low) (least_of (λ w. (bounds_of w.outline).y1) v vs));
      right = rw (x2_is (box_of v) (v ∷ vs)) (greatest_flat shape (λ p. p.x) (λ w. (bounds_of w.outline).x2) (v ∷ vs) _ (λ k d h. (o k d h).right) (greatest_of (λ w. (bounds_of w.outline).x2) v vs));
      high = rw (y2_is (box_of v) (v ∷ vs)) (greatest_flat shape (λ p. p.y) (λ w. (bounds_of w.outline).y2) (v ∷ vs) _ (λ k d h. (o k d h).high) (greatest_of (λ w. (bounds_of w.outline).y2) v vs));
    }

-- the function gives the bounding box
pub bounding_box_is : (vs : List Volume4D) → 0 < length vs → All IsVolume vs → IsBoundingBox vs (bounding_box vs)
unfolding bounding_box
bounding_box_is [] l a = absurd (omega arith)
bounding_box_is (v ∷ vs) l a = record {
  rect = bounding_rect v vs a;
  low = rw (low_is (box_of v) (v ∷ vs)) (least_of (λ (w : Volume4D). w.low) v vs);
  high = rw (high_is (box_of v) (v ∷ vs)) (greatest_of (λ (w : Volume4D). w.high) v vs);
  start = rw (start_is (box_of v) (v ∷ vs)) (least_of (λ (w : Volume4D). w.start) v vs);
  end = rw (end_is (box_of v) (v ∷ vs)) (greatest_of (λ (w : Volume4D). w.end) v vs);
}

pub grown_is : (vs : List Volume4D) (d : Volume4D) → 0 < length vs → grown_box (box_of (get_or vs 0 d)) vs ≡ bounding_box vs
unfolding bounding_box
grown_is [] d l = absurd (omega arith)
grown_is (v ∷ vs) d l = refl

-- ---- the box of one volume
min_self : (a : ℤ) → int_min a a ≡ a
min_self a = omega (arith, ints, clamps)

max_self : (a : ℤ) → int_max a a ≡ a
max_self a = omega (arith, ints, clamps)

one_box : (v : Volume4D) → bounding_box (v ∷ []) ≡ box_of v
unfolding bounding_box
one_box v = simp (min_self, max_self)

pub bounds_one : (v : Volume4D) → IsVolume v → BoundsSome (box_of v)
bounds_one v i =
    let a : All IsVolume (v ∷ []) = All-cons IsVolume v [] i (All-nil IsVolume) in
    record { volumes = v ∷ []; some = omega arith; well_formed = a; bounding = rw (one_box v) at (bounding_box_is (v ∷ []) (omega arith) a) }

-- ---- the box of some volumes makes a volume
record Chosen {A : Type 0} (Q : A → Type 0) (f : A → ℤ) (m : ℤ) : Type 0 where
  item : A
  so : Q item
  is : f item ≡ m

chosen : {A : Type 0} (Q : A → Type 0) (f : A → ℤ) (xs : List A) (m : ℤ) → All Q xs → Any (λ x. f x ≡ m) xs → Chosen Q f m
chosen Q f xs m a r = record { item = r.1; so = rw r.3 at (a r.0 r.1 r.2); is = r.4 }

pub record Ranges (b : Box4) : Type 0 where
  pub altitudes : b.low ≤ℤ b.high
  pub times : b.start ≤ℤ b.end
  pub low : InAltitude b.low
  pub high : InAltitude b.high
  pub start : InTime b.start
  pub end : InTime b.end

pub ranges_of : (b : Box4) → BoundsSome b → Ranges b
ranges_of b s =
    let n = s.bounding in
    let v : IsVolume (get_or s.volumes 0 nowhere) = s.well_formed 0 nowhere s.some in
    let lo = chosen IsVolume (λ w. w.low) s.volumes b.low s.well_formed n.low.reached in
    let hi = chosen IsVolume (λ w. w.high) s.volumes b.high s.well_formed n.high.reached in
    let st = chosen IsVolume (λ w. w.start) s.volumes b.start s.well_formed n.start.reached in
    let en = chosen IsVolume (λ w. w.end) s.volumes b.end s.well_formed n.end.reached in
    let l0 = n.low.bound 0 nowhere s.some in
    let h0 = n.high.bound 0 nowhere s.some in
    let s0 = n.start.bound 0 nowhere s.some in
    let e0 = n.end.bound 0 nowhere s.some in
    record {
      altitudes = let k = v.altitudes in omega (arith, ints);
      times = let k = v.times in omega (arith, ints);
      low = rw lo.is at lo.so.low;
      high = rw hi.is at hi.so.high;
      start = rw st.is at st.so.start;
      end = rw en.is at en.so.end;
    }

pub only_memory : {A : Type 0} (b : Box4) (x : Result A VolRefusal) → Ranges b → IfErr x (Refused b.low b.high b.start b.end) → IfErr x (λ e. e ≡ Memory)
only_memory b (Ok v) r h = h
only_memory b (Err LowAboveHigh) r h = let k = r.altitudes in absurd (omega (arith, ints, h))
only_memory b (Err StartAfterEnd) r h = let k = r.times in absurd (omega (arith, ints, h.1))
only_memory b (Err AltitudeRange) r h = absurd (h.2 (r.low, r.high))
only_memory b (Err TimeRange) r h = absurd (h.3 (r.start, r.end))
only_memory b (Err Memory) r h = refl
