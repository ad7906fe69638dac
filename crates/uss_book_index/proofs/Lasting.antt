-- The least start and the greatest end of volumes.
use Rattle.std.proofs.Common.{ℕ, ◌<◌, ◌+◌, ◌≡◌, true, ℤ, List, [], ◌∷◌, ◌++◌, length, length-append, get_or, ◌||◌, Some, is_some, refl, arith, zero, suc}
use Rattle.std.specs.Prelude.{◌≤ℤ◌, All, Any, int_le, nat_le, nat_lt}
use Rattle.std.specs.Int.{int_min, int_max}
use Rattle.std.specs.List.{list_all, list_any}
use Rattle.std.specs.Ordering.{int_eq}
use Rattle.std.proofs.lemmas.Int.{by_lt_z, ints}
use Rattle.std.proofs.lemmas.Bool.{and_parts, and_from, ltb-true}
use Rattle.std.proofs.lemmas.Cmp.{int_eq_equiv}
use Rattle.std.proofs.lemmas.List.Sums.{list_all-from_AllPass}
use Rattle.std.proofs.lemmas.List.Folds.{list_any-from_Any}
use Rattle.std.proofs.lemmas.List.Elements.{All-append}
use Rattle.uss_shape.proofs.Ring.{linc}
use Rattle.uss_shape.proofs.Extreme.{any_here, any_more}
use Rattle.uss_shape.specs.Shape.{IsLeast, IsGreatest}
use Rattle.uss_vol4.specs.Volume.{Volume4D, IsVolume}
use Rattle.uss_vol4.specs.Bounding.{bounding_box}
use Rattle.uss_vol4.proofs.Round.{bounding_box_is}
use Rattle.uss_intent.specs.declared.records.State.{State}
use Rattle.uss_intent.specs.declared.records.Reference.{Reference}
use Rattle.uss_event.specs.declared.details.Details.{Details}
use Rattle.uss_event.specs.Plans.{is_plan, vertex_count, may_be_off_nominal, is_least_start, is_greatest_end}
use Rattle.uss_event.specs.Pairs.{is_pair}

le_true : (a b : ℤ) → a ≤ℤ b → int_le a b ≡ true
le_true a b h = grind (arith, ints)

same_true : (a b : ℤ) → a ≡ b → int_eq a b ≡ true
same_true a b h = rw h (int_eq_equiv.refl b)

any_left : {A : Type 0} (P : A → Type 0) (xs ys : List A) → Any P xs → Any P (xs ++ ys)
any_left P [] ys r = let l = r.2 in absurd (omega (arith, l))
any_left P (x ∷ xs) ys (zero, y, l, e, h) = any_here P x (xs ++ ys) (rw e h)
any_left P (x ∷ xs) ys (suc k, y, l, e, h) = any_more P x (xs ++ ys) (any_left P xs ys (k, y, omega (arith, l), e, h))

any_right : {A : Type 0} (P : A → Type 0) (xs ys : List A) → Any P ys → Any P (xs ++ ys)
any_right P [] ys r = r
any_right P (x ∷ xs) ys r = any_more P x (xs ++ ys) (any_right P xs ys r)

least_left : {A : Type 0} (f : A → ℤ) (xs ys : List A) (a b : ℤ) → a ≤ℤ b → IsLeast f xs a → IsLeast f ys b → IsLeast f (xs ++ ys) a
least_left f xs ys a b le l m =
    record {
      bound = All-append (λ x. a ≤ℤ f x) xs ys l.bound (λ k d s. let h = m.bound k d s in omega linc);
      reached = any_left (λ x. f x ≡ a) xs ys l.reached;
    }

least_right : {A : Type 0} (f : A → ℤ) (xs ys : List A) (a b : ℤ) → b ≤ℤ a → IsLeast f xs a → IsLeast f ys b → IsLeast f (xs ++ ys) b
least_right f xs ys a b le l m =
    record {
      bound = All-append (λ x. b ≤ℤ f x) xs ys (λ k d s. let h = l.bound k d s in omega linc) m.bound;
      reached = any_right (λ x. f x ≡ b) xs ys m.reached;
    }

least_both : {A : Type 0} (f : A → ℤ) (xs ys : List A) (a b : ℤ) → IsLeast f xs a → IsLeast f ys b → IsLeast f (xs ++ ys) (int_min a b)
least_both f xs ys a b l m =
    by_lt_z b a
    (λ s. let e : int_min a b ≡ b = omega linc in rw e (least_right f xs ys a b (omega linc) l m))
    (λ s. let e : int_min a b ≡ a = omega linc in rw e (least_left f xs ys a b (omega linc) l m))

greatest_left : {A : Type 0} (f : A → ℤ) (xs ys : List A) (a b : ℤ) → b ≤ℤ a → IsGreatest f xs a → IsGreatest f ys b → IsGreatest f (xs ++ ys) a
greatest_left f xs ys a b le l m =
    record {
      bound = All-append (λ x. f x ≤ℤ a) xs ys l.bound (λ k d s. let h = m.bound k d s in omega linc);
      reached = any_left (λ x. f x ≡ a) xs ys l.reached;
    }

greatest_right : {A : Type 0} (f : A → ℤ) (xs ys : List A) (a b : ℤ) → a ≤ℤ b → IsGreatest f xs a → IsGreatest f ys b → IsGreatest f (xs ++ ys) b
greatest_right f xs ys a b le l m =
    record {
      bound = All-append (λ x. f x ≤ℤ b) xs ys (λ k d s. let h = l.bound k d s in omega linc) m.bound;
      reached = any_right (λ x. f x ≡ b) xs ys m.reached;
    }

greatest_both : {A : Type 0} (f : A → ℤ) (xs ys : List A) (a b : ℤ) → IsGreatest f xs a → IsGreatest f ys b → IsGreatest f (xs ++ ys) (int_max a b)
greatest_both f xs ys a b l m =
    by_lt_z b a
    (λ s. let e : int_max a b ≡ a = omega linc in rw e (greatest_left f xs ys a b (omega linc) l m))
    (λ s. let e : int_max a b ≡ b = omega linc in rw e (greatest_right f xs ys a b (omega linc) l m))

one_least : {A : Type 0} (f : A → ℤ) (xs : List A) (m n : ℤ) → IsLeast f xs m → IsLeast f xs n → m ≡ n
one_least f xs m n l k =
    let r = l.reached in
    let s = k.reached in
    let below : n ≤ℤ f r.1 = rw r.3 at (k.bound r.0 r.1 r.2) in
    let above : m ≤ℤ f s.1 = rw s.3 at (l.bound s.0 s.1 s.2) in
    let is : f r.1 ≡ m = r.4 in
    let its : f s.1 ≡ n = s.4 in
    omega linc

one_greatest : {A : Type 0} (f : A → ℤ) (xs : List A) (m n : ℤ) → IsGreatest f xs m → IsGreatest f xs n → m ≡ n
one_greatest f xs m n l k =
    let r = l.reached in
    let s = k.reached in
    let below : f r.1 ≤ℤ n = rw r.3 at (k.bound r.0 r.1 r.2) in
    let above : f s.1 ≤ℤ m = rw s.3 at (l.bound s.0 s.1 s.2) in
    let is : f r.1 ≡ m = r.4 in
    let its : f s.1 ≡ n = s.4 in
    omega linc

some_both : {A : Type 0} (xs ys : List A) → 0 < length xs → 0 < length (xs ++ ys)
some_both xs ys h = let l = length-append xs ys in omega (arith, l, h)

pub start_of_both : (vs ws : List Volume4D) → 0 < length vs → 0 < length ws → All IsVolume vs → All IsVolume ws → int_min (bounding_box vs).start (bounding_box ws).start ≡ (bounding_box (vs ++ ws)).start
start_of_both vs ws h k v w =
    one_least (λ (x : Volume4D). x.start) (vs ++ ws) (int_min (bounding_box vs).start (bounding_box ws).start) (bounding_box (vs ++ ws)).start
    (least_both (λ (x : Volume4D). x.start) vs ws (bounding_box vs).start (bounding_box ws).start (bounding_box_is vs h v).start (bounding_box_is ws k w).start)
    (bounding_box_is (vs ++ ws) (some_both vs ws h) (All-append IsVolume vs ws v w)).start

pub end_of_both : (vs ws : List Volume4D) → 0 < length vs → 0 < length ws → All IsVolume vs → All IsVolume ws → int_max (bounding_box vs).end (bounding_box ws).end ≡ (bounding_box (vs ++ ws)).end
end_of_both vs ws h k v w =
    one_greatest (λ (x : Volume4D). x.end) (vs ++ ws) (int_max (bounding_box vs).end (bounding_box ws).end) (bounding_box (vs ++ ws)).end
    (greatest_both (λ (x : Volume4D). x.end) vs ws (bounding_box vs).end (bounding_box ws).end (bounding_box_is vs h v).end (bounding_box_is ws k w).end)
    (bounding_box_is (vs ++ ws) (some_both vs ws h) (All-append IsVolume vs ws v w)).end

-- ---- an intent that lasts so

least_test : (vs : List Volume4D) (m : ℤ) → IsLeast (λ (v : Volume4D). v.start) vs m → is_least_start m vs ≡ true
least_test vs m l =
    and_from (list_all (λ v. int_le m v.start) vs) (list_any (λ v. int_eq v.start m) vs)
    (list_all-from_AllPass (λ (v : Volume4D). int_le m v.start) vs (λ k d s. le_true m (get_or vs k d).start (l.bound k d s)))
    (list_any-from_Any (λ (v : Volume4D). int_eq v.start m) vs (let r = l.reached in (r.0, r.1, r.2, r.3, same_true r.1.start m r.4)))

greatest_test : (vs : List Volume4D) (m : ℤ) → IsGreatest (λ (v : Volume4D). v.end) vs m → is_greatest_end m vs ≡ true
greatest_test vs m l =
    and_from (list_all (λ v. int_le v.end m) vs) (list_any (λ v. int_eq v.end m) vs)
    (list_all-from_AllPass (λ (v : Volume4D). int_le v.end m) vs (λ k d s. le_true (get_or vs k d).end m (l.bound k d s)))
    (list_any-from_Any (λ (v : Volume4D). int_eq v.end m) vs (let r = l.reached in (r.0, r.1, r.2, r.3, same_true r.1.end m r.4)))

-- what a plan has
pub plan_has_some : (to : State) (vs ws : List Volume4D) (priority : ℕ) → is_plan to vs ws priority ≡ true → 0 < length vs + length ws
unfolding is_plan
plan_has_some to vs ws priority h =
    let a = and_parts (nat_le (length vs + length ws) 64) _ h in
    let b = and_parts (nat_le (vertex_count vs + vertex_count ws) 10000) _ a.1 in
    let c = and_parts (may_be_off_nominal to || nat_le (length ws) 0) _ b.1 in
    let d = and_parts (nat_lt 0 (length vs + length ws)) _ c.1 in
    ltb-true 0 (length vs + length ws) d.0

pub lasting_is_pair : (r : Reference) (d : Details) (ovn : List ℕ) → r.ovn ≡ Some ovn → is_plan r.state d.volumes d.off_nominal d.priority ≡ true → All IsVolume d.volumes → All IsVolume d.off_nominal
    → r.start ≡ (bounding_box (d.volumes ++ d.off_nominal)).start → r.end ≡ (bounding_box (d.volumes ++ d.off_nominal)).end → is_pair r d ≡ true
unfolding is_pair
lasting_is_pair r d ovn shown plan v w start end =
    let some = plan_has_some r.state d.volumes d.off_nominal d.priority plan in
    let l = length-append d.volumes d.off_nominal in
    let box = bounding_box_is (d.volumes ++ d.off_nominal) (omega (arith, some, l)) (All-append IsVolume d.volumes d.off_nominal v w) in
    and_from (is_some r.ovn) _ (rw shown refl)
    (and_from (is_plan r.state d.volumes d.off_nominal d.priority) _ plan
    (and_from (is_least_start r.start (d.volumes ++ d.off_nominal)) (is_greatest_end r.end (d.volumes ++ d.off_nominal))
    (rw start (least_test (d.volumes ++ d.off_nominal) (bounding_box (d.volumes ++ d.off_nominal)).start box.start))
    (rw end (greatest_test (d.volumes ++ d.off_nominal) (bounding_box (d.volumes ++ d.off_nominal)).end box.end))))
