use Rattle.uss_shape.proofs.Ring.{lin}
use Rattle.uss_shape.specs.Words.{SomeEdge, Straddle, Ranges, InR, odd}
use Rattle.std.proofs.Common.{◌≡◌, ◌↔◌, ◌⊎◌, inl, inr, Bool, true, false, IsTrue, ◌&&◌, ◌||◌, refl, sym, List, [], ◌∷◌, ℤ, pos, ◌*ℤ◌}
use Rattle.std.specs.List.{list_any}
use Rattle.uss_shape.specs.declared.Place.{Place}
use Rattle.uss_shape.specs.Plane.{cross, Edge, edge, edges, fine, fine_edge, is_above, IsOn, Between, Common, Meet, InRegion}
use Rattle.uss_shape.specs.Overlap.{ranges_touch, is_straddling, edges_touch, region_holds, region_holds_first, outlines_meet}
use Rattle.uss_shape.proofs.Sides.{le_is}
use Rattle.uss_shape.proofs.Meeting.{at_place, on_left, common_of_touches}
use Rattle.uss_shape.proofs.Converse.{touches_of_common}
use Rattle.uss_shape.proofs.Decide.{coarse_on}
use Rattle.uss_shape.proofs.Forms.{in_r, in_region}
use Rattle.uss_shape.proofs.Same.{place_eq}
use Rattle.uss_shape.proofs.First.{FirstIn, Found, meet_is_found}

-- ---- tests and what they tell
pub and_tells : (a b : Bool) {P Q : Type 0} → (IsTrue a ↔ P) → (IsTrue b ↔ Q) → IsTrue (a && b) ↔ (P × Q)
and_tells true true f g = (λ _. (f.0 refl, g.0 refl), λ _. refl)
and_tells true false f g = (λ h. absurd (let e : false ≡ true = h in cc), λ k. g.1 k.1)
and_tells false b f g = (λ h. absurd (let e : false ≡ true = h in cc), λ k. f.1 k.0)

pub or_tells : (a b : Bool) {P Q : Type 0} → (IsTrue a ↔ P) → (IsTrue b ↔ Q) → IsTrue (a || b) ↔ (P ⊎ Q)
or_tells true b f g = (λ _. inl (f.0 refl), λ _. refl)
or_tells false b f g = (λ h. inr (g.0 h), λ k. elim k [ inl p ↦ absurd (let e : false ≡ true = f.1 p in cc) | inr q ↦ g.1 q ])

-- two tests of one fact
pub same_test : (a b : Bool) {P : Type 0} → (IsTrue a ↔ P) → (IsTrue b ↔ P) → a ≡ b
same_test true b f g = sym (g.1 (f.0 refl))
same_test false true f g = f.1 (g.0 refl)
same_test false false f g = refl

some_tells : (t : Edge → Bool) (P : Edge → Type 0) → ((e : Edge) → IsTrue (t e) ↔ P e) → (es : List Edge) → IsTrue (list_any t es) ↔ SomeEdge P es
some_tells t P f [] = (λ h. absurd (let e : false ≡ true = h in cc), λ s. absurd s)
some_tells t P f (e ∷ es) = or_tells (t e) (list_any t es) (f e) (some_tells t P f es)

-- ---- edges
ranges_tell : (a b p q : ℤ) → IsTrue (ranges_touch a b p q) ↔ Ranges a b p q
ranges_tell a b p q = and_tells _ _ (le_is _ _) (le_is _ _)

straddle_tells : (s t : ℤ) → IsTrue (is_straddling s t) ↔ Straddle s t
straddle_tells s t = or_tells _ _ (and_tells _ _ (le_is s (pos 0)) (le_is (pos 0) t)) (and_tells _ _ (le_is t (pos 0)) (le_is (pos 0) s))

edges_tell : (e f : Edge) → IsTrue (edges_touch e f) ↔ Common e f
edges_tell e f =
    let k = and_tells _ _
    (and_tells _ _ (ranges_tell e.from.x e.to.x f.from.x f.to.x) (ranges_tell e.from.y e.to.y f.from.y f.to.y))
    (and_tells _ _ (straddle_tells (cross e.from e.to f.from) (cross e.from e.to f.to)) (straddle_tells (cross f.from f.to e.from) (cross f.from f.to e.to))) in (
      λ h. let r = k.0 h in
          common_of_touches e.from e.to f.from f.to (record { across = (r.0.0.1, r.0.0.0); upward = (r.0.1.1, r.0.1.0); ends = r.1.0; ends' = r.1.1 }),
      λ c. let t = touches_of_common e.from e.to f.from f.to c in
          k.1 (((t.across.1, t.across.0), (t.upward.1, t.upward.0)), (t.ends, t.ends')),
    )

-- ---- a place as an edge from itself to itself
pinch : (a c : ℤ) → Between a a c → c ≡ a
pinch a c (inl h) = omega lin
pinch a c (inr h) = omega lin

at_end : (p : Place) (d : ℤ) (z : Place) → IsOn z (fine_edge d (edge p p)) → z ≡ fine d p
at_end p d z on = place_eq z (fine d p) (pinch (d *ℤ p.x) z.x on.1) (pinch (d *ℤ p.y) z.y on.2)

on_tells : (p : Place) (e : Edge) → IsTrue (edges_touch (edge p p) e) ↔ IsOn p e
on_tells p e = (
  λ h. let c : Common (edge p p) e = (edges_tell (edge p p) e).0 h in
      coarse_on c.1 p e c.2 (rw (at_end p c.1 c.0 c.3) at c.4),
  λ on. (edges_tell (edge p p) e).1 (at_place p (edge p p) e (on_left p p) on),
)

true_tells : (b : Bool) → IsTrue b ↔ (b ≡ true)
true_tells b = (λ h. h, λ h. h)

holds_r : (vs : List Place) (p : Place) → IsTrue (region_holds vs p) ↔ InR vs p
unfolding region_holds
holds_r vs p = or_tells _ _ (some_tells (edges_touch (edge p p)) (IsOn p) (on_tells p) (edges vs)) (true_tells (odd (is_above p) (edges vs)))

first_tells : (us vs : List Place) → IsTrue (region_holds_first us vs) ↔ FirstIn us vs
unfolding region_holds_first
first_tells us [] = (λ h. absurd (let e : false ≡ true = h in cc), λ s. absurd s)
first_tells us (v ∷ vs) = holds_r us v

found_tells : (us vs : List Place) → IsTrue (outlines_meet us vs) ↔ Found us vs
unfolding outlines_meet
found_tells us vs =
    or_tells _ _
    (some_tells (λ e. list_any (edges_touch e) (edges vs)) (λ e. SomeEdge (Common e) (edges vs)) (λ e. some_tells (edges_touch e) (Common e) (edges_tell e) (edges vs)) (edges us))
    (or_tells _ _ (first_tells vs us) (first_tells us vs))

-- the test answers whether a place is in the region
pub region_holds_tells : (vs : List Place) (p : Place) → IsTrue (region_holds vs p) ↔ InRegion vs p
region_holds_tells vs p = (λ h. in_region vs p ((holds_r vs p).0 h), λ i. (holds_r vs p).1 (in_r vs p i))

-- the test answers whether the regions have a point in common
pub outlines_meet_tells : (us vs : List Place) → IsTrue (outlines_meet us vs) ↔ Meet us vs
outlines_meet_tells us vs = (
  λ h. (meet_is_found us vs).1 ((found_tells us vs).0 h),
  λ m. (found_tells us vs).1 ((meet_is_found us vs).0 m),
)
