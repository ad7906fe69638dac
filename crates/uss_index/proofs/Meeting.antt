-- When boxes have a point in common.
use Rattle.std.proofs.Common.{◌≡◌, ◌↔◌, inl, inr, Bool, true, false, IsTrue, ◌&&◌, ◌∙◌, ap, sym, refl, arith, ℤ, pos, ◌*ℤ◌}
use Rattle.std.specs.Prelude.{◌≤ℤ◌, ◌<ℤ◌}
use Rattle.std.specs.Int.{int_min, int_max}
use Rattle.std.proofs.lemmas.Int.{ints, clamps, by_lt_z}
use Rattle.uss_shape.specs.Plane.{Between}
use Rattle.uss_shape.specs.Overlap.{ranges_touch}
use Rattle.uss_shape.proofs.Ring.{ring, mul_le, le_cancel, mul_comm}
use Rattle.uss_shape.proofs.Sides.{le_is}
use Rattle.uss_shape.proofs.Answer.{and_tells}
use Rattle.uss_vol4.specs.declared.Box4.{Box4}
use Rattle.uss_vol4.specs.Sharing.{ranges_share}
use Rattle.uss_index.specs.Points.{HaveCommonPoint, have_common_point}

apart_bools : false ≡ true → ⊥
apart_bools e = cc

right_unit : (y : Bool) → y ≡ (y && true)
right_unit true = refl
right_unit false = refl

-- a number of the fine grid is between two of it: the least times the grid is at most the number, and this at most the greatest times it
pub least_below : (d a b c : ℤ) → pos 0 <ℤ d → Between (d *ℤ a) (d *ℤ b) c → (d *ℤ int_min a b) ≤ℤ c
least_below d a b c h (inl i) =
    let m : (int_min a b *ℤ d) ≤ℤ (a *ℤ d) = mul_le (int_min a b) d a (omega (arith, ints, clamps)) (omega (arith, ints)) in
    let e : d *ℤ int_min a b ≡ int_min a b *ℤ d = mul_comm d (int_min a b) in
    let f : d *ℤ a ≡ a *ℤ d = mul_comm d a in
    omega (arith, ints)
least_below d a b c h (inr i) =
    let m : (int_min a b *ℤ d) ≤ℤ (b *ℤ d) = mul_le (int_min a b) d b (omega (arith, ints, clamps)) (omega (arith, ints)) in
    let e : d *ℤ int_min a b ≡ int_min a b *ℤ d = mul_comm d (int_min a b) in
    let f : d *ℤ b ≡ b *ℤ d = mul_comm d b in
    omega (arith, ints)

pub greatest_above : (d a b c : ℤ) → pos 0 <ℤ d → Between (d *ℤ a) (d *ℤ b) c → c ≤ℤ (d *ℤ int_max a b)
greatest_above d a b c h (inl i) =
    let m : (b *ℤ d) ≤ℤ (int_max a b *ℤ d) = mul_le b d (int_max a b) (omega (arith, ints, clamps)) (omega (arith, ints)) in
    let e : d *ℤ int_max a b ≡ int_max a b *ℤ d = mul_comm d (int_max a b) in
    let f : d *ℤ b ≡ b *ℤ d = mul_comm d b in
    omega (arith, ints)
greatest_above d a b c h (inr i) =
    let m : (a *ℤ d) ≤ℤ (int_max a b *ℤ d) = mul_le a d (int_max a b) (omega (arith, ints, clamps)) (omega (arith, ints)) in
    let e : d *ℤ int_max a b ≡ int_max a b *ℤ d = mul_comm d (int_max a b) in
    let f : d *ℤ a ≡ a *ℤ d = mul_comm d a in
    omega (arith, ints)

pub coarser : (d a b : ℤ) → pos 0 <ℤ d → (d *ℤ a) ≤ℤ (d *ℤ b) → a ≤ℤ b
coarser d a b h l =
    let e : d *ℤ a ≡ a *ℤ d = mul_comm d a in
    let f : d *ℤ b ≡ b *ℤ d = mul_comm d b in
    le_cancel a d b (omega (arith, ints)) h

pub touch_of_point : (d a b p q c : ℤ) → pos 0 <ℤ d → Between (d *ℤ a) (d *ℤ b) c → Between (d *ℤ p) (d *ℤ q) c → int_min a b ≤ℤ int_max p q
touch_of_point d a b p q c h i j =
    let l = least_below d a b c h i in
    let g = greatest_above d p q c h j in
    coarser d (int_min a b) (int_max p q) h (omega (arith, ints))

-- the greater of the two least numbers is in both ranges
pub between_ends : (a b c : ℤ) → int_min a b ≤ℤ c → c ≤ℤ int_max a b → Between (pos 1 *ℤ a) (pos 1 *ℤ b) c
between_ends a b c h k = by_lt_z b a
    (λ l. inr (simp ring (omega (arith, ints, clamps)), simp ring (omega (arith, ints, clamps))))
    (λ l. inl (simp ring (omega (arith, ints, clamps)), simp ring (omega (arith, ints, clamps))))

touching : (a b p q : ℤ) → ℤ
touching a b p q = int_max (int_min a b) (int_min p q)

in_first : (a b p q : ℤ) → int_min a b ≤ℤ int_max p q → int_min p q ≤ℤ int_max a b → Between (pos 1 *ℤ a) (pos 1 *ℤ b) (touching a b p q)
unfolding touching
in_first a b p q h k = between_ends a b (touching a b p q) (omega (arith, ints, clamps)) (omega (arith, ints, clamps))

in_second : (a b p q : ℤ) → int_min a b ≤ℤ int_max p q → int_min p q ≤ℤ int_max a b → Between (pos 1 *ℤ p) (pos 1 *ℤ q) (touching a b p q)
unfolding touching
in_second a b p q h k = between_ends p q (touching a b p q) (omega (arith, ints, clamps)) (omega (arith, ints, clamps))

-- what the test says
pub record Overlaps (a b : Box4) : Type 0 where
  pub across : (int_min a.rect.x1 a.rect.x2 ≤ℤ int_max b.rect.x1 b.rect.x2) × (int_min b.rect.x1 b.rect.x2 ≤ℤ int_max a.rect.x1 a.rect.x2)
  pub upward : (int_min a.rect.y1 a.rect.y2 ≤ℤ int_max b.rect.y1 b.rect.y2) × (int_min b.rect.y1 b.rect.y2 ≤ℤ int_max a.rect.y1 a.rect.y2)
  pub height : int_max a.low b.low ≤ℤ int_min a.high b.high
  pub time : int_max a.start b.start ≤ℤ int_min a.end b.end

overlap : (a b : Box4) → HaveCommonPoint a b → Overlaps a b
overlap a b c =
    let p = c.in_first in
    let q = c.in_second in
    let d = c.positive in
    let h = p.height in
    let i = q.height in
    let t = p.time in
    let u = q.time in
    record {
      across = (touch_of_point _ _ _ _ _ _ d p.place.0 q.place.0, touch_of_point _ _ _ _ _ _ d q.place.0 p.place.0);
      upward = (touch_of_point _ _ _ _ _ _ d p.place.1 q.place.1, touch_of_point _ _ _ _ _ _ d q.place.1 p.place.1);
      height = omega (arith, ints, clamps);
      time = omega (arith, ints, clamps);
    }

common : (a b : Box4) → Overlaps a b → HaveCommonPoint a b
common a b o =
    let h = o.height in
    let t = o.time in
    record {
      point = record { x = touching a.rect.x1 a.rect.x2 b.rect.x1 b.rect.x2; y = touching a.rect.y1 a.rect.y2 b.rect.y1 b.rect.y2 };
      grid = pos 1;
      altitude = int_max a.low b.low;
      moment = int_max a.start b.start;
      positive = omega (arith, ints);
      in_first = record { place = (in_first _ _ _ _ o.across.0 o.across.1, in_first _ _ _ _ o.upward.0 o.upward.1); height = (omega (arith, ints, clamps), omega (arith, ints, clamps)); time = (omega (arith, ints, clamps), omega (arith, ints, clamps)) };
      in_second = record { place = (in_second _ _ _ _ o.across.0 o.across.1, in_second _ _ _ _ o.upward.0 o.upward.1); height = (omega (arith, ints, clamps), omega (arith, ints, clamps)); time = (omega (arith, ints, clamps), omega (arith, ints, clamps)) };
    }

pub tested : (a b : Box4) → IsTrue (have_common_point a b) ↔ Overlaps a b
unfolding have_common_point
tested a b =
    let k = and_tells _ _
    (and_tells _ _ (and_tells _ _ (le_is _ _) (le_is _ _)) (and_tells _ _ (le_is _ _) (le_is _ _)))
    (and_tells _ _ (le_is (int_max a.low b.low) (int_min a.high b.high)) (le_is (int_max a.start b.start) (int_min a.end b.end))) in (
      λ h. let r = k.0 h in record { across = r.0.0; upward = r.0.1; height = r.1.0; time = r.1.1 },
      λ o. k.1 ((o.across, o.upward), (o.height, o.time)),
    )

-- the test answers whether the boxes have a point in common
pub common_point_tells : (a b : Box4) → IsTrue (have_common_point a b) ↔ HaveCommonPoint a b
common_point_tells a b = let t = tested a b in (λ h. common a b (t.0 h), λ c. t.1 (overlap a b c))

-- two tests of one thing answer alike
pub tells_as : (r t : Bool) (P : Type 0) → r ≡ t → IsTrue t ↔ P → IsTrue r ↔ P
tells_as r t P e k = rw e k

-- ---- the four tests in their order
module _ (a b : Box4) where
  abbrev times : Bool
  times = ranges_share a.start a.end b.start b.end

  abbrev heights : Bool
  heights = ranges_share a.low a.high b.low b.high

  abbrev across : Bool
  across = ranges_touch a.rect.x1 a.rect.x2 b.rect.x1 b.rect.x2

  abbrev upward : Bool
  upward = ranges_touch a.rect.y1 a.rect.y2 b.rect.y1 b.rect.y2

four : (x y l t r : Bool) → t ≡ true → l ≡ true → x ≡ true → r ≡ y → r ≡ ((x && y) && (l && t))
four true y true true r e f g h = h ∙ right_unit y
four false y l t r e f g h = absurd (apart_bools g)
four true y false t r e f g h = absurd (apart_bools f)
four true y true false r e f g h = absurd (apart_bools e)

first : (x y l t : Bool) → t ≡ false → false ≡ ((x && y) && (l && t))
first true true true t e = sym e
first true true false t e = refl
first true false l t e = refl
first false y l t e = refl

second : (x y l t : Bool) → l ≡ false → false ≡ ((x && y) && (l && t))
second true true l t e = sym (ap (λ l. l && t) e)
second true false l t e = refl
second false y l t e = refl

third : (x y l t : Bool) → x ≡ false → false ≡ ((x && y) && (l && t))
third x y l t e = sym (ap (λ x. (x && y) && (l && t)) e)

pub times_apart : (a b : Box4) (r : Bool) → r ≡ times a b → r ≡ false → false ≡ have_common_point a b
unfolding have_common_point
times_apart a b r is e = first (across a b) (upward a b) (heights a b) (times a b) (sym is ∙ e)

pub heights_apart : (a b : Box4) (r : Bool) → r ≡ heights a b → r ≡ false → false ≡ have_common_point a b
unfolding have_common_point
heights_apart a b r is e = second (across a b) (upward a b) (heights a b) (times a b) (sym is ∙ e)

pub across_apart : (a b : Box4) (r : Bool) → r ≡ across a b → r ≡ false → false ≡ have_common_point a b
unfolding have_common_point
across_apart a b r is e = third (across a b) (upward a b) (heights a b) (times a b) (sym is ∙ e)

pub all_four : (a b : Box4) (t l x r : Bool) → t ≡ times a b → t ≡ true → l ≡ heights a b → l ≡ true → x ≡ across a b → x ≡ true → r ≡ upward a b → r ≡ have_common_point a b
unfolding have_common_point
all_four a b t l x r e e' f f' g g' h = four (across a b) (upward a b) (heights a b) (times a b) r (sym e ∙ e') (sym f ∙ f') (sym g ∙ g') h
