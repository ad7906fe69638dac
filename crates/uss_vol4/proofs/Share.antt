use Rattle.std.proofs.Common.{◌≡◌, ℕ, ◌↔◌, Bool, true, false, IsTrue, refl, ap, sym, ◌∙◌, ℤ, pos, arith, List, [], get_or}
use Rattle.std.specs.Prelude.{◌≤ℤ◌, Any}
use Rattle.std.specs.Int.{int_min, int_max}
use Rattle.std.specs.List.{list_any}
use Rattle.std.proofs.lemmas.Int.{ints, clamps}
use Rattle.std.proofs.lemmas.List.Folds.{Any-from_list_any, list_any-from_Any}
use Rattle.std.proofs.lemmas.List.{get_or_default}
use Rattle.uss_shape.specs.declared.Place.{Place}
use Rattle.uss_shape.specs.Plane.{Meet, HoldsPoint, InRegion}
use Rattle.std.proofs.lemmas.Bool.Decides.{Decides-int_eq}
use Rattle.uss_shape.proofs.Same.{same_vertices_tells}
use Rattle.uss_vol4.specs.Same.{same_volume}
use Rattle.uss_shape.proofs.Sides.{le_is}
use Rattle.uss_shape.proofs.Answer.{and_tells, region_holds_tells, outlines_meet_tells}
use Rattle.uss_shape.proofs.Forms.{map_fine_one}
use Rattle.uss_vol4.specs.Volume.{Volume4D, IsVolume, InRange, Overlap, Shares, ListsShare, Holds, NoneShared, IsLeastShared, IsFirstShared}
use Rattle.uss_vol4.specs.Sharing.{volume_holds, shares, any_shares}

-- ---- the greater of the two lower ends is in both ranges
pub shares_of_meet : (a b : Volume4D) → int_max a.low b.low ≤ℤ int_min a.high b.high → int_max a.start b.start ≤ℤ int_min a.end b.end → Meet a.outline b.outline → Shares a b
shares_of_meet a b h t m =
    record {
      point = m.point;
      grid = m.grid;
      altitude = int_max a.low b.low;
      moment = int_max a.start b.start;
      positive = m.positive;
      in_first = record { place = m.in_first; height = (omega (arith, ints, clamps), omega (arith, ints, clamps)); time = (omega (arith, ints, clamps), omega (arith, ints, clamps)) };
      in_second = record { place = m.in_second; height = (omega (arith, ints, clamps), omega (arith, ints, clamps)); time = (omega (arith, ints, clamps), omega (arith, ints, clamps)) };
    }

range_of_both : (a b c d x : ℤ) → InRange a b x → InRange c d x → int_max a c ≤ℤ int_min b d
range_of_both a b c d x h k = omega (arith, ints, clamps)

pub meet_of_shares : (a b : Volume4D) → Shares a b → Meet a.outline b.outline
meet_of_shares a b s = record { point = s.point; grid = s.grid; positive = s.positive; in_first = s.in_first.place; in_second = s.in_second.place }

pub height_of_shares : (a b : Volume4D) → Shares a b → int_max a.low b.low ≤ℤ int_min a.high b.high
height_of_shares a b s = range_of_both a.low a.high b.low b.high s.altitude s.in_first.height s.in_second.height

pub time_of_shares : (a b : Volume4D) → Shares a b → int_max a.start b.start ≤ℤ int_min a.end b.end
time_of_shares a b s = range_of_both a.start a.end b.start b.end s.moment s.in_first.time s.in_second.time

-- the test answers whether the volumes share
pub shares_tells : (a b : Volume4D) → IsTrue (shares a b) ↔ Shares a b
unfolding shares
shares_tells a b =
    let k = and_tells _ _ (le_is (int_max a.low b.low) (int_min a.high b.high)) (and_tells _ _ (le_is (int_max a.start b.start) (int_min a.end b.end)) (outlines_meet_tells a.outline b.outline)) in (
      λ h. let r = k.0 h in shares_of_meet a b r.0 r.1.0 r.1.1,
      λ s. k.1 (height_of_shares a b s, (time_of_shares a b s, meet_of_shares a b s)),
    )

-- ---- ranges in order
pub ranges_are : (a b c d : ℤ) → a ≤ℤ b → c ≤ℤ d → Overlap a b c d ↔ int_max a c ≤ℤ int_min b d
ranges_are a b c d h k = (λ (i, j). omega (arith, ints, clamps), λ l. (omega (arith, ints, clamps), omega (arith, ints, clamps)))

pub shares_are : (a b : Volume4D) → IsVolume a → IsVolume b → Overlap a.start a.end b.start b.end → Overlap a.low a.high b.low b.high → Meet a.outline b.outline ↔ Shares a b
shares_are a b v w t h = (
  λ m. shares_of_meet a b ((ranges_are a.low a.high b.low b.high v.altitudes w.altitudes).0 h) ((ranges_are a.start a.end b.start b.end v.times w.times).0 t) m,
  λ s. meet_of_shares a b s,
)

pub altitudes_are : (a b : Volume4D) → Shares a b → Overlap a.low a.high b.low b.high
altitudes_are a b s = let h = s.in_first.height in let k = s.in_second.height in (omega (arith, ints), omega (arith, ints))

pub times_are : (a b : Volume4D) → Shares a b → Overlap a.start a.end b.start b.end
times_are a b s = let h = s.in_first.time in let k = s.in_second.time in (omega (arith, ints), omega (arith, ints))

-- ---- whole places
pub holds_whole : (vs : List Place) (p : Place) → HoldsPoint vs p (pos 1) ↔ InRegion vs p
holds_whole vs p = rw (map_fine_one vs) (λ h. h, λ h. h)

-- the test answers whether the volume holds the whole place
pub volume_holds_tells : (v : Volume4D) (p : Place) (altitude moment : ℤ) → IsTrue (volume_holds v p altitude moment) ↔ Holds v p (pos 1) altitude moment
unfolding volume_holds
volume_holds_tells v p altitude moment =
    let k = and_tells _ _ (and_tells _ _ (le_is v.low altitude) (le_is altitude v.high)) (and_tells _ _ (and_tells _ _ (le_is v.start moment) (le_is moment v.end)) (region_holds_tells v.outline p)) in (
      λ h. let r = k.0 h in record { place = (holds_whole v.outline p).1 r.1.1; height = r.0; time = r.1.0 },
      λ s. k.1 (s.height, (s.time, (holds_whole v.outline p).0 s.place)),
    )

-- ---- lists
any_map : {A : Type 0} (P Q : A → Type 0) → ((x : A) → P x → Q x) → (xs : List A) → Any P xs → Any Q xs
any_map P Q f xs a = (a.0, a.1, a.2, a.3, f a.1 a.4)

any_tells : {A : Type 0} (t : A → Bool) (P : A → Type 0) → ((x : A) → IsTrue (t x) ↔ P x) → (xs : List A) → IsTrue (list_any t xs) ↔ Any P xs
any_tells t P f xs = (
  λ h. any_map (λ x. t x ≡ true) P (λ x e. (f x).0 e) xs (Any-from_list_any t xs h),
  λ a. list_any-from_Any t xs (any_map P (λ x. t x ≡ true) (λ x e. (f x).1 e) xs a),
)

-- the test answers whether some pair shares
pub any_shares_tells : (a b : List Volume4D) → IsTrue (any_shares a b) ↔ ListsShare a b
unfolding any_shares
any_shares_tells a b = any_tells (λ v. list_any (shares v) b) (λ v. Any (Shares v) b) (λ v. any_tells (shares v) (Shares v) (λ w. shares_tells v w) b) a

-- ---- the least pair, or none
pub none_is : (a b : List Volume4D) → NoneShared a b → ListsShare a b → ⊥
none_is a b n s =
    let q : Any (Shares s.1) b = s.4 in
    let f = (n s.0 s.1 s.2).apart q.0 q.1 q.2 in
    let g = rw (s.3, q.3) at f in
    g q.4

abbrev pub nowhere : Volume4D
nowhere = record { outline = []; low = pos 0; high = pos 0; start = pos 0; end = pos 0 }

pub least_is : (a b : List Volume4D) (i j : ℕ) → IsLeastShared a b i j → ListsShare a b
least_is a b i j s =
    let v = get_or a i nowhere in
    let w = get_or b j nowhere in
    let f : IsFirstShared v b j = s.first nowhere in
    (i, v, s.within, get_or_default a i v nowhere s.within, (j, w, f.within, get_or_default b j w nowhere f.within, f.shared nowhere))

pub bool_no : (t : Bool) {P : Type 0} → (IsTrue t ↔ P) → (P → ⊥) → false ≡ t
bool_no true f n = absurd (n (f.0 refl))
bool_no false f n = refl

bool_yes : (t : Bool) {P : Type 0} → (IsTrue t ↔ P) → P → true ≡ t
bool_yes true f p = refl
bool_yes false f p = let e : false ≡ true = f.1 p in sym e

pub none_test : (a b : List Volume4D) → NoneShared a b → false ≡ any_shares a b
none_test a b n = bool_no (any_shares a b) (any_shares_tells a b) (none_is a b n)

pub least_test : (a b : List Volume4D) (i j : ℕ) → IsLeastShared a b i j → true ≡ any_shares a b
least_test a b i j s = bool_yes (any_shares a b) (any_shares_tells a b) (least_is a b i j s)

-- ---- equality
volume_eq : (a b : Volume4D) → a.outline ≡ b.outline → a.low ≡ b.low → a.high ≡ b.high → a.start ≡ b.start → a.end ≡ b.end → a ≡ b
volume_eq a b p q r s t =
    ap (λ (x : List Place). let v : Volume4D = record { outline = x; low = a.low; high = a.high; start = a.start; end = a.end } in v) p
    ∙ ap (λ (x : ℤ). let v : Volume4D = record { outline = b.outline; low = x; high = a.high; start = a.start; end = a.end } in v) q
    ∙ ap (λ (x : ℤ). let v : Volume4D = record { outline = b.outline; low = b.low; high = x; start = a.start; end = a.end } in v) r
    ∙ ap (λ (x : ℤ). let v : Volume4D = record { outline = b.outline; low = b.low; high = b.high; start = x; end = a.end } in v) s
    ∙ ap (λ (x : ℤ). let v : Volume4D = record { outline = b.outline; low = b.low; high = b.high; start = b.start; end = x } in v) t

-- the test of `==` tells whether the volumes are the same
pub same_volume_tells : (a b : Volume4D) → IsTrue (same_volume a b) ↔ (a ≡ b)
same_volume_tells a b =
    let k = and_tells _ _ (same_vertices_tells a.outline b.outline) (and_tells _ _ (Decides-int_eq a.low b.low) (and_tells _ _ (Decides-int_eq a.high b.high) (and_tells _ _ (Decides-int_eq a.start b.start) (Decides-int_eq a.end b.end)))) in (
      λ h. let r = k.0 h in volume_eq a b r.0 r.1.0 r.1.1.0 r.1.1.1.0 r.1.1.1.1,
      λ e. k.1 (ap (λ (v : Volume4D). v.outline) e, (ap (λ (v : Volume4D). v.low) e, (ap (λ (v : Volume4D). v.high) e, (ap (λ (v : Volume4D). v.start) e, ap (λ (v : Volume4D). v.end) e)))),
    )
