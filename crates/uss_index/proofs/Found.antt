-- What a query finds in the cells and among the wide boxes is what it looks at, each box once.
use Rattle.std.proofs.Common.{◌≡◌, ◌↔◌, ◌⊎◌, inl, inr, ℕ, ◌+◌, Bool, true, false, IsTrue, ◌&&◌, ◌||◌, cond, sym, ◌∙◌, ap, refl, arith, subst, ℤ, pos, Option, Some, None, Result, Ok, Err, nat_eq, List, [], ◌∷◌, ◌++◌, length, length-append}
use Rattle.std.specs.Prelude.{◌≤ℤ◌, OnOk}
use Rattle.std.specs.Int.{int_min, int_max}
use Rattle.std.specs.List.{AllByRecursion, IsDistinct, list_any, filter, count_by}
use Rattle.std.specs.List.Sorted.{IsPermutation, IsSorted}
use Rattle.std.specs.Map.{keys_of}
use Rattle.std.specs.declared.cmp.Ordering.{Ordering}
use Rattle.std.specs.declared.cmp.Ordering.TheVariants.{Less, Equal, Greater}
use Rattle.std.specs.Ordering.{nat_cmp, is_eq}
use Rattle.std.specs.BTreeMap.{BTreeMap, get, is_at, IsOrdered}
use Rattle.std.specs.Cmp.{IsTotalOrder}
use Rattle.std.proofs.lemmas.Int.{ints, clamps}
use Rattle.std.proofs.lemmas.Bool.{eqb-true, eq-eqb, false_from_ne_true, and_parts, and_from, or_cases, or_left, or_right}
use Rattle.std.proofs.lemmas.Cmp.{nat_cmp_total, int_cmp_total, nat_eq_equiv, then_total, on_total}
use Rattle.std.proofs.lemmas.Bool.Decides.{nat_tests}
use Rattle.std.proofs.lemmas.List.Folds.{list_any-append}
use Rattle.std.proofs.lemmas.List.{length-map}
use Rattle.std.proofs.lemmas.List.Elements.{recursion_from_All, filter_agree}
use Rattle.std.proofs.lemmas.List.Sums.{length-filter}
use Rattle.std.proofs.lemmas.List.Sorted.{IsNonDecreasingBy-from_sort, list_any-IsPermutation, IsPermutation-trans}
use Rattle.std.proofs.lemmas.Map.Keys.{IsDistinct-IsPermutation, IsStrictlyIncreasing-from_sorted, IsStrictlyIncreasing-from_distinct, sorted_from_strictly_increasing}
use Rattle.std.proofs.lemmas.Map.Made.{length-from_same_keys}
use Rattle.std.proofs.lemmas.Map.Views.{All-found, Contains-from_any, list_any-from_Contains}
use Rattle.uss_vol4.specs.declared.Box4.{Box4}
use Rattle.uss_shape.proofs.Sides.{le_is}
use Rattle.uss_shape.proofs.Answer.{and_tells}
use Rattle.uss_index.specs.declared.cells.Cells.{Cells}
use Rattle.uss_index.specs.declared.slot.Slot.{Slot}
use Rattle.uss_index.specs.SlotOrder.{slot_cmp}
use Rattle.uss_index.specs.Points.{have_common_point}
use Rattle.uss_index.specs.Cells.{cells_of, has_cell, touches, is_wide, have_common_cell, is_looked_at}
use Rattle.uss_index.specs.Boxes.{candidates_of, AreCandidates, looked_at}
use Rattle.uss_index.specs.Slots.{is_first_common, is_counted, ids_of}
use Rattle.uss_index.specs.Places.{IsGrid, in_cell, among_wide}
use Rattle.uss_index.proofs.Floors.{cell_rises}
use Rattle.uss_index.proofs.Meeting.{tested, common_point_tells}
use Rattle.uss_index.proofs.Tests.{alike, at_slot, eq_is}
use Rattle.uss_index.proofs.Rows.{has_cell_tells}
use Rattle.uss_index.proofs.Lists.{some_with, passes_from_lookup, any_id, distinct_ids, distinct_both, same_sorted, sorted_kept, IsKeyed, false_true}

slot_total : IsTotalOrder slot_cmp
slot_total = then_total (on_total (λ (s : Slot). s.x) int_cmp_total) (then_total (on_total (λ (s : Slot). s.y) int_cmp_total) (on_total (λ (s : Slot). s.id) nat_cmp_total))

one_slot : (a b : Slot) → a.x ≡ b.x → a.y ≡ b.y → a.id ≡ b.id → a ≡ b
one_slot a b e f g = λ i. record { x = e i; y = f i; id = g i }

at_that_slot : (k l : Slot) → is_at (slot_cmp k) l ≡ true → k ≡ l
at_that_slot k l h = let r = (at_slot k l).0 h in one_slot k l r.0 r.1 r.2

at_that_id : (k l : ℕ) → is_at (nat_cmp k) l ≡ true → k ≡ l
at_that_id k l h = grind (arith, nat_tests)

slot_itself : (x : Slot) → slot_cmp x x ≡ Less → ⊥
slot_itself x h = let e : is_at (slot_cmp x) x ≡ true = (at_slot x x).1 (refl, refl, refl) in clash (slot_cmp x x) h e
  where
    clash : (o : Ordering) → o ≡ Less → is_eq o ≡ true → ⊥
    clash Less h e = false_true e
    clash Equal h e = let f : Equal ≡ Less = h in cc
    clash Greater h e = false_true e

id_itself : (x : ℕ) → nat_cmp x x ≡ Less → ⊥
id_itself x h = grind (arith, nat_tests)

-- ---- where a box stands
among : (o : Option Box4) (b : Box4) → among_wide o ≡ Some b → (o ≡ Some b) × (is_wide b ≡ true)
among None b h = absurd (let e : None ≡ Some b = h in cc)
among (Some a) b h = by (is_wide a) refl h
  where
    same : (a b : Box4) → Some a ≡ Some b → a ≡ b
    same a b e = cc

    by : (w : Bool) → is_wide a ≡ w → cond w (Some a) None ≡ Some b → (Some a ≡ Some b) × (is_wide b ≡ true)
    by true i h = (h, sym (ap is_wide (same a b h)) ∙ i)
    by false i h = absurd (let e : None ≡ Some b = h in cc)

within : (o : Option Box4) (x y : ℤ) (b : Box4) → in_cell o x y ≡ Some b → (o ≡ Some b) × (is_wide b ≡ false) × (touches b x y ≡ true)
within None x y b h = absurd (let e : None ≡ Some b = h in cc)
within (Some a) x y b h = by (is_wide a) (touches a x y) refl refl h
  where
    same : (a b : Box4) → Some a ≡ Some b → a ≡ b
    same a b e = cc

    by : (w t : Bool) → is_wide a ≡ w → touches a x y ≡ t → cond w None (cond t (Some a) None) ≡ Some b → (Some a ≡ Some b) × (is_wide b ≡ false) × (touches b x y ≡ true)
    by true t i j h = absurd (let e : None ≡ Some b = h in cc)
    by false false i j h = absurd (let e : None ≡ Some b = h in cc)
    by false true i j h = (h, sym (ap is_wide (same a b h)) ∙ i, sym (ap (λ b. touches b x y) (same a b h)) ∙ j)

wide_stands : (b : Box4) → is_wide b ≡ true → among_wide (Some b) ≡ Some b
wide_stands b w = ap (λ w. cond w (Some b) None) w

cell_stands : (b : Box4) (x y : ℤ) → is_wide b ≡ false → touches b x y ≡ true → in_cell (Some b) x y ≡ Some b
cell_stands b x y w t = ap (λ w. cond w None (cond (touches b x y) (Some b) None)) w ∙ ap (λ t. cond t (Some b) None) t

-- ---- cells in common
common_tells : (c d : Cells) → IsTrue (have_common_cell c d) ↔ ((int_max c.left d.left ≤ℤ int_min c.right d.right) × (int_max c.bottom d.bottom ≤ℤ int_min c.top d.top))
common_tells c d = and_tells _ _ (le_is (int_max c.left d.left) (int_min c.right d.right)) (le_is (int_max c.bottom d.bottom) (int_min c.top d.top))

pub common_of_cell : (c d : Cells) (x y : ℤ) → has_cell c x y ≡ true → has_cell d x y ≡ true → have_common_cell c d ≡ true
common_of_cell c d x y h k =
    let a = (has_cell_tells c x y).0 h in
    let b = (has_cell_tells d x y).0 k in
    let l = a.0.0 in
    let r = a.0.1 in
    let l' = b.0.0 in
    let r' = b.0.1 in
    let u = a.1.0 in
    let v = a.1.1 in
    let u' = b.1.0 in
    let v' = b.1.1 in
    (common_tells c d).1 (omega (arith, ints, clamps), omega (arith, ints, clamps))

pub first_in_first : (c d : Cells) → have_common_cell c d ≡ true → has_cell c (int_max c.left d.left) (int_max c.bottom d.bottom) ≡ true
first_in_first c d h =
    let r = (common_tells c d).0 h in
    let a = r.0 in
    let b = r.1 in
    (has_cell_tells c (int_max c.left d.left) (int_max c.bottom d.bottom)).1 ((omega (arith, ints, clamps), omega (arith, ints, clamps)), (omega (arith, ints, clamps), omega (arith, ints, clamps)))

pub first_in_second : (c d : Cells) → have_common_cell c d ≡ true → has_cell d (int_max c.left d.left) (int_max c.bottom d.bottom) ≡ true
first_in_second c d h =
    let r = (common_tells c d).0 h in
    let a = r.0 in
    let b = r.1 in
    (has_cell_tells d (int_max c.left d.left) (int_max c.bottom d.bottom)).1 ((omega (arith, ints, clamps), omega (arith, ints, clamps)), (omega (arith, ints, clamps), omega (arith, ints, clamps)))

-- the slot of the first common cell
abbrev slot_at : Cells → ℕ → Option Box4 → Slot
slot_at c k None = record { x = pos 0; y = pos 0; id = k }
slot_at c k (Some b) = record { x = int_max c.left (cells_of b).left; y = int_max c.bottom (cells_of b).bottom; id = k }

first_tells : (c : Cells) (e : Slot × Box4) → IsTrue (is_first_common c e) ↔ ((e.0.x ≡ int_max c.left (cells_of e.1).left) × (e.0.y ≡ int_max c.bottom (cells_of e.1).bottom))
first_tells c e = and_tells _ _ (eq_is e.0.x (int_max c.left (cells_of e.1).left)) (eq_is e.0.y (int_max c.bottom (cells_of e.1).bottom))

module _ (boxes wide : BTreeMap ℕ Box4) (slots : BTreeMap Slot Box4) (g : IsGrid boxes slots wide) (sorted : IsOrdered slot_cmp slots) (sorted_wide : IsOrdered nat_cmp wide) (q : Box4) (narrow : is_wide q ≡ false) (t : Box4 → Bool) where
  abbrev cells : Cells
  cells = cells_of q

  abbrev counts : Slot × Box4 → Bool
  counts e = is_counted cells e && t e.1

  abbrev of_wide : ℕ × Box4 → Bool
  of_wide e = t e.1

  abbrev looks : ℕ × Box4 → Bool
  looks e = is_looked_at q e.1 && t e.1

  abbrev ids_in_cells : List ℕ
  ids_in_cells = ids_of (filter counts slots.entries)

  abbrev ids_of_wide : List ℕ
  ids_of_wide = keys_of (filter of_wide wide.entries)

  abbrev ids_looked : List ℕ
  ids_looked = keys_of (filter looks boxes.entries)

  FoundIn : ℕ → Type 0
  FoundIn k = (b : Box4) × (get nat_cmp boxes k ≡ Some b) × (is_wide b ≡ false) × (have_common_cell cells (cells_of b) ≡ true) × (t b ≡ true)

  FoundWide : ℕ → Type 0
  FoundWide k = (b : Box4) × (get nat_cmp boxes k ≡ Some b) × (is_wide b ≡ true) × (t b ≡ true)

  slots_found : AllByRecursion (λ e. get slot_cmp slots e.0 ≡ Some e.1) slots.entries
  slots_found = recursion_from_All _ slots.entries (All-found slot_total slots sorted)

  wide_found : AllByRecursion (λ e. get nat_cmp wide e.0 ≡ Some e.1) wide.entries
  wide_found = recursion_from_All _ wide.entries (All-found nat_cmp_total wide sorted_wide)

  boxes_found : AllByRecursion (λ e. get nat_cmp boxes e.0 ≡ Some e.1) boxes.entries
  boxes_found = recursion_from_All _ boxes.entries (All-found nat_cmp_total boxes g.ordered)

  at_cell : (s : Slot) (b : Box4) → get slot_cmp slots s ≡ Some b → (get nat_cmp boxes s.id ≡ Some b) × (is_wide b ≡ false) × (touches b s.x s.y ≡ true)
  at_cell s b h = within (get nat_cmp boxes s.id) s.x s.y b (sym ((g.stands s.id).in_cells s refl) ∙ h)

  in_cells_then : (k : ℕ) → list_any (nat_eq k) ids_in_cells ≡ true → FoundIn k
  unfolding FoundIn
  in_cells_then k h =
      let (e, is, p) = some_with _ (λ e. counts e && nat_eq k e.0.id) slots.entries slots_found (sym (any_id (λ (e : Slot × Box4). e.0.id) counts k slots.entries) ∙ h) in
      let parts = and_parts (counts e) (nat_eq k e.0.id) p in
      let test = and_parts (is_counted cells e) (t e.1) parts.0 in
      let place = and_parts (has_cell cells e.0.x e.0.y) (is_first_common cells e) test.0 in
      let here = at_cell e.0 e.1 is in
      let same = eqb-true k e.0.id parts.1 in
      (e.1, ap (get nat_cmp boxes) same ∙ here.0, here.1, common_of_cell cells (cells_of e.1) e.0.x e.0.y place.0 here.2, test.1)

  then_in_cells : (k : ℕ) → FoundIn k → list_any (nat_eq k) ids_in_cells ≡ true
  unfolding FoundIn
  then_in_cells k (b, at, small, common, test) =
      let d : Cells = cells_of b in
      let s : Slot = record { x = int_max cells.left d.left; y = int_max cells.bottom d.bottom; id = k } in
      let stands : get slot_cmp slots s ≡ Some b = (g.stands k).in_cells s refl ∙ ap (λ o. in_cell o s.x s.y) at ∙ cell_stands b s.x s.y small (first_in_second cells d common) in
      let counted : is_counted cells (s, b) ≡ true = and_from _ _ (first_in_first cells d common) ((first_tells cells (s, b)).1 (refl, refl)) in
      any_id (λ (e : Slot × Box4). e.0.id) counts k slots.entries
      ∙ passes_from_lookup (is_at (slot_cmp s)) s (at_that_slot s) (λ e. counts e && nat_eq k e.0.id) b slots.entries stands (and_from _ _ (and_from _ _ counted test) (eq-eqb k k refl))

  in_wide_then : (k : ℕ) → list_any (nat_eq k) ids_of_wide ≡ true → FoundWide k
  unfolding FoundWide
  in_wide_then k h =
      let (e, is, p) = some_with _ (λ e. of_wide e && nat_eq k e.0) wide.entries wide_found (sym (any_id (λ (e : ℕ × Box4). e.0) of_wide k wide.entries) ∙ h) in
      let parts = and_parts (t e.1) (nat_eq k e.0) p in
      let same = eqb-true k e.0 parts.1 in
      let here = among (get nat_cmp boxes e.0) e.1 (sym (g.stands e.0).in_wide ∙ is) in
      (e.1, ap (get nat_cmp boxes) same ∙ here.0, here.1, parts.0)

  then_in_wide : (k : ℕ) → FoundWide k → list_any (nat_eq k) ids_of_wide ≡ true
  unfolding FoundWide
  then_in_wide k (b, at, large, test) =
      let stands : get nat_cmp wide k ≡ Some b = (g.stands k).in_wide ∙ ap among_wide at ∙ wide_stands b large in
      any_id (λ (e : ℕ × Box4). e.0) of_wide k wide.entries
      ∙ passes_from_lookup (is_at (nat_cmp k)) k (at_that_id k) (λ e. of_wide e && nat_eq k e.0) b wide.entries stands (and_from _ _ test (eq-eqb k k refl))

  looked_then : (k : ℕ) → list_any (nat_eq k) ids_looked ≡ true → FoundWide k ⊎ FoundIn k
  unfolding FoundWide FoundIn is_looked_at
  looked_then k h =
      let (e, is, p) = some_with _ (λ e. looks e && nat_eq k e.0) boxes.entries boxes_found (sym (any_id (λ (e : ℕ × Box4). e.0) looks k boxes.entries) ∙ h) in
      let parts = and_parts (looks e) (nat_eq k e.0) p in
      let test = and_parts (is_looked_at q e.1) (t e.1) parts.0 in
      let same = eqb-true k e.0 parts.1 in
      let at = ap (get nat_cmp boxes) same ∙ is in
      elim (or_cases (is_wide q) (is_wide e.1 || have_common_cell cells (cells_of e.1)) test.0) [
        | inl w ↦ absurd (false_true (sym narrow ∙ w))
        | inr r ↦ by e.1 at test.1 (is_wide e.1) refl r
      ]
    where
      by : (b : Box4) → get nat_cmp boxes k ≡ Some b → t b ≡ true → (w : Bool) → is_wide b ≡ w → (w || have_common_cell cells (cells_of b)) ≡ true → FoundWide k ⊎ FoundIn k
      by b at test true i h = inl (b, at, i, test)
      by b at test false i h = inr (b, at, i, h, test)

  then_looked : (k : ℕ) (b : Box4) → get nat_cmp boxes k ≡ Some b → (is_wide b || have_common_cell cells (cells_of b)) ≡ true → t b ≡ true → list_any (nat_eq k) ids_looked ≡ true
  unfolding is_looked_at
  then_looked k b at here test =
      any_id (λ (e : ℕ × Box4). e.0) looks k boxes.entries
      ∙ passes_from_lookup (is_at (nat_cmp k)) k (at_that_id k) (λ e. looks e && nat_eq k e.0) b boxes.entries at (and_from _ _ (and_from _ _ (or_right (is_wide q) _ here) test) (eq-eqb k k refl))

  abbrev ids_found : List ℕ
  ids_found = ids_of_wide ++ ids_in_cells

  apart : (k : ℕ) → list_any (nat_eq k) ids_of_wide ≡ true → list_any (nat_eq k) ids_in_cells ≡ false
  unfolding FoundWide FoundIn
  apart k h = false_from_ne_true _ (λ i.
      let w = in_wide_then k h in
      let c = in_cells_then k i in
      let same : w.0 ≡ c.0 = one (get nat_cmp boxes k) w.0 c.0 w.1 c.1 in
      false_true (sym c.2 ∙ sym (ap is_wide same) ∙ w.2))
    where
      one : (o : Option Box4) (a b : Box4) → o ≡ Some a → o ≡ Some b → a ≡ b
      one o a b e f = let h : Some a ≡ Some b = sym e ∙ f in cc

  keyed_slot : (e : Slot × Box4) → get slot_cmp slots e.0 ≡ Some e.1 → IsKeyed (λ (e : Slot × Box4). e.0.id) (λ k. slot_at cells k (get nat_cmp boxes k)) counts e
  keyed_slot e is p =
      let parts = and_parts (is_counted cells e) (t e.1) p in
      let place = and_parts (has_cell cells e.0.x e.0.y) (is_first_common cells e) parts.0 in
      let first = (first_tells cells e).0 place.1 in
      one_slot e.0 (slot_at cells e.0.id (Some e.1)) first.0 first.1 refl ∙ ap (slot_at cells e.0.id) (sym (at_cell e.0 e.1 is).0)

  all_keyed : (es : List (Slot × Box4)) → AllByRecursion (λ e. get slot_cmp slots e.0 ≡ Some e.1) es → AllByRecursion (IsKeyed (λ (e : Slot × Box4). e.0.id) (λ k. slot_at cells k (get nat_cmp boxes k)) counts) es
  all_keyed [] a = tt
  all_keyed (e ∷ es) a = (keyed_slot e a.0, all_keyed es a.1)

  keyed_ids : (p : ℕ × Box4 → Bool) (es : List (ℕ × Box4)) → AllByRecursion (IsKeyed (λ (e : ℕ × Box4). e.0) (λ k. k) p) es
  keyed_ids p [] = tt
  keyed_ids p (e ∷ es) = ((λ h. refl), keyed_ids p es)

  pub found_distinct : IsDistinct nat_eq ids_found
  found_distinct =
      distinct_both ids_of_wide ids_in_cells
      (distinct_ids nat_cmp id_itself (λ (e : ℕ × Box4). e.0) (λ k. k) of_wide wide.entries sorted_wide (keyed_ids of_wide wide.entries))
      (distinct_ids slot_cmp slot_itself (λ (e : Slot × Box4). e.0.id) (λ k. slot_at cells k (get nat_cmp boxes k)) counts slots.entries sorted (all_keyed slots.entries slots_found))
      apart

  pub looked_distinct : IsDistinct nat_eq ids_looked
  looked_distinct = distinct_ids nat_cmp id_itself (λ (e : ℕ × Box4). e.0) (λ k. k) looks boxes.entries g.ordered (keyed_ids looks boxes.entries)

  pub same_ids : (k : ℕ) → list_any (nat_eq k) ids_found ≡ list_any (nat_eq k) ids_looked
  unfolding FoundWide FoundIn
  same_ids k =
      list_any-append (nat_eq k) ids_of_wide ids_in_cells
      ∙ alike _ _
      (λ h. elim (or_cases (list_any (nat_eq k) ids_of_wide) (list_any (nat_eq k) ids_in_cells) h) [
        | inl w ↦ (let f = in_wide_then k w in then_looked k f.0 f.1 (or_left (is_wide f.0) _ f.2) f.3)
        | inr c ↦ (let f = in_cells_then k c in then_looked k f.0 f.1 (or_right (is_wide f.0) _ f.3) f.4)
      ])
      (λ h. elim (looked_then k h) [
        | inl w ↦ or_left _ _ (then_in_wide k w)
        | inr c ↦ or_right _ _ (then_in_cells k c)
      ])

  -- as many are counted as are looked at
  pub same_length : length ids_found ≡ length ids_looked
  same_length = length-from_same_keys nat_eq_equiv ids_found ids_looked found_distinct looked_distinct same_ids

  -- what was found is what is looked at and passes, once it is sorted
  pub sorted_is : (found : List ℕ) → IsPermutation ids_found found → IsSorted nat_cmp found → found ≡ ids_looked
  sorted_is found p s =
      let distinct : IsDistinct nat_eq found = IsDistinct-IsPermutation nat_eq nat_flips ids_found found p found_distinct in
      same_sorted found ids_looked
      (sorted_from_strictly_increasing found (IsStrictlyIncreasing-from_distinct found (IsNonDecreasingBy-from_sort (λ x. x) found s) distinct))
      (sorted_kept looks boxes.entries g.ordered)
      (λ k. sym (list_any-IsPermutation (nat_eq k) ids_found found p) ∙ same_ids k)
    where
      nat_flips : (x y : ℕ) → nat_eq x y ≡ nat_eq y x
      nat_flips x y = grind (arith, nat_tests)

-- ---- at how many boxes a query looks
all_pass : {A : Type 0} (p : A → Bool) (es : List A) → ((e : A) → p e ≡ true) → filter p es ≡ es
all_pass p [] h = refl
all_pass p (e ∷ es) h = rw (h e) (ap (λ xs. e ∷ xs) (all_pass p es h))

pub looked_wide : (boxes : List (ℕ × Box4)) (q : Box4) → is_wide q ≡ true → length boxes ≡ looked_at boxes q
unfolding looked_at is_looked_at
looked_wide boxes q w =
    sym (ap length (all_pass (λ (e : ℕ × Box4). is_looked_at q e.1) boxes (λ e. or_left (is_wide q) _ w))) ∙ length-filter (λ (e : ℕ × Box4). is_looked_at q e.1) boxes

and_true : (a : Bool) → (a && true) ≡ a
and_true true = refl
and_true false = refl

pub looked_narrow : (boxes wide : BTreeMap ℕ Box4) (slots : BTreeMap Slot Box4) (q : Box4) → IsGrid boxes slots wide → IsOrdered slot_cmp slots → IsOrdered nat_cmp wide → is_wide q ≡ false → count_by (is_counted (cells_of q)) slots.entries + length wide.entries ≡ looked_at boxes.entries q
unfolding looked_at
looked_narrow boxes wide slots q g s w narrow =
    let same = same_length boxes wide slots g s w q narrow (λ _. true) in
    let all = all_pass (λ (e : ℕ × Box4). true) wide.entries (λ e. refl) in
    let both = length-append (keys_of (filter (λ (e : ℕ × Box4). true) wide.entries)) (ids_of (filter (λ e. is_counted (cells_of q) e && true) slots.entries)) in
    let large : length (keys_of (filter (λ (e : ℕ × Box4). true) wide.entries)) ≡ length wide.entries = length-map (filter (λ (e : ℕ × Box4). true) wide.entries) (λ (e : ℕ × Box4). e.0) ∙ ap length all in
    let small : length (ids_of (filter (λ e. is_counted (cells_of q) e && true) slots.entries)) ≡ count_by (is_counted (cells_of q)) slots.entries =
    length-map (filter (λ e. is_counted (cells_of q) e && true) slots.entries) (λ (e : Slot × Box4). e.0.id)
    ∙ ap length (filter_agree (λ e. is_counted (cells_of q) e && true) (is_counted (cells_of q)) (λ e. and_true (is_counted (cells_of q) e)) slots.entries)
    ∙ length-filter (is_counted (cells_of q)) slots.entries in
    let looked : length (keys_of (filter (λ (e : ℕ × Box4). is_looked_at q e.1 && true) boxes.entries)) ≡ count_by (λ (e : ℕ × Box4). is_looked_at q e.1) boxes.entries =
    length-map (filter (λ (e : ℕ × Box4). is_looked_at q e.1 && true) boxes.entries) (λ (e : ℕ × Box4). e.0)
    ∙ ap length (filter_agree (λ (e : ℕ × Box4). is_looked_at q e.1 && true) (λ (e : ℕ × Box4). is_looked_at q e.1) (λ e. and_true (is_looked_at q e.1)) boxes.entries)
    ∙ length-filter (λ (e : ℕ × Box4). is_looked_at q e.1) boxes.entries in
    omega (arith, same, both, large, small, looked)

-- ---- boxes with a point in common have a cell in common
pub point_then_cell : (a b : Box4) → have_common_point a b ≡ true → have_common_cell (cells_of a) (cells_of b) ≡ true
unfolding cells_of
point_then_cell a b h =
    let o = (tested a b).0 h in
    let i = cell_rises (int_min a.rect.x1 a.rect.x2) (int_max b.rect.x1 b.rect.x2) o.across.0 in
    let j = cell_rises (int_min b.rect.x1 b.rect.x2) (int_max a.rect.x1 a.rect.x2) o.across.1 in
    let k = cell_rises (int_min a.rect.y1 a.rect.y2) (int_max b.rect.y1 b.rect.y2) o.upward.0 in
    let l = cell_rises (int_min b.rect.y1 b.rect.y2) (int_max a.rect.y1 a.rect.y2) o.upward.1 in
    let m = cell_rises (int_min a.rect.x1 a.rect.x2) (int_max a.rect.x1 a.rect.x2) (omega (arith, ints, clamps)) in
    let n = cell_rises (int_min b.rect.x1 b.rect.x2) (int_max b.rect.x1 b.rect.x2) (omega (arith, ints, clamps)) in
    let p = cell_rises (int_min a.rect.y1 a.rect.y2) (int_max a.rect.y1 a.rect.y2) (omega (arith, ints, clamps)) in
    let r = cell_rises (int_min b.rect.y1 b.rect.y2) (int_max b.rect.y1 b.rect.y2) (omega (arith, ints, clamps)) in
    (common_tells (cells_of a) (cells_of b)).1 (meet _ _ _ _ i j m n, meet _ _ _ _ k l p r)
  where
    meet : (a b c d : ℤ) → a ≤ℤ d → c ≤ℤ b → a ≤ℤ b → c ≤ℤ d → int_max a c ≤ℤ int_min b d
    meet a b c d h i j k = omega (arith, ints, clamps)

looks_where : (q b : Box4) (p : Bool) → have_common_point q b ≡ p → (is_looked_at q b && p) ≡ p
unfolding is_looked_at
looks_where q b true h = and_from _ _ (or_right (is_wide q) _ (or_right (is_wide b) _ (point_then_cell q b h))) refl
looks_where q b false h = and_false (is_looked_at q b)
  where
    and_false : (a : Bool) → (a && false) ≡ false
    and_false true = refl
    and_false false = refl

-- what a query finds in its cells and among the wide boxes, sorted
pub found_narrow : (boxes wide : BTreeMap ℕ Box4) (slots : BTreeMap Slot Box4) (q : Box4) (found : List ℕ) → IsGrid boxes slots wide → IsOrdered slot_cmp slots → IsOrdered nat_cmp wide → is_wide q ≡ false → IsPermutation (keys_of (filter (λ (e : ℕ × Box4). have_common_point q e.1) wide.entries) ++ ids_of (filter (λ e. is_counted (cells_of q) e && have_common_point q e.1) slots.entries)) found → IsSorted nat_cmp found → found ≡ candidates_of boxes.entries q
unfolding candidates_of
found_narrow boxes wide slots q found g s w narrow p up =
    sorted_is boxes wide slots g s w q narrow (have_common_point q) found p up
    ∙ ap keys_of (filter_agree (λ (e : ℕ × Box4). is_looked_at q e.1 && have_common_point q e.1) (λ (e : ℕ × Box4). have_common_point q e.1) (λ e. looks_where q e.1 (have_common_point q e.1) refl) boxes.entries)

-- ---- the candidates are those that have a point in common
pub candidates_are : (boxes : BTreeMap ℕ Box4) (q : Box4) → IsOrdered nat_cmp boxes → AreCandidates boxes.entries q (candidates_of boxes.entries q)
unfolding candidates_of
candidates_are boxes q o = record {
  ascending = IsStrictlyIncreasing-from_sorted _ (sorted_kept (λ (e : ℕ × Box4). have_common_point q e.1) boxes.entries o);
  meet = λ id h.
      let (e, is, p) = some_with (λ (e : ℕ × Box4). get nat_cmp boxes e.0 ≡ Some e.1) (λ (e : ℕ × Box4). have_common_point q e.1 && nat_eq id e.0) boxes.entries (recursion_from_All _ boxes.entries (All-found nat_cmp_total boxes o)) (sym (any_id (λ (e : ℕ × Box4). e.0) (λ (e : ℕ × Box4). have_common_point q e.1) id boxes.entries) ∙ list_any-from_Contains nat_eq_equiv id _ h) in
      let parts = and_parts (have_common_point q e.1) (nat_eq id e.0) p in
      (e.1, ap (get nat_cmp boxes) (eqb-true id e.0 parts.1) ∙ is, (common_point_tells q e.1).0 parts.0);
  all = λ id b at point.
      Contains-from_any eqb-true id _
      (any_id (λ (e : ℕ × Box4). e.0) (λ (e : ℕ × Box4). have_common_point q e.1) id boxes.entries
      ∙ passes_from_lookup (is_at (nat_cmp id)) id (at_that_id id) (λ (e : ℕ × Box4). have_common_point q e.1 && nat_eq id e.0) b boxes.entries at (and_from _ _ ((common_point_tells q b).1 point) (eq-eqb id id refl)));
}

-- the same, of what a query with a wide box goes through
pub found_wide : {E : Type 0} (r : Result (Unit {0}) E) (boxes : List (ℕ × Box4)) (q : Box4) (old new : List ℕ) → old ≡ [] → OnOk r (new ≡ old ++ keys_of (filter (λ (e : ℕ × Box4). have_common_point q e.1) boxes)) → OnOk r (new ≡ candidates_of boxes q)
unfolding candidates_of
found_wide (Ok v) boxes q old new none h = h ∙ ap (λ xs. xs ++ keys_of (filter (λ (e : ℕ × Box4). have_common_point q e.1) boxes)) none
found_wide (Err e) boxes q old new none h = tt

pub found_sorted : (boxes wide : BTreeMap ℕ Box4) (slots : BTreeMap Slot Box4) (q : Box4) (d : Cells) (old gathered found : List ℕ) → IsGrid boxes slots wide → IsOrdered slot_cmp slots → IsOrdered nat_cmp wide → is_wide q ≡ false → old ≡ [] → d ≡ cells_of q → IsPermutation ((old ++ keys_of (filter (λ (e : ℕ × Box4). have_common_point q e.1) wide.entries)) ++ ids_of (filter (λ e. is_counted d e && have_common_point q e.1) slots.entries)) gathered → IsPermutation gathered found → IsSorted nat_cmp found → found ≡ candidates_of boxes.entries q
found_sorted boxes wide slots q d old gathered found g s w narrow none same p r up =
    let large : List ℕ = keys_of (filter (λ (e : ℕ × Box4). have_common_point q e.1) wide.entries) in
    let begin : IsPermutation (large ++ ids_of (filter (λ e. is_counted d e && have_common_point q e.1) slots.entries)) gathered = rw none at p in
    let here : IsPermutation (large ++ ids_of (filter (λ e. is_counted (cells_of q) e && have_common_point q e.1) slots.entries)) gathered = subst (λ c. IsPermutation (large ++ ids_of (filter (λ e. is_counted c e && have_common_point q e.1) slots.entries)) gathered) same begin in
    found_narrow boxes wide slots q found g s w narrow (IsPermutation-trans _ gathered found here r) up
