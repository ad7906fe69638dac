-- What a query finds, column after column.
use Rattle.std.proofs.Common.{◌≡◌, inl, inr, ℕ, ◌+◌, ◌<◌, ◌≤◌, ◌^◌, Bool, true, false, ◌&&◌, ◌||◌, not, cond, sym, ◌∙◌, ap, refl, arith, ℤ, pos, ◌+ℤ◌, List, [], ◌∷◌, ◌++◌, length, append_assoc}
use Rattle.std.specs.Prelude.{◌≤ℤ◌, ◌<ℤ◌, int_le, int_lt}
use Rattle.std.specs.List.{filter, count_by}
use Rattle.std.specs.List.Sorted.{IsPermutation}
use Rattle.std.specs.declared.cmp.Ordering.{Ordering}
use Rattle.std.specs.declared.cmp.Ordering.TheVariants.{Less, Equal, Greater}
use Rattle.std.specs.Ordering.{int_eq, is_le, ordering_then, nat_cmp, int_cmp}
use Rattle.std.specs.declared.ops.Bound.TheVariants.{Included, Excluded}
use Rattle.std.specs.BTreeMap.Range.{range_contains, entries_between}
use Rattle.std.proofs.lemmas.Int.{ints, by_lt_z}
use Rattle.std.proofs.lemmas.Bool.Decides.{nat_tests}
use Rattle.std.proofs.lemmas.List.Elements.{filter_agree}
use Rattle.std.proofs.lemmas.List.Sums.{sum_by-cons, length-filter, count_by-le-length}
use Rattle.std.proofs.lemmas.List.{map-append}
use Rattle.std.proofs.lemmas.List.Sorted.{IsPermutation-refl, IsPermutation-sym, IsPermutation-cons, IsPermutation-middle, IsPermutation-trans, IsPermutation-map, IsPermutation-append_left, IsPermutation-append_right}
use Rattle.uss_vol4.specs.declared.Box4.{Box4}
use Rattle.uss_shape.proofs.Sides.{le_is}
use Rattle.uss_shape.proofs.Answer.{and_tells, or_tells}
use Rattle.uss_index.specs.declared.cells.Cells.{Cells}
use Rattle.uss_index.specs.declared.slot.Slot.{Slot}
use Rattle.uss_index.specs.SlotOrder.{slot_cmp}
use Rattle.uss_index.specs.Cells.{AreInOrder}
use Rattle.uss_index.specs.Slots.{is_in_column, is_first_common, is_counted_in, is_counted, first_slot, last_slot, ids_of}
use Rattle.uss_index.proofs.Tests.{alike, lt_is, eq_is}
use lib.Signed.{lt_z}

-- ---- a range of slots
then_le : (p q : Bool) (o : Ordering) → is_le (ordering_then (cond p Less (cond q Greater Equal)) o) ≡ (p || (not q && is_le o))
then_le true q o = refl
then_le false true o = refl
then_le false false o = refl

zero_le : (n : ℕ) → is_le (nat_cmp 0 n) ≡ true
zero_le n = grind (arith, nat_tests)

slot_le : (x y : ℤ) (s : Slot) → is_le (slot_cmp (record { x = x; y = y; id = 0 }) s) ≡ (lt_z x s.x || (not (lt_z s.x x) && (lt_z y s.y || (not (lt_z s.y y) && true))))
slot_le x y s =
    then_le (lt_z x s.x) (lt_z s.x x) (ordering_then (int_cmp y s.y) (nat_cmp 0 s.id))
    ∙ ap (λ b. lt_z x s.x || (not (lt_z s.x x) && b)) (then_le (lt_z y s.y) (lt_z s.y y) (nat_cmp 0 s.id) ∙ ap (λ b. lt_z y s.y || (not (lt_z s.y y) && b)) (zero_le s.id))

column_range : (x b t sx sy : ℤ) → ((lt_z x sx || (not (lt_z sx x) && (lt_z b sy || (not (lt_z sy b) && true)))) && not (lt_z x sx || (not (lt_z sx x) && (lt_z (t +ℤ pos 1) sy || (not (lt_z sy (t +ℤ pos 1)) && true))))) ≡ (int_eq sx x && (int_le b sy && int_le sy t))
column_range x b t sx sy = grind (arith, ints)

pub in_range : (c : Cells) (x : ℤ) (s : Slot) → range_contains slot_cmp (Included (first_slot c x)) (Excluded (last_slot c x)) s ≡ is_in_column c x s
in_range c x s = ap (λ b. b && not (is_le (slot_cmp (last_slot c x) s))) (slot_le x c.bottom s) ∙ ap (λ b. (lt_z x s.x || (not (lt_z s.x x) && (lt_z c.bottom s.y || (not (lt_z s.y c.bottom) && true)))) && not b) (slot_le x (c.top +ℤ pos 1) s) ∙ column_range x c.bottom c.top s.x s.y

-- ---- a test after another
filter_at : {A : Type 0} (p q : A → Bool) (e : A) (es : List A) (b : Bool) → q e ≡ b → filter p (filter q es) ≡ filter (λ e. q e && p e) es → filter p (cond b (e ∷ filter q es) (filter q es)) ≡ cond (b && p e) (e ∷ filter (λ e. q e && p e) es) (filter (λ e. q e && p e) es)
filter_at p q e es true i r = ap (λ xs. cond (p e) (e ∷ xs) xs) r
filter_at p q e es false i r = r

pub filter_twice : {A : Type 0} (p q : A → Bool) (es : List A) → filter p (filter q es) ≡ filter (λ e. q e && p e) es
filter_twice p q [] = refl
filter_twice p q (e ∷ es) = filter_at p q e es (q e) refl (filter_twice p q es)

and_assoc : (a b c : Bool) → (a && (b && c)) ≡ ((a && b) && c)
and_assoc true b c = refl
and_assoc false b c = refl

-- what a column's range has
pub column_found : (c : Cells) (x : ℤ) (t : Slot × Box4 → Bool) (es : List (Slot × Box4)) → filter (λ e. is_first_common c e && t e) (entries_between slot_cmp (Included (first_slot c x)) (Excluded (last_slot c x)) es) ≡ filter (λ e. is_counted_in c x e && t e) es
column_found c x t es =
    filter_twice (λ e. is_first_common c e && t e) (λ e. range_contains slot_cmp (Included (first_slot c x)) (Excluded (last_slot c x)) e.0) es
    ∙ filter_agree _ _ (λ e. ap (λ b. b && (is_first_common c e && t e)) (in_range c x e.0) ∙ and_assoc (is_in_column c x e.0) (is_first_common c e) (t e)) es

pub column_counted : (c : Cells) (x : ℤ) (es : List (Slot × Box4)) → count_by (is_first_common c) (entries_between slot_cmp (Included (first_slot c x)) (Excluded (last_slot c x)) es) ≡ count_by (is_counted_in c x) es
column_counted c x es =
    sym (length-filter (is_first_common c) _)
    ∙ ap length (filter_twice (is_first_common c) (λ e. range_contains slot_cmp (Included (first_slot c x)) (Excluded (last_slot c x)) e.0) es
    ∙ filter_agree _ _ (λ e. ap (λ b. b && is_first_common c e) (in_range c x e.0)) es)
    ∙ length-filter (is_counted_in c x) es

pub count_more : {A : Type 0} (p : A → Bool) (e : A) (es : List A) → p e ≡ true → count_by p (e ∷ es) ≡ 1 + count_by p es
count_more p e es h = sum_by-cons (λ x. cond (p x) 1 0) e es ∙ ap (λ b. cond b 1 0 + count_by p es) h

pub count_same : {A : Type 0} (p : A → Bool) (e : A) (es : List A) → p e ≡ false → count_by p (e ∷ es) ≡ count_by p es
count_same p e es h = let i : count_by p (e ∷ es) ≡ 0 + count_by p es = sum_by-cons (λ x. cond (p x) 1 0) e es ∙ ap (λ b. cond b 1 0 + count_by p es) h in i ∙ omega arith

-- ---- columns so far
abbrev pub is_counted_before : Cells → ℤ → Slot × Box4 → Bool
is_counted_before c x e = ((int_le c.left e.0.x && int_lt e.0.x x) && (int_le c.bottom e.0.y && int_le e.0.y c.top)) && is_first_common c e

before_step : (l x sx : ℤ) → l ≤ℤ x → (int_le l sx && int_lt sx (x +ℤ pos 1)) ≡ ((int_le l sx && int_lt sx x) || int_eq sx x)
before_step l x sx h =
    let next = and_tells _ _ (le_is l sx) (lt_is sx (x +ℤ pos 1)) in
    let now = or_tells _ _ (and_tells _ _ (le_is l sx) (lt_is sx x)) (eq_is sx x) in
    alike _ _
    (λ t. let r = next.0 t in now.1 (by_lt_z sx x (λ b. inl (r.0, b)) (λ b. inr (let i = r.1 in omega (arith, ints)))))
    (λ t. next.1 (elim (now.0 t) [
      | inl r ↦ (r.0, (let i = r.1 in omega (arith, ints)))
      | inr e ↦ ((omega (arith, ints)), (omega (arith, ints)))
    ]))

spread : (a b r f : Bool) → (((a || b) && r) && f) ≡ (((a && r) && f) || ((b && r) && f))
spread true true true true = refl
spread true true true false = refl
spread true true false f = refl
spread true false true true = refl
spread true false true false = refl
spread true false false f = refl
spread false b r f = refl

pub before_more : (c : Cells) (x : ℤ) (e : Slot × Box4) → c.left ≤ℤ x → is_counted_before c (x +ℤ pos 1) e ≡ (is_counted_before c x e || is_counted_in c x e)
before_more c x e h =
    ap (λ b. (b && (int_le c.bottom e.0.y && int_le e.0.y c.top)) && is_first_common c e) (before_step c.left x e.0.x h)
    ∙ spread (int_le c.left e.0.x && int_lt e.0.x x) (int_eq e.0.x x) (int_le c.bottom e.0.y && int_le e.0.y c.top) (is_first_common c e)

before_apart : (l x sx : ℤ) → ((int_le l sx && int_lt sx x) && int_eq sx x) ≡ false
before_apart l x sx = grind (arith, ints)

apart_spread : (a b r f : Bool) → (a && b) ≡ false → (((a && r) && f) && ((b && r) && f)) ≡ false
apart_spread true true r f h = absurd (let e : true ≡ false = h in cc)
apart_spread true false true true h = refl
apart_spread true false true false h = refl
apart_spread true false false f h = refl
apart_spread false b r f h = refl

pub before_other : (c : Cells) (x : ℤ) (e : Slot × Box4) → (is_counted_before c x e && is_counted_in c x e) ≡ false
before_other c x e =
    apart_spread (int_le c.left e.0.x && int_lt e.0.x x) (int_eq e.0.x x) (int_le c.bottom e.0.y && int_le e.0.y c.top) (is_first_common c e) (before_apart c.left x e.0.x)

before_nothing : (l sx : ℤ) → (int_le l sx && int_lt sx l) ≡ false
before_nothing l sx = grind (arith, ints)

pub before_first : (c : Cells) (e : Slot × Box4) → is_counted_before c c.left e ≡ false
before_first c e = ap (λ b. (b && (int_le c.bottom e.0.y && int_le e.0.y c.top)) && is_first_common c e) (before_nothing c.left e.0.x)

before_all : (l r x sx : ℤ) → x ≡ r +ℤ pos 1 → (int_le l sx && int_lt sx x) ≡ (int_le l sx && int_le sx r)
before_all l r x sx e = grind (arith, ints)

pub before_last : (c : Cells) (x : ℤ) (e : Slot × Box4) → x ≡ c.right +ℤ pos 1 → is_counted_before c x e ≡ is_counted c e
before_last c x e h = ap (λ b. (b && (int_le c.bottom e.0.y && int_le e.0.y c.top)) && is_first_common c e) (before_all c.left c.right x e.0.x h)

-- ---- counts and lists of two tests that never pass together
module _ {A : Type 0} (p q r : A → Bool) (more : (e : A) → r e ≡ (p e || q e)) (apart : (e : A) → (p e && q e) ≡ false) where
  one_of : (a b : Bool) → (a && b) ≡ false → cond (a || b) 1 0 ≡ cond a 1 0 + cond b 1 0
  one_of true true h = absurd (let e : true ≡ false = h in cc)
  one_of true false h = refl
  one_of false true h = refl
  one_of false false h = refl

  pub count_both : (es : List A) → count_by r es ≡ count_by p es + count_by q es
  count_both [] = refl
  count_both (e ∷ es) =
      let i = sum_by-cons (λ x. cond (r x) 1 0) e es in
      let j = sum_by-cons (λ x. cond (p x) 1 0) e es in
      let k = sum_by-cons (λ x. cond (q x) 1 0) e es in
      let o : cond (r e) 1 0 ≡ cond (p e) 1 0 + cond (q e) 1 0 = ap (λ b. cond b 1 0) (more e) ∙ one_of (p e) (q e) (apart e) in
      let h = count_both es in
      omega (arith, i, j, k, o, h)

  perm_at : (e : A) (rs ps qs : List A) (a b : Bool) → (a && b) ≡ false → IsPermutation rs (ps ++ qs) → IsPermutation (cond (a || b) (e ∷ rs) rs) (cond a (e ∷ ps) ps ++ cond b (e ∷ qs) qs)
  perm_at e rs ps qs true true h s = absurd (let e : true ≡ false = h in cc)
  perm_at e rs ps qs true false h s = IsPermutation-cons e rs (ps ++ qs) s
  perm_at e rs ps qs false true h s = IsPermutation-trans (e ∷ rs) (e ∷ (ps ++ qs)) (ps ++ e ∷ qs) (IsPermutation-cons e rs (ps ++ qs) s) (IsPermutation-sym (ps ++ e ∷ qs) (e ∷ (ps ++ qs)) (IsPermutation-middle ps e qs))
  perm_at e rs ps qs false false h s = s

  pub filter_both : (es : List A) → IsPermutation (filter r es) (filter p es ++ filter q es)
  filter_both [] = IsPermutation-refl []
  filter_both (e ∷ es) = rw (more e) (perm_at e (filter r es) (filter p es) (filter q es) (p e) (q e) (apart e) (filter_both es))

-- what was found so far, and in the next column
pub found_more : (c : Cells) (x : ℤ) (t : Slot × Box4 → Bool) (es : List (Slot × Box4)) (old found next : List ℕ) → c.left ≤ℤ x → IsPermutation (old ++ ids_of (filter (λ e. is_counted_before c x e && t e) es)) found → next ≡ found ++ ids_of (filter (λ e. is_counted_in c x e && t e) es) → IsPermutation (old ++ ids_of (filter (λ e. is_counted_before c (x +ℤ pos 1) e && t e) es)) next
found_more c x t es old found next h s e =
    let before : List (Slot × Box4) = filter (λ e. is_counted_before c x e && t e) es in
    let here : List (Slot × Box4) = filter (λ e. is_counted_in c x e && t e) es in
    let after : List (Slot × Box4) = filter (λ e. is_counted_before c (x +ℤ pos 1) e && t e) es in
    let both : IsPermutation after (before ++ here) = filter_both (λ e. is_counted_before c x e && t e) (λ e. is_counted_in c x e && t e) (λ e. is_counted_before c (x +ℤ pos 1) e && t e) (λ e. ap (λ b. b && t e) (before_more c x e h) ∙ or_and (is_counted_before c x e) (is_counted_in c x e) (t e)) (λ e. and_apart (is_counted_before c x e) (is_counted_in c x e) (t e) (before_other c x e)) es in
    let ids : IsPermutation (ids_of after) (ids_of before ++ ids_of here) = rw (← map-append (λ (e : Slot × Box4). e.0.id) before here) (IsPermutation-map (λ (e : Slot × Box4). e.0.id) after (before ++ here) both) in
    let first : IsPermutation (old ++ ids_of after) (old ++ (ids_of before ++ ids_of here)) = IsPermutation-append_right old (ids_of after) (ids_of before ++ ids_of here) ids in
    let second : IsPermutation (old ++ ids_of before ++ ids_of here) (found ++ ids_of here) = IsPermutation-append_left (ids_of here) (old ++ ids_of before) found s in
    rw e (IsPermutation-trans (old ++ ids_of after) (old ++ ids_of before ++ ids_of here) (found ++ ids_of here) (rw (append_assoc old (ids_of before) (ids_of here)) first) second)
  where
    or_and : (a b t : Bool) → ((a || b) && t) ≡ ((a && t) || (b && t))
    or_and true b true = refl
    or_and true true false = refl
    or_and true false false = refl
    or_and false b t = refl

    and_apart : (a b t : Bool) → (a && b) ≡ false → ((a && t) && (b && t)) ≡ false
    and_apart true true t h = absurd (let e : true ≡ false = h in cc)
    and_apart true false true h = refl
    and_apart true false false h = refl
    and_apart false b t h = refl

nothing_found : {A : Type 0} (p : A → Bool) (es : List A) → ((e : A) → p e ≡ false) → filter p es ≡ []
nothing_found p [] h = refl
nothing_found p (e ∷ es) h = rw (h e) (nothing_found p es h)

pub found_none : (c : Cells) (t : Slot × Box4 → Bool) (es : List (Slot × Box4)) (old : List ℕ) → IsPermutation (old ++ ids_of (filter (λ e. is_counted_before c c.left e && t e) es)) old
found_none c t es old = rw (nothing_found (λ e. is_counted_before c c.left e && t e) es (λ e. ap (λ b. b && t e) (before_first c e)), append_none old) (IsPermutation-refl old)
  where
    append_none : (xs : List ℕ) → xs ++ [] ≡ xs
    append_none [] = refl
    append_none (x ∷ xs) = ap (λ ys. x ∷ ys) (append_none xs)

pub found_all : (c : Cells) (x : ℤ) (t : Slot × Box4 → Bool) (es : List (Slot × Box4)) (old found : List ℕ) → x ≡ c.right +ℤ pos 1 → IsPermutation (old ++ ids_of (filter (λ e. is_counted_before c x e && t e) es)) found → IsPermutation (old ++ ids_of (filter (λ e. is_counted c e && t e) es)) found
found_all c x t es old found h s = rw (← filter_agree (λ e. is_counted_before c x e && t e) (λ e. is_counted c e && t e) (λ e. ap (λ b. b && t e) (before_last c x e h)) es) s

nothing_counted : {A : Type 0} (p : A → Bool) (es : List A) → ((e : A) → p e ≡ false) → count_by p es ≡ 0
nothing_counted p es h = sym (length-filter p es) ∙ ap length (nothing_found p es h)

pub counted_none : (c : Cells) (es : List (Slot × Box4)) → count_by (is_counted_before c c.left) es ≡ 0
counted_none c es = nothing_counted (is_counted_before c c.left) es (before_first c)

pub counted_more : (c : Cells) (x : ℤ) (es : List (Slot × Box4)) → c.left ≤ℤ x → count_by (is_counted_before c (x +ℤ pos 1)) es ≡ count_by (is_counted_before c x) es + count_by (is_counted_in c x) es
counted_more c x es h = count_both (is_counted_before c x) (is_counted_in c x) (is_counted_before c (x +ℤ pos 1)) (λ e. before_more c x e h) (before_other c x) es

pub counted_all : (c : Cells) (x : ℤ) (es : List (Slot × Box4)) → x ≡ c.right +ℤ pos 1 → count_by (is_counted_before c x) es ≡ count_by (is_counted c) es
counted_all c x es h = sym (length-filter (is_counted_before c x) es) ∙ ap length (filter_agree (is_counted_before c x) (is_counted c) (λ e. before_last c x e h) es) ∙ length-filter (is_counted c) es

-- ---- a column as it is gone through
pub column_start : (c : Cells) (x : ℤ) (es r it : List (Slot × Box4)) (f g : Slot) → r ≡ entries_between slot_cmp (Included f) (Excluded g) es → f ≡ first_slot c x → g ≡ last_slot c x → it ≡ r → it ≡ entries_between slot_cmp (Included (first_slot c x)) (Excluded (last_slot c x)) es
column_start c x es r it f g b i j k = k ∙ b ∙ ap (λ f. entries_between slot_cmp (Included f) (Excluded g) es) i ∙ ap (λ g. entries_between slot_cmp (Included (first_slot c x)) (Excluded g) es) j

pub count_start : (c : Cells) (x : ℤ) (es it : List (Slot × Box4)) → it ≡ entries_between slot_cmp (Included (first_slot c x)) (Excluded (last_slot c x)) es → 0 + count_by (is_first_common c) it ≡ count_by (is_counted_in c x) es
count_start c x es it e = let h : count_by (is_first_common c) it ≡ count_by (is_counted_in c x) es = ap (count_by (is_first_common c)) e ∙ column_counted c x es in omega (arith, h)

pub found_start : (c : Cells) (x : ℤ) (t : Slot × Box4 → Bool) (es it : List (Slot × Box4)) (old : List ℕ) → it ≡ entries_between slot_cmp (Included (first_slot c x)) (Excluded (last_slot c x)) es → old ++ ids_of (filter (λ e. is_first_common c e && t e) it) ≡ old ++ ids_of (filter (λ e. is_counted_in c x e && t e) es)
found_start c x t es it old e = ap (λ es. old ++ ids_of es) (ap (filter (λ e. is_first_common c e && t e)) e ∙ column_found c x t es)

pub counted_here : (c : Cells) (all n : ℕ) (e : Slot × Box4) (left rest : List (Slot × Box4)) → left ≡ e ∷ rest → is_first_common c e ≡ true → all + count_by (is_first_common c) left ≡ n → all + 1 + count_by (is_first_common c) rest ≡ n
counted_here c all n e left rest s t i = let h : count_by (is_first_common c) left ≡ 1 + count_by (is_first_common c) rest = ap (count_by (is_first_common c)) s ∙ count_more (is_first_common c) e rest t in omega (arith, h, i)

pub passed_here : (c : Cells) (all n : ℕ) (e : Slot × Box4) (left rest : List (Slot × Box4)) → left ≡ e ∷ rest → is_first_common c e ≡ false → all + count_by (is_first_common c) left ≡ n → all + count_by (is_first_common c) rest ≡ n
passed_here c all n e left rest s t i = let h : count_by (is_first_common c) left ≡ count_by (is_first_common c) rest = ap (count_by (is_first_common c)) s ∙ count_same (is_first_common c) e rest t in omega (arith, h, i)

pub one_less : {A : Type 0} (all : ℕ) (e : A) (left rest : List A) → left ≡ e ∷ rest → all + length left < 2 ^ 63 → all + 1 + length rest < 2 ^ 63
one_less all e left rest s h = let i : length left ≡ length (e ∷ rest) = ap length s in omega (arith, i, h)

pub all_counted : (c : Cells) (all n : ℕ) (left : List (Slot × Box4)) → left ≡ [] → all + count_by (is_first_common c) left ≡ n → all ≡ n
all_counted c all n left s i = let h : count_by (is_first_common c) left ≡ 0 = ap (count_by (is_first_common c)) s in omega (arith, h, i)

-- ---- the columns so far, counted and gathered
pub record CountedSoFar (c : Cells) (x : ℤ) (all : ℕ) (es : List (Slot × Box4)) : Type 0 where
  pub counted : all ≡ count_by (is_counted_before c x) es
  pub from : c.left ≤ℤ x
  pub to : x ≤ℤ (c.right +ℤ pos 1)

pub counting_begins : (c : Cells) (es : List (Slot × Box4)) → AreInOrder c → CountedSoFar c c.left 0 es
counting_begins c es o = record { counted = sym (counted_none c es); from = omega (arith, ints); to = let h = o.columns in omega (arith, ints) }

pub counting_goes_on : (c : Cells) (x : ℤ) (all n : ℕ) (es : List (Slot × Box4)) → CountedSoFar c x all es → n ≡ count_by (is_counted_in c x) es → x ≤ℤ c.right → CountedSoFar c (x +ℤ pos 1) (all + n) es
counting_goes_on c x all n es s e l = record {
  counted = ap (λ a. a + n) s.counted ∙ ap (λ n. count_by (is_counted_before c x) es + n) e ∙ sym (counted_more c x es s.from);
  from = let h = s.from in omega (arith, ints);
  to = omega (arith, ints);
}

pub counting_ends : (c : Cells) (x : ℤ) (all : ℕ) (es : List (Slot × Box4)) → CountedSoFar c x all es → c.right <ℤ x → all ≡ count_by (is_counted c) es
counting_ends c x all es s l = s.counted ∙ counted_all c x es (let h = s.to in omega (arith, ints))

pub counts_are_few : (c : Cells) (x : ℤ) (all n : ℕ) (es : List (Slot × Box4)) → CountedSoFar c x all es → n ≡ count_by (is_counted_in c x) es → all + n ≤ length es
counts_are_few c x all n es s e =
    let h = counted_more c x es s.from in
    let i = count_by-le-length (is_counted_before c (x +ℤ pos 1)) es in
    let j = s.counted in
    omega (arith, h, i, j, e)

pub few_counted : (c : Cells) (es : List (Slot × Box4)) → count_by (is_counted c) es ≤ length es
few_counted c es = count_by-le-length (is_counted c) es

pub record FoundSoFar (c : Cells) (x : ℤ) (t : Slot × Box4 → Bool) (es : List (Slot × Box4)) (old found : List ℕ) : Type 0 where
  pub permuted : IsPermutation (old ++ ids_of (filter (λ e. is_counted_before c x e && t e) es)) found
  pub from : c.left ≤ℤ x
  pub to : x ≤ℤ (c.right +ℤ pos 1)

pub finding_begins : (c : Cells) (t : Slot × Box4 → Bool) (es : List (Slot × Box4)) (old : List ℕ) → AreInOrder c → FoundSoFar c c.left t es old old
finding_begins c t es old o = record { permuted = found_none c t es old; from = omega (arith, ints); to = let h = o.columns in omega (arith, ints) }

pub finding_goes_on : (c : Cells) (x : ℤ) (t : Slot × Box4 → Bool) (es : List (Slot × Box4)) (old found next : List ℕ) → FoundSoFar c x t es old found → next ≡ found ++ ids_of (filter (λ e. is_counted_in c x e && t e) es) → x ≤ℤ c.right → FoundSoFar c (x +ℤ pos 1) t es old next
finding_goes_on c x t es old found next s e l = record {
  permuted = found_more c x t es old found next s.from s.permuted e;
  from = let h = s.from in omega (arith, ints);
  to = omega (arith, ints);
}

pub finding_ends : (c : Cells) (x : ℤ) (t : Slot × Box4 → Bool) (es : List (Slot × Box4)) (old found : List ℕ) → FoundSoFar c x t es old found → c.right <ℤ x → IsPermutation (old ++ ids_of (filter (λ e. is_counted c e && t e) es)) found
finding_ends c x t es old found s l = found_all c x t es old found (let h = s.to in omega (arith, ints)) s.permuted
