-- Columns and rows, one after another.
use Rattle.std.proofs.Common.{◌≡◌, ◌↔◌, inl, inr, ℕ, Bool, true, false, IsTrue, ◌&&◌, ◌||◌, cond, sym, ◌∙◌, ap, refl, arith, ℤ, pos, ◌+ℤ◌, Option, None, nat_eq}
use Rattle.std.specs.Prelude.{◌≤ℤ◌, ◌<ℤ◌, int_le, int_lt}
use Rattle.std.specs.Ordering.{int_eq}
use Rattle.std.specs.BTreeMap.{BTreeMap, get, is_at}
use Rattle.std.specs.Map.{lookup}
use Rattle.std.proofs.lemmas.Int.{ints, by_lt_z}
use Rattle.uss_vol4.specs.declared.Box4.{Box4}
use Rattle.uss_shape.proofs.Sides.{le_is}
use Rattle.uss_shape.proofs.Answer.{and_tells, or_tells}
use Rattle.uss_index.specs.declared.cells.Cells.{Cells}
use Rattle.uss_index.specs.declared.slot.Slot.{Slot}
use Rattle.uss_index.specs.SlotOrder.{slot_cmp}
use Rattle.uss_index.specs.Cells.{AreInOrder, has_cell}
use Rattle.uss_index.specs.Slots.{AreSet, AreKept, is_slot_in, is_slot_of}
use Rattle.uss_index.proofs.Tests.{alike, lt_is, eq_is, same_is, at_slot}

-- the slots of a column in the rows below y
abbrev pub is_below_row : ℕ → Cells → ℤ → ℤ → Slot → Bool
is_below_row id cells x y s = nat_eq s.id id && (int_eq s.x x && (int_le cells.bottom s.y && int_lt s.y y))

-- the slots in the columns below x
abbrev pub is_below_column : ℕ → Cells → ℤ → Slot → Bool
is_below_column id cells x s = nat_eq s.id id && ((int_le cells.left s.x && int_lt s.x x) && (int_le cells.bottom s.y && int_le s.y cells.top))

-- a column so far
pub record ColumnSoFar (id : ℕ) (cells : Cells) (x y : ℤ) (w : Option Box4) (old new : BTreeMap Slot Box4) : Type 0 where
  pub set : AreSet (is_below_row id cells x y) w old new
  pub from : cells.bottom ≤ℤ y
  pub to : y ≤ℤ (cells.top +ℤ pos 1)

-- the columns so far
pub record ColumnsSoFar (id : ℕ) (cells : Cells) (x : ℤ) (w : Option Box4) (old new : BTreeMap Slot Box4) : Type 0 where
  pub set : AreSet (is_below_column id cells x) w old new
  pub from : cells.left ≤ℤ x
  pub to : x ≤ℤ (cells.right +ℤ pos 1)

-- ---- what the tests tell
below_row_tells : (id : ℕ) (cells : Cells) (x y : ℤ) (s : Slot) → IsTrue (is_below_row id cells x y s) ↔ ((s.id ≡ id) × ((s.x ≡ x) × ((cells.bottom ≤ℤ s.y) × (s.y <ℤ y))))
below_row_tells id cells x y s = and_tells _ _ (same_is s.id id) (and_tells _ _ (eq_is s.x x) (and_tells _ _ (le_is cells.bottom s.y) (lt_is s.y y)))

pub slot_in_tells : (id : ℕ) (cells : Cells) (x : ℤ) (s : Slot) → IsTrue (is_slot_in id cells x s) ↔ ((s.id ≡ id) × ((s.x ≡ x) × ((cells.bottom ≤ℤ s.y) × (s.y ≤ℤ cells.top))))
slot_in_tells id cells x s = and_tells _ _ (same_is s.id id) (and_tells _ _ (eq_is s.x x) (and_tells _ _ (le_is cells.bottom s.y) (le_is s.y cells.top)))

below_column_tells : (id : ℕ) (cells : Cells) (x : ℤ) (s : Slot) → IsTrue (is_below_column id cells x s) ↔ ((s.id ≡ id) × (((cells.left ≤ℤ s.x) × (s.x <ℤ x)) × ((cells.bottom ≤ℤ s.y) × (s.y ≤ℤ cells.top))))
below_column_tells id cells x s = and_tells _ _ (same_is s.id id) (and_tells _ _ (and_tells _ _ (le_is cells.left s.x) (lt_is s.x x)) (and_tells _ _ (le_is cells.bottom s.y) (le_is s.y cells.top)))

pub has_cell_tells : (cells : Cells) (x y : ℤ) → IsTrue (has_cell cells x y) ↔ (((cells.left ≤ℤ x) × (x ≤ℤ cells.right)) × ((cells.bottom ≤ℤ y) × (y ≤ℤ cells.top)))
has_cell_tells cells x y = and_tells _ _ (and_tells _ _ (le_is cells.left x) (le_is x cells.right)) (and_tells _ _ (le_is cells.bottom y) (le_is y cells.top))

pub slot_of_tells : (id : ℕ) (cells : Cells) (s : Slot) → IsTrue (is_slot_of id cells s) ↔ ((s.id ≡ id) × (((cells.left ≤ℤ s.x) × (s.x ≤ℤ cells.right)) × ((cells.bottom ≤ℤ s.y) × (s.y ≤ℤ cells.top))))
slot_of_tells id cells s = and_tells _ _ (same_is s.id id) (has_cell_tells cells s.x s.y)

-- ---- what was set, and what is set next
either : (a b : Bool) {X : Type 0} (w o : X) → cond a w (cond b w o) ≡ cond (a || b) w o
either true b w o = refl
either false b w o = refl

set_more : (test next : Slot → Bool) (k : Slot) (w : Option Box4) (old mid new : BTreeMap Slot Box4) → AreSet test w old mid → ((q : Slot) → get slot_cmp new q ≡ cond (is_at (slot_cmp k) q) w (get slot_cmp mid q)) → ((q : Slot) → next q ≡ (is_at (slot_cmp k) q || test q)) → AreSet next w old new
set_more test next k w old mid new s put more = record {
  at = λ q. put q ∙ ap (cond (is_at (slot_cmp k) q) w) (s.at q) ∙ either (is_at (slot_cmp k) q) (test q) w (get slot_cmp old q) ∙ ap (λ b. cond b w (get slot_cmp old q)) (sym (more q));
}

set_join : (test also next : Slot → Bool) (w : Option Box4) (old mid new : BTreeMap Slot Box4) → AreSet test w old mid → AreSet also w mid new → ((q : Slot) → next q ≡ (also q || test q)) → AreSet next w old new
set_join test also next w old mid new s t more = record {
  at = λ q. t.at q ∙ ap (cond (also q) w) (s.at q) ∙ either (also q) (test q) w (get slot_cmp old q) ∙ ap (λ b. cond b w (get slot_cmp old q)) (sym (more q));
}

set_as : (test next : Slot → Bool) (w : Option Box4) (old new : BTreeMap Slot Box4) → AreSet test w old new → ((q : Slot) → next q ≡ test q) → AreSet next w old new
set_as test next w old new s same = record { at = λ q. s.at q ∙ ap (λ b. cond b w (get slot_cmp old q)) (sym (same q)) }

set_nothing : (test : Slot → Bool) (w : Option Box4) (old : BTreeMap Slot Box4) → ((q : Slot) → test q ≡ false) → AreSet test w old old
set_nothing test w old none = record { at = λ q. sym (ap (λ b. cond b w (get slot_cmp old q)) (none q)) }

never : (b : Bool) → (IsTrue b → ⊥) → b ≡ false
never true h = absurd (h refl)
never false h = refl

-- ---- rows
pub column_begins : (id : ℕ) (cells : Cells) (x : ℤ) (w : Option Box4) (old : BTreeMap Slot Box4) → AreInOrder cells → ColumnSoFar id cells x cells.bottom w old old
column_begins id cells x w old o = record {
  set = set_nothing (is_below_row id cells x cells.bottom) w old (λ q. never _ (λ h. let r = (below_row_tells id cells x cells.bottom q).0 h in absurd (let i = r.1.1.0 in let j = r.1.1.1 in omega (arith, ints))));
  from = omega (arith, ints);
  to = let l = o.rows in omega (arith, ints);
}

row_more : (id : ℕ) (cells : Cells) (x y : ℤ) (q : Slot) → cells.bottom ≤ℤ y → is_below_row id cells x (y +ℤ pos 1) q ≡ (is_at (slot_cmp (record { x = x; y = y; id = id })) q || is_below_row id cells x y q)
row_more id cells x y q l =
    let k : Slot = record { x = x; y = y; id = id } in
    let next = below_row_tells id cells x (y +ℤ pos 1) q in
    let now = or_tells _ _ (at_slot k q) (below_row_tells id cells x y q) in
    alike _ _
    (λ h. let r = next.0 h in now.1 (by_lt_z q.y y (λ b. inr (r.0, (r.1.0, (r.1.1.0, b)))) (λ b. inl (sym r.1.0, (let i = r.1.1.1 in omega (arith, ints)), sym r.0))))
    (λ h. next.1 (elim (now.0 h) [
      | inl e ↦ (sym e.2, (sym e.0, ((let i = e.1 in omega (arith, ints)), (let i = e.1 in omega (arith, ints)))))
      | inr r ↦ (r.0, (r.1.0, (r.1.1.0, (let i = r.1.1.1 in omega (arith, ints)))))
    ]))

pub column_goes_on : (id : ℕ) (cells : Cells) (x y : ℤ) (w : Option Box4) (old mid new : BTreeMap Slot Box4) → ColumnSoFar id cells x y w old mid → ((q : Slot) → get slot_cmp new q ≡ cond (is_at (slot_cmp (record { x = x; y = y; id = id })) q) w (get slot_cmp mid q)) → y ≤ℤ cells.top → ColumnSoFar id cells x (y +ℤ pos 1) w old new
column_goes_on id cells x y w old mid new s put l = record {
  set = set_more (is_below_row id cells x y) (is_below_row id cells x (y +ℤ pos 1)) (record { x = x; y = y; id = id }) w old mid new s.set put (λ q. row_more id cells x y q s.from);
  from = let i = s.from in omega (arith, ints);
  to = omega (arith, ints);
}

pub column_ends : (id : ℕ) (cells : Cells) (x y : ℤ) (w : Option Box4) (old new : BTreeMap Slot Box4) → ColumnSoFar id cells x y w old new → cells.top <ℤ y → AreSet (is_slot_in id cells x) w old new
column_ends id cells x y w old new s l =
    set_as (is_below_row id cells x y) (is_slot_in id cells x) w old new s.set
    (λ q. let a = slot_in_tells id cells x q in let b = below_row_tells id cells x y q in
    alike _ _
    (λ h. let r = a.0 h in b.1 (r.0, (r.1.0, (r.1.1.0, (let i = r.1.1.1 in omega (arith, ints))))))
    (λ h. let r = b.0 h in a.1 (r.0, (r.1.0, (r.1.1.0, (let i = r.1.1.1 in let j = s.to in omega (arith, ints)))))))

-- a column that wasn't filled to its end
pub column_breaks : (id : ℕ) (cells : Cells) (x y : ℤ) (w : Option Box4) (old mid new : BTreeMap Slot Box4) → ColumnSoFar id cells x y w old mid → new.entries ≡ mid.entries → y ≤ℤ cells.top → AreKept (is_slot_in id cells x) old new
column_breaks id cells x y w old mid new s same l = record {
  at = λ q out.
      let below : is_below_row id cells x y q ≡ false = never _ (λ h. let r = (below_row_tells id cells x y q).0 h in absurd (clash _ ((slot_in_tells id cells x q).1 (r.0, (r.1.0, (r.1.1.0, (let i = r.1.1.1 in omega (arith, ints)))))) out)) in
      unchanged_get new mid q same ∙ s.set.at q ∙ ap (λ b. cond b w (get slot_cmp old q)) below;
}
  where
    clash : (b : Bool) → IsTrue b → b ≡ false → ⊥
    clash b h e = (let f : false ≡ true = sym e ∙ h in cc)

    unchanged_get : (m n : BTreeMap Slot Box4) (q : Slot) → m.entries ≡ n.entries → get slot_cmp m q ≡ get slot_cmp n q
    unchanged_get m n q e = ap (λ es. lookup (is_at (slot_cmp q)) es) e

-- ---- columns
pub columns_begin : (id : ℕ) (cells : Cells) (w : Option Box4) (old : BTreeMap Slot Box4) → AreInOrder cells → ColumnsSoFar id cells cells.left w old old
columns_begin id cells w old o = record {
  set = set_nothing (is_below_column id cells cells.left) w old (λ q. never _ (λ h. let r = (below_column_tells id cells cells.left q).0 h in absurd (let i = r.1.0.0 in let j = r.1.0.1 in omega (arith, ints))));
  from = omega (arith, ints);
  to = let l = o.columns in omega (arith, ints);
}

column_more : (id : ℕ) (cells : Cells) (x : ℤ) (q : Slot) → cells.left ≤ℤ x → is_below_column id cells (x +ℤ pos 1) q ≡ (is_slot_in id cells x q || is_below_column id cells x q)
column_more id cells x q l =
    let next = below_column_tells id cells (x +ℤ pos 1) q in
    let now = or_tells _ _ (slot_in_tells id cells x q) (below_column_tells id cells x q) in
    alike _ _
    (λ h. let r = next.0 h in now.1 (by_lt_z q.x x (λ b. inr (r.0, ((r.1.0.0, b), r.1.1))) (λ b. inl (r.0, ((let i = r.1.0.1 in omega (arith, ints)), r.1.1)))))
    (λ h. next.1 (elim (now.0 h) [
      | inl e ↦ (e.0, (((let i = e.1.0 in omega (arith, ints)), (let i = e.1.0 in omega (arith, ints))), e.1.1))
      | inr r ↦ (r.0, ((r.1.0.0, (let i = r.1.0.1 in omega (arith, ints))), r.1.1))
    ]))

pub columns_go_on : (id : ℕ) (cells : Cells) (x : ℤ) (w : Option Box4) (old mid new : BTreeMap Slot Box4) → ColumnsSoFar id cells x w old mid → AreSet (is_slot_in id cells x) w mid new → x ≤ℤ cells.right → ColumnsSoFar id cells (x +ℤ pos 1) w old new
columns_go_on id cells x w old mid new s put l = record {
  set = set_join (is_below_column id cells x) (is_slot_in id cells x) (is_below_column id cells (x +ℤ pos 1)) w old mid new s.set put (λ q. column_more id cells x q s.from);
  from = let i = s.from in omega (arith, ints);
  to = omega (arith, ints);
}

pub columns_end : (id : ℕ) (cells : Cells) (x : ℤ) (w : Option Box4) (old new : BTreeMap Slot Box4) → ColumnsSoFar id cells x w old new → cells.right <ℤ x → AreSet (is_slot_of id cells) w old new
columns_end id cells x w old new s l =
    set_as (is_below_column id cells x) (is_slot_of id cells) w old new s.set
    (λ q. let a = slot_of_tells id cells q in let b = below_column_tells id cells x q in
    alike _ _
    (λ h. let r = a.0 h in b.1 (r.0, ((r.1.0.0, (let i = r.1.0.1 in omega (arith, ints))), r.1.1)))
    (λ h. let r = b.0 h in a.1 (r.0, ((r.1.0.0, (let i = r.1.0.1 in let j = s.to in omega (arith, ints))), r.1.1))))

-- what was put in comes out again, where nothing stood
pub columns_undone : (id : ℕ) (cells : Cells) (x : ℤ) (w : Option Box4) (old mid failed new : BTreeMap Slot Box4) → ((q : Slot) → is_slot_of id cells q ≡ true → get slot_cmp old q ≡ None) → ColumnsSoFar id cells x w old mid → AreKept (is_slot_in id cells x) mid failed → AreSet (is_slot_of id cells) None failed new → x ≤ℤ cells.right → AreKept (λ _. false) old new
columns_undone id cells x w old mid failed new absent s kept out l = record { at = λ q never. by (is_slot_of id cells q) q refl }
  where
    clash : (b : Bool) → IsTrue b → b ≡ false → ⊥
    clash b h e = (let f : false ≡ true = sym e ∙ h in cc)

    by : (b : Bool) (q : Slot) → is_slot_of id cells q ≡ b → get slot_cmp new q ≡ get slot_cmp old q
    by true q e = out.at q ∙ ap (λ b. cond b None (get slot_cmp failed q)) e ∙ sym (absent q e)
    by false q e =
        let a = slot_of_tells id cells q in
        let i : is_slot_in id cells x q ≡ false = never _ (λ h. let r = (slot_in_tells id cells x q).0 h in clash _ (a.1 (r.0, (((let j = r.1.0 in let k = s.from in omega (arith, ints)), (let j = r.1.0 in omega (arith, ints))), r.1.1))) e) in
        let j : is_below_column id cells x q ≡ false = never _ (λ h. let r = (below_column_tells id cells x q).0 h in clash _ (a.1 (r.0, ((r.1.0.0, (let k = r.1.0.1 in omega (arith, ints))), r.1.1))) e) in
        out.at q ∙ ap (λ b. cond b None (get slot_cmp failed q)) e ∙ kept.at q i ∙ s.set.at q ∙ ap (λ b. cond b w (get slot_cmp old q)) j
