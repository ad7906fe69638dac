-- What is done to the maps of a grid keeps them together.
use Rattle.std.proofs.Common.{◌≡◌, ℕ, Bool, true, false, cond, sym, ◌∙◌, ap, refl, Option, None, nat_eq, subst}
use Rattle.std.specs.Ordering.{nat_cmp}
use Rattle.std.specs.BTreeMap.{BTreeMap, get, is_at, IsOrdered}
use Rattle.std.specs.Map.{lookup}
use Rattle.std.proofs.lemmas.Bool.{eqb-true}
use Rattle.std.proofs.lemmas.Cmp.{nat_cmp_total}
use Rattle.std.proofs.lemmas.Map.Lookups.{btree_map_from_get, exact_unsigned}
use Rattle.uss_vol4.specs.declared.Box4.{Box4}
use Rattle.uss_index.specs.declared.slot.Slot.{Slot}
use Rattle.uss_index.specs.SlotOrder.{slot_cmp}
use Rattle.uss_index.specs.Boxes.{box_at}
use Rattle.uss_index.specs.Places.{StandsAt, IsPut, AreUnchanged, IsGrid, in_cell, among_wide}
use Rattle.uss_index.proofs.Tests.{at_id}

-- the same boxes stand at the same places
pub stands_as : (id : ℕ) (w w' : Option Box4) (slots : BTreeMap Slot Box4) (wide : BTreeMap ℕ Box4) → w ≡ w' → StandsAt id w slots wide → StandsAt id w' slots wide
stands_as id w w' slots wide e s = subst (λ v. StandsAt id v slots wide) e s

pub grid_same : (boxes boxes' : BTreeMap ℕ Box4) (slots : BTreeMap Slot Box4) (wide : BTreeMap ℕ Box4) → boxes'.entries ≡ boxes.entries → IsOrdered nat_cmp boxes' → IsGrid boxes slots wide → IsGrid boxes' slots wide
grid_same boxes boxes' slots wide e o g = record {
  stands = λ id. stands_as id _ _ slots wide (ap (lookup (is_at (nat_cmp id))) (sym e)) (g.stands id);
  ordered = o;
}

put_at : (id k : ℕ) (b : Bool) (w v : Option Box4) (slots slots' : BTreeMap Slot Box4) (wide wide' : BTreeMap ℕ Box4) → nat_eq k id ≡ b → IsPut id w slots slots' wide wide' → StandsAt k v slots wide → StandsAt k (cond b w v) slots' wide'
put_at id k true w v slots slots' wide wide' e p s = record {
  in_cells = λ q is. p.in_cells q ∙ ap (λ b. cond b (in_cell w q.x q.y) (get slot_cmp slots q)) (ap (λ n. nat_eq n id) is ∙ e);
  in_wide = p.in_wide k ∙ ap (λ b. cond b (among_wide w) (get nat_cmp wide k)) e;
}
put_at id k false w v slots slots' wide wide' e p s = record {
  in_cells = λ q is. p.in_cells q ∙ ap (λ b. cond b (in_cell w q.x q.y) (get slot_cmp slots q)) (ap (λ n. nat_eq n id) is ∙ e) ∙ s.in_cells q is;
  in_wide = p.in_wide k ∙ ap (λ b. cond b (among_wide w) (get nat_cmp wide k)) e ∙ s.in_wide;
}

-- what is put under an identifier stands, and what stood under the others
pub grid_put : (id : ℕ) (w : Option Box4) (boxes boxes' : BTreeMap ℕ Box4) (slots slots' : BTreeMap Slot Box4) (wide wide' : BTreeMap ℕ Box4) → IsGrid boxes slots wide → IsPut id w slots slots' wide wide' → ((k : ℕ) → get nat_cmp boxes' k ≡ cond (is_at (nat_cmp id) k) w (get nat_cmp boxes k)) → IsOrdered nat_cmp boxes' → IsGrid boxes' slots' wide'
grid_put id w boxes boxes' slots slots' wide wide' g p put o = record {
  stands = λ k. stands_as k _ _ slots' wide' (sym (put k ∙ ap (λ b. cond b w (get nat_cmp boxes k)) (at_id id k))) (put_at id k (nat_eq k id) w (get nat_cmp boxes k) slots slots' wide wide' refl p (g.stands k));
  ordered = o;
}

back_at : (id k : ℕ) (b : Bool) (w : Option Box4) (o : Option Box4) → nat_eq k id ≡ b → (k ≡ id → o ≡ None) → cond b None (cond b w o) ≡ o
back_at id k true w o e absent = sym (absent (eqb-true k id e))
back_at id k false w o e absent = refl

-- a box that was put under an identifier that wasn't there, and taken out again
pub boxes_back : (id : ℕ) (w : Option Box4) (boxes boxes' boxes'' : BTreeMap ℕ Box4) → get nat_cmp boxes id ≡ None → ((k : ℕ) → get nat_cmp boxes' k ≡ cond (is_at (nat_cmp id) k) w (get nat_cmp boxes k)) → ((k : ℕ) → get nat_cmp boxes'' k ≡ cond (is_at (nat_cmp id) k) None (get nat_cmp boxes' k)) → IsOrdered nat_cmp boxes → IsOrdered nat_cmp boxes'' → boxes''.entries ≡ boxes.entries
boxes_back id w boxes boxes' boxes'' absent put out o o' =
    btree_map_from_get nat_cmp_total boxes'' boxes o' o
    (λ k. out k ∙ ap (cond (is_at (nat_cmp id) k) None) (put k) ∙ ap (λ b. cond b None (cond b w (get nat_cmp boxes k))) (at_id id k)
    ∙ back_at id k (nat_eq k id) w (get nat_cmp boxes k) refl (λ e. ap (get nat_cmp boxes) e ∙ absent))
    exact_unsigned

pub grid_unchanged : (boxes boxes' : BTreeMap ℕ Box4) (slots slots' : BTreeMap Slot Box4) (wide wide' : BTreeMap ℕ Box4) → IsGrid boxes slots wide → AreUnchanged slots slots' wide wide' → boxes'.entries ≡ boxes.entries → IsOrdered nat_cmp boxes' → IsGrid boxes' slots' wide'
grid_unchanged boxes boxes' slots slots' wide wide' g u e o = record {
  stands = λ id. let s = g.stands id in stands_as id _ _ slots' wide' (ap (lookup (is_at (nat_cmp id))) (sym e)) (record { in_cells = λ q is. u.in_cells q ∙ s.in_cells q is; in_wide = u.in_wide id ∙ s.in_wide });
  ordered = o;
}

-- the boxes after a change, by identifier
pub boxes_after : (id : ℕ) (w : Option Box4) (boxes boxes' : BTreeMap ℕ Box4) → ((k : ℕ) → get nat_cmp boxes' k ≡ cond (is_at (nat_cmp id) k) w (get nat_cmp boxes k)) → (k : ℕ) → box_at boxes'.entries k ≡ cond (nat_eq k id) w (box_at boxes.entries k)
boxes_after id w boxes boxes' put k = put k ∙ ap (λ b. cond b w (get nat_cmp boxes k)) (at_id id k)
