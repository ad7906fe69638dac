-- What tests of numbers and of slots tell.
use Rattle.std.proofs.Common.{◌≡◌, ◌↔◌, ℕ, Bool, true, false, IsTrue, ◌&&◌, sym, ◌∙◌, ap, refl, arith, ℤ, nat_eq}
use Rattle.std.specs.Prelude.{◌<ℤ◌, int_lt}
use Rattle.std.specs.declared.cmp.Ordering.{Ordering}
use Rattle.std.specs.declared.cmp.Ordering.TheVariants.{Less, Equal, Greater}
use Rattle.std.specs.Ordering.{int_eq, is_eq, ordering_then, nat_cmp, int_cmp}
use Rattle.std.specs.BTreeMap.{is_at}
use Rattle.std.proofs.lemmas.Int.{ints}
use Rattle.std.proofs.lemmas.Bool.{eqb-true, eq-eqb}
use Rattle.std.proofs.lemmas.Bool.Decides.{Decides-int_eq, nat_tests}
use Rattle.uss_shape.proofs.Answer.{and_tells}
use Rattle.uss_index.specs.declared.slot.Slot.{Slot}
use Rattle.uss_index.specs.SlotOrder.{slot_cmp}

-- tests that follow from each other are the same
pub alike : (a b : Bool) → (IsTrue a → IsTrue b) → (IsTrue b → IsTrue a) → a ≡ b
alike true b f g = sym (f refl)
alike false true f g = g refl
alike false false f g = refl

pub lt_is : (s t : ℤ) → IsTrue (int_lt s t) ↔ s <ℤ t
lt_is s t = (λ h. grind (arith, ints), λ h. grind (arith, ints))

pub eq_is : (s t : ℤ) → IsTrue (int_eq s t) ↔ s ≡ t
eq_is s t = Decides-int_eq s t

pub same_is : (m n : ℕ) → IsTrue (nat_eq m n) ↔ m ≡ n
same_is m n = (λ h. eqb-true m n h, λ e. eq-eqb m n e)

tied : (o p q : Ordering) → is_eq (ordering_then o (ordering_then p q)) ≡ (is_eq o && (is_eq p && is_eq q))
tied Less p q = refl
tied Greater p q = refl
tied Equal Less q = refl
tied Equal Greater q = refl
tied Equal Equal q = refl

nat_tie : (m n : ℕ) → is_eq (nat_cmp m n) ≡ nat_eq m n
nat_tie m n = grind (arith, nat_tests)

-- a slot is at another exactly where the two are the same
pub at_slot : (a b : Slot) → IsTrue (is_at (slot_cmp a) b) ↔ ((a.x ≡ b.x) × (a.y ≡ b.y) × (a.id ≡ b.id))
at_slot a b =
    let t : is_at (slot_cmp a) b ≡ (int_eq a.x b.x && (int_eq a.y b.y && nat_eq a.id b.id)) = tied (int_cmp a.x b.x) (int_cmp a.y b.y) (nat_cmp a.id b.id) ∙ ap (λ n. int_eq a.x b.x && (int_eq a.y b.y && n)) (nat_tie a.id b.id) in
    let k = and_tells _ _ (eq_is a.x b.x) (and_tells _ _ (eq_is a.y b.y) (same_is a.id b.id)) in (
      λ h. let r = k.0 (sym t ∙ h) in (r.0, r.1.0, r.1.1),
      λ p. t ∙ k.1 (p.0, (p.1, p.2)),
    )

pub at_id : (m n : ℕ) → is_at (nat_cmp m) n ≡ nat_eq n m
at_id m n = grind (arith, nat_tests)
