-- What is found of suppliers after one of them changed; and identifiers tell whose they are.
use Rattle.std.proofs.Common.{ℕ, ◌<◌, ◌/◌, ◌%◌, ◌^◌, ◌==◌, Bool, true, false, cond, List, [], ◌∷◌, ◌≡◌, ◌≢◌, find, refl, ap, sym, subst, ◌∙◌, arith, Option, Some, None}
use Rattle.std.specs.Option.{option_map}
use Rattle.uss_intent.specs.Identifiers.{flight_number, ticket_number}
use Rattle.uss_event.specs.declared.entries.Owner.{Owner}
use Rattle.uss_law_dss.specs.Lists.{Has}
use Rattle.uss_law_dss.proofs.Lists.{find_has}
use Rattle.uss_law_dss.proofs.Tests.{same_number, equal_number, other_number, unequal_number}
use Rattle.uss_law_world.specs.World.{Supplier, World, supplier_in}
use Rattle.uss_law_world.specs.Moves.{Arrival, if_there, to_one, changed, with_supplier}

pub same_flight : (s t f g : ℕ) → f < 2 ^ 64 → g < 2 ^ 64 → flight_number s f ≡ flight_number t g → (s ≡ t) × (f ≡ g)
same_flight s t f g a b h =
    let x : s ≡ t = omega (arith, a, b, h) in
    let y : f / 2 ^ 60 ≡ g / 2 ^ 60 = omega (arith, a, b, h) in
    let z : f % 2 ^ 60 ≡ g % 2 ^ 60 = omega (arith, a, b, h) in
    (x, omega (arith, y, z))

pub same_ticket : (s t j k : ℕ) → j < 2 ^ 64 → k < 2 ^ 64 → ticket_number s j ≡ ticket_number t k → (s ≡ t) × (j ≡ k)
same_ticket s t j k a b h =
    let x : s ≡ t = omega (arith, a, b, h) in
    let y : j / 2 ^ 60 ≡ k / 2 ^ 60 = omega (arith, a, b, h) in
    let z : j % 2 ^ 60 ≡ k % 2 ^ 60 = omega (arith, a, b, h) in
    (x, omega (arith, y, z))

pub has_found : (s : ℕ) (xs : List Supplier) (x : Supplier) → supplier_in s xs ≡ Some x → Has xs x × (x.owner.number ≡ s)
unfolding supplier_in
has_found s xs x h = let f = find_has (λ (y : Supplier). y.owner.number == s) xs x h in (f.0, same_number x.owner.number s f.1)

-- what comes to somebody is what was for it, and it is there
pub record Came (w : World) (b a : Arrival) : Type 0 where
  pub is : b ≡ a
  pub supplier : Supplier
  pub there : supplier_in a.supplier w.suppliers ≡ Some supplier

pub came : (w : World) (b a : Arrival) → to_one w b ≡ Some a → Came w b a
came w b a e = go (supplier_in b.supplier w.suppliers) refl e
  where
    same : (x y : Arrival) → Some x ≡ Some y → x ≡ y
    same x y q = cc

    go : (o : Option Supplier) → supplier_in b.supplier w.suppliers ≡ o → if_there o b ≡ Some a → Came w b a
    go None f q = cc
    go (Some x) f q =
        let is : b ≡ a = same b a q in
        record { is = is; supplier = x; there = subst (λ (z : Arrival). supplier_in z.supplier w.suppliers ≡ Some x) is f }

-- the change leaves whose supplier it is
abbrev pub KeepsOwner : (Supplier → Supplier) → Type 0
KeepsOwner f = (x : Supplier) → (f x).owner ≡ x.owner

owner_same : (s : ℕ) (f : Supplier → Supplier) (x : Supplier) → KeepsOwner f → (changed s f x).owner ≡ x.owner
owner_same s f x k = go (x.owner.number == s)
  where
    go : (b : Bool) → (cond b (f x) x).owner ≡ x.owner
    go true = k x
    go false = refl

find_changed : (s k : ℕ) (f : Supplier → Supplier) (xs : List Supplier) → KeepsOwner f → supplier_in k (with_supplier s f xs) ≡ option_map (changed s f) (supplier_in k xs)
unfolding supplier_in
find_changed s k f [] o = refl
find_changed s k f (x ∷ xs) o =
    rw (ap (λ (w : Owner). w.number == k) (owner_same s f x o)) (go (x.owner.number == k) (find_changed s k f xs o))
  where
    p : Supplier → Bool
    p = λ (y : Supplier). y.owner.number == k

    go : (b : Bool) → find (λ (y : Supplier). y.owner.number == k) (with_supplier s f xs) ≡ option_map (changed s f) (find (λ (y : Supplier). y.owner.number == k) xs)
        → cond b (Some (changed s f x)) (find (λ (y : Supplier). y.owner.number == k) (with_supplier s f xs)) ≡ option_map (changed s f) (cond b (Some x) (find (λ (y : Supplier). y.owner.number == k) xs))
    go true rec = refl
    go false rec = rec

pub other_supplier : (s k : ℕ) (f : Supplier → Supplier) (xs : List Supplier) → KeepsOwner f → k ≢ s → supplier_in k (with_supplier s f xs) ≡ supplier_in k xs
other_supplier s k f xs o d = find_changed s k f xs o ∙ go (supplier_in k xs) refl
  where
    go : (x : Option Supplier) → supplier_in k xs ≡ x → option_map (changed s f) x ≡ x
    go None e = refl
    go (Some x) e =
        let n = has_found k xs x e in
        let q : (x.owner.number == s) ≡ false = unequal_number x.owner.number s (λ z. d (sym n.1 ∙ z)) in
        rw q refl

pub same_supplier : (s : ℕ) (f : Supplier → Supplier) (xs : List Supplier) (x : Supplier) → KeepsOwner f → supplier_in s xs ≡ Some x → supplier_in s (with_supplier s f xs) ≡ Some (f x)
same_supplier s f xs x o h =
    let n = has_found s xs x h in
    let q : (x.owner.number == s) ≡ true = equal_number x.owner.number s n.1 in
    find_changed s s f xs o ∙ rw (h, q) refl

pub no_supplier : (s : ℕ) (f : Supplier → Supplier) (xs : List Supplier) → KeepsOwner f → supplier_in s xs ≡ None → supplier_in s (with_supplier s f xs) ≡ None
no_supplier s f xs o h = find_changed s s f xs o ∙ rw h refl

-- what is true of the changed supplier, and of every other as it was, is true of each
pub at_each : (s : ℕ) (f : Supplier → Supplier) (xs : List Supplier) (x : Supplier) → KeepsOwner f → supplier_in s xs ≡ Some x
    → (k : ℕ) (P : Option Supplier → Type 0) → (k ≡ s → P (Some (f x))) → P (supplier_in k xs) → P (supplier_in k (with_supplier s f xs))
at_each s f xs x o h k P here there = go (k == s) refl
  where
    go : (b : Bool) → (k == s) ≡ b → P (supplier_in k (with_supplier s f xs))
    go true e =
        let q = same_number k s e in
        let r : supplier_in k (with_supplier s f xs) ≡ Some (f x) = subst (λ z. supplier_in z (with_supplier s f xs) ≡ Some (f x)) (sym q) (same_supplier s f xs x o h) in
        subst P (sym r) (here q)
    go false e = subst P (sym (other_supplier s k f xs o (other_number k s e))) there

-- of a supplier that may not be there
pub at_any : (s : ℕ) (f : Supplier → Supplier) (xs : List Supplier) → KeepsOwner f → (k : ℕ) (P : Option Supplier → Type 0)
    → ((x : Supplier) → k ≡ s → supplier_in k xs ≡ Some x → P (Some (f x))) → P (supplier_in k xs) → P (supplier_in k (with_supplier s f xs))
at_any s f xs o k P here there = go (supplier_in s xs) refl
  where
    same : k ≡ s → supplier_in s xs ≡ None → P (supplier_in k (with_supplier s f xs))
    same e n =
        let r : supplier_in k (with_supplier s f xs) ≡ None = subst (λ z. supplier_in z (with_supplier s f xs) ≡ None) (sym e) (no_supplier s f xs o n) in
        let q : supplier_in k xs ≡ None = subst (λ z. supplier_in z xs ≡ None) (sym e) n in
        subst P (sym r) (subst P q there)

    decide : (b : Bool) → (k == s) ≡ b → supplier_in s xs ≡ None → P (supplier_in k (with_supplier s f xs))
    decide true e n = same (same_number k s e) n
    decide false e n = subst P (sym (other_supplier s k f xs o (other_number k s e))) there

    go : (y : Option Supplier) → supplier_in s xs ≡ y → P (supplier_in k (with_supplier s f xs))
    go None n = decide (k == s) refl n
    go (Some x) e = at_each s f xs x o e k P (λ q. here x q (subst (λ z. supplier_in z xs ≡ Some x) (sym q) e)) there
