-- What is done to an ordered map, as what becomes of the list of its values.
use Rattle.std.proofs.Common.{◌≡◌, ℕ, ◌<◌, ◌==◌, nat_lt, Bool, true, false, not, List, [], ◌∷◌, Some, None, find, filter, refl, sym, ap, ◌∙◌, arith}
use Rattle.std.specs.Ordering.{nat_cmp}
use Rattle.std.specs.BTreeMap.{is_at, insert_entry}
use Rattle.std.specs.Map.{values_of, lookup, remove_entry, set_value}
use Rattle.std.specs.declared.cmp.Ordering.{Ordering}
use Rattle.std.specs.declared.cmp.Ordering.TheVariants.{Less, Equal, Greater}
use Rattle.std.proofs.lemmas.Bool.Decides.{nat_tests}
use Rattle.uss_intent.specs.declared.records.Recorded.{Recorded}
use Rattle.uss_intent.specs.declared.records.Ticket.{Ticket}
use Rattle.uss_law_dss.specs.Orderly.{AllAbove, Ascend, flight_recorded, id_of}
use Rattle.uss_law_dss.specs.Step.{put_recorded, put_ticket}
use Rattle.uss_dss.specs.Effects.{with_index}
use Rattle.uss_dss.specs.Maps.{AreBy}

-- the test of a key is that of the value's number
test_is : {X : Type 0} (number : X → ℕ) (k : ℕ) (e : ℕ × X) → e.0 ≡ number e.1 → is_at (nat_cmp k) e.0 ≡ (number e.1 == k)
test_is number k e h = grind (arith, nat_tests)

pub found_by : {X : Type 0} (number : X → ℕ) (k : ℕ) (es : List (ℕ × X)) → AreBy number es → lookup (is_at (nat_cmp k)) es ≡ find (λ x. number x == k) (values_of es)
found_by number k [] h = refl
found_by number k (e ∷ es) h = rw (test_is number k e h.0, found_by number k es h.1) refl

found_number_at : {X : Type 0} (number : X → ℕ) (k : ℕ) (x : X) (e : ℕ × X) (es : List (ℕ × X)) (b : Bool) → is_at (nat_cmp k) e.0 ≡ b → e.0 ≡ number e.1 → lookup (is_at (nat_cmp k)) (e ∷ es) ≡ Some x → (lookup (is_at (nat_cmp k)) es ≡ Some x → number x ≡ k) → number x ≡ k
found_number_at number k x e es true is h at rest =
    let first : Some e.1 ≡ Some x = rw is at at in
    let one : e.1 ≡ x = cc in
    let same : number e.1 ≡ k = grind (arith, nat_tests) in ap number (sym one) ∙ same
found_number_at number k x e es false is h at rest = rest (rw is at at)

-- what is found by a number has it
pub found_number : {X : Type 0} (number : X → ℕ) (k : ℕ) (x : X) (es : List (ℕ × X)) → AreBy number es → lookup (is_at (nat_cmp k)) es ≡ Some x → number x ≡ k
found_number number k x [] j at = absurd (let no : None ≡ Some x = at in cc)
found_number number k x (e ∷ es) j at = found_number_at number k x e es (is_at (nat_cmp k) e.0) refl j.0 at (found_number number k x es j.1)

-- a map keeps its keys
put_by_at : {X : Type 0} (number : X → ℕ) (k : ℕ) (v : X) (e : ℕ × X) (es : List (ℕ × X)) (o : Ordering) → nat_cmp k e.0 ≡ o → k ≡ number v → AreBy number (e ∷ es) → AreBy number (insert_entry nat_cmp es k v) → AreBy number (insert_entry nat_cmp (e ∷ es) k v)
put_by_at number k v e es Less o h j rest = rw o (h, j)
put_by_at number k v e es Equal o h j rest = let same : e.0 ≡ number v = (let q : k ≡ e.0 = grind (arith, nat_tests) in sym q ∙ h) in rw o (same, j.1)
put_by_at number k v e es Greater o h j rest = rw o (j.0, rest)

pub put_by : {X : Type 0} (number : X → ℕ) (k : ℕ) (v : X) (es : List (ℕ × X)) → k ≡ number v → AreBy number es → AreBy number (insert_entry nat_cmp es k v)
put_by number k v [] h j = (h, tt)
put_by number k v (e ∷ es) h j = put_by_at number k v e es (nat_cmp k e.0) refl h j (put_by number k v es h j.1)

removed_by_at : {X : Type 0} (number : X → ℕ) (test : ℕ → Bool) (e : ℕ × X) (es : List (ℕ × X)) (b : Bool) → test e.0 ≡ b → AreBy number (e ∷ es) → AreBy number (remove_entry test es) → AreBy number (remove_entry test (e ∷ es))
removed_by_at number test e es true is j rest = rw is j.1
removed_by_at number test e es false is j rest = rw is (j.0, rest)

pub removed_by : {X : Type 0} (number : X → ℕ) (test : ℕ → Bool) (es : List (ℕ × X)) → AreBy number es → AreBy number (remove_entry test es)
removed_by number test [] j = tt
removed_by number test (e ∷ es) j = removed_by_at number test e es (test e.0) refl j (removed_by number test es j.1)

-- a reference in its place by flight
put_value_at : (r : Recorded) (e : ℕ × Recorded) (es : List (ℕ × Recorded)) (o : Ordering) → nat_cmp r.reference.flight e.0 ≡ o → e.0 ≡ e.1.reference.flight → values_of (insert_entry nat_cmp es r.reference.flight r) ≡ put_recorded r (values_of es)
    → values_of (insert_entry nat_cmp (e ∷ es) r.reference.flight r) ≡ put_recorded r (values_of (e ∷ es))
put_value_at r e es Less o h rest =
    let below : nat_lt r.reference.flight e.1.reference.flight ≡ true = grind (arith, nat_tests) in rw (o, below) refl
put_value_at r e es Equal o h rest =
    let not_below : nat_lt r.reference.flight e.1.reference.flight ≡ false = grind (arith, nat_tests) in
    let here : (r.reference.flight == e.1.reference.flight) ≡ true = grind (arith, nat_tests) in rw (o, not_below, here) refl
put_value_at r e es Greater o h rest =
    let not_below : nat_lt r.reference.flight e.1.reference.flight ≡ false = grind (arith, nat_tests) in
    let other : (r.reference.flight == e.1.reference.flight) ≡ false = grind (arith, nat_tests) in rw (o, not_below, other) (ap (λ xs. e.1 ∷ xs) rest)

pub put_value : (r : Recorded) (es : List (ℕ × Recorded)) → AreBy flight_recorded es → values_of (insert_entry nat_cmp es r.reference.flight r) ≡ put_recorded r (values_of es)
put_value r [] j = refl
put_value r (e ∷ es) j = put_value_at r e es (nat_cmp r.reference.flight e.0) refl j.0 (put_value r es j.1)

-- a new ticket in its place by identifier
pub found_later : {X : Type 0} (p : X → Bool) (x : X) (xs : List X) (b : Bool) → p x ≡ b → find p (x ∷ xs) ≡ None → (b ≡ false) × (find p xs ≡ None)
found_later p x xs true is none = absurd (let no : Some x ≡ None = rw is at none in cc)
found_later p x xs false is none = (refl, rw is at none)

put_new_at : (t : Ticket) (e : ℕ × Ticket) (es : List (ℕ × Ticket)) (o : Ordering) → nat_cmp t.id e.0 ≡ o → e.0 ≡ e.1.id → (e.1.id == t.id) ≡ false → values_of (insert_entry nat_cmp es t.id t) ≡ put_ticket t (values_of es)
    → values_of (insert_entry nat_cmp (e ∷ es) t.id t) ≡ put_ticket t (values_of (e ∷ es))
put_new_at t e es Less o h other rest = let below : nat_lt t.id e.1.id ≡ true = grind (arith, nat_tests) in rw (o, below) refl
put_new_at t e es Equal o h other rest = absurd (grind (arith, nat_tests))
put_new_at t e es Greater o h other rest =
    let not_below : nat_lt t.id e.1.id ≡ false = grind (arith, nat_tests) in rw (o, not_below) (ap (λ xs. e.1 ∷ xs) rest)

pub put_new : (t : Ticket) (es : List (ℕ × Ticket)) → AreBy id_of es → find (λ x. x.id == t.id) (values_of es) ≡ None → values_of (insert_entry nat_cmp es t.id t) ≡ put_ticket t (values_of es)
put_new t [] j none = refl
put_new t (e ∷ es) j none =
    let here = found_later (λ x. x.id == t.id) e.1 (values_of es) (e.1.id == t.id) refl none in
    put_new_at t e es (nat_cmp t.id e.0) refl j.0 here.0 (put_new t es j.1 here.1)

-- what is left without the value of a number
none_above_at : {X : Type 0} (number : X → ℕ) (n k : ℕ) (x : X) (xs : List X) → k ≡ n → n < number x → filter (λ y. not (number y == k)) xs ≡ xs → filter (λ y. not (number y == k)) (x ∷ xs) ≡ x ∷ xs
none_above_at number n k x xs h less rest = let other : (number x == k) ≡ false = grind (arith, nat_tests) in rw other (ap (λ ys. x ∷ ys) rest)

pub none_above : {X : Type 0} (number : X → ℕ) (n k : ℕ) (xs : List X) → k ≡ n → AllAbove number n xs → filter (λ x. not (number x == k)) xs ≡ xs
none_above number n k [] h above = refl
none_above number n k (x ∷ xs) h above = none_above_at number n k x xs h above.0 (none_above number n k xs h above.1)

removed_value_at : {X : Type 0} (number : X → ℕ) (k : ℕ) (e : ℕ × X) (es : List (ℕ × X)) (b : Bool) → is_at (nat_cmp k) e.0 ≡ b → e.0 ≡ number e.1 → Ascend number (values_of (e ∷ es))
    → values_of (remove_entry (is_at (nat_cmp k)) es) ≡ filter (λ x. not (number x == k)) (values_of es)
    → values_of (remove_entry (is_at (nat_cmp k)) (e ∷ es)) ≡ filter (λ x. not (number x == k)) (values_of (e ∷ es))
removed_value_at number k e es true is h up rest =
    let here : (number e.1 == k) ≡ true = grind (arith, nat_tests) in
    let same : k ≡ number e.1 = grind (arith, nat_tests) in
    rw (is, here) (sym (none_above number (number e.1) k (values_of es) same up.0))
removed_value_at number k e es false is h up rest =
    let other : (number e.1 == k) ≡ false = grind (arith, nat_tests) in rw (is, other) (ap (λ xs. e.1 ∷ xs) rest)

pub removed_value : {X : Type 0} (number : X → ℕ) (k : ℕ) (es : List (ℕ × X)) → AreBy number es → Ascend number (values_of es)
    → values_of (remove_entry (is_at (nat_cmp k)) es) ≡ filter (λ x. not (number x == k)) (values_of es)
removed_value number k [] j up = refl
removed_value number k (e ∷ es) j up = removed_value_at number k e es (is_at (nat_cmp k) e.0) refl j.0 up (removed_value number k es j.1 up.1)

-- a ticket with another index
indexed_at : (k n : ℕ) (t : Ticket) (e : ℕ × Ticket) (es : List (ℕ × Ticket)) (b : Bool) → is_at (nat_cmp k) e.0 ≡ b → e.0 ≡ e.1.id → lookup (is_at (nat_cmp k)) (e ∷ es) ≡ Some t
    → (lookup (is_at (nat_cmp k)) es ≡ Some t → values_of (set_value (is_at (nat_cmp k)) es (record t { index = n })) ≡ with_index k n (values_of es))
    → values_of (set_value (is_at (nat_cmp k)) (e ∷ es) (record t { index = n })) ≡ with_index k n (values_of (e ∷ es))
indexed_at k n t e es true is h at rest =
    let here : (e.1.id == k) ≡ true = grind (arith, nat_tests) in
    let first : Some e.1 ≡ Some t = rw is at at in
    let same : e.1 ≡ t = cc in
    rw (is, here) (ap (λ (u : Ticket). record u { index = n } ∷ values_of es) (sym same))
indexed_at k n t e es false is h at rest =
    let other : (e.1.id == k) ≡ false = grind (arith, nat_tests) in rw (is, other) (ap (λ xs. e.1 ∷ xs) (rest (rw is at at)))

pub indexed : (k n : ℕ) (t : Ticket) (es : List (ℕ × Ticket)) → AreBy id_of es → lookup (is_at (nat_cmp k)) es ≡ Some t
    → values_of (set_value (is_at (nat_cmp k)) es (record t { index = n })) ≡ with_index k n (values_of es)
indexed k n t [] j at = refl
indexed k n t (e ∷ es) j at = indexed_at k n t e es (is_at (nat_cmp k) e.0) refl j.0 at (indexed k n t es j.1)

indexed_by_at : (k : ℕ) (t : Ticket) (e : ℕ × Ticket) (es : List (ℕ × Ticket)) (b : Bool) → is_at (nat_cmp k) e.0 ≡ b → t.id ≡ k → AreBy id_of (e ∷ es) → AreBy id_of (set_value (is_at (nat_cmp k)) es t) → AreBy id_of (set_value (is_at (nat_cmp k)) (e ∷ es) t)
indexed_by_at k t e es true is h j rest = let same : e.0 ≡ t.id = grind (arith, nat_tests) in rw is (same, j.1)
indexed_by_at k t e es false is h j rest = rw is (j.0, rest)

pub indexed_by : (k : ℕ) (t : Ticket) (es : List (ℕ × Ticket)) → t.id ≡ k → AreBy id_of es → AreBy id_of (set_value (is_at (nat_cmp k)) es t)
indexed_by k t [] h j = tt
indexed_by k t (e ∷ es) h j = indexed_by_at k t e es (is_at (nat_cmp k) e.0) refl h j (indexed_by k t es h j.1)

-- without such a ticket none gets another index
not_indexed_at : (k n : ℕ) (e : ℕ × Ticket) (es : List (ℕ × Ticket)) (b : Bool) → is_at (nat_cmp k) e.0 ≡ b → e.0 ≡ e.1.id → lookup (is_at (nat_cmp k)) (e ∷ es) ≡ None
    → (lookup (is_at (nat_cmp k)) es ≡ None → values_of es ≡ with_index k n (values_of es)) → values_of (e ∷ es) ≡ with_index k n (values_of (e ∷ es))
not_indexed_at k n e es true is h at rest = absurd (let no : Some e.1 ≡ None = rw is at at in cc)
not_indexed_at k n e es false is h at rest =
    let other : (e.1.id == k) ≡ false = grind (arith, nat_tests) in rw other (ap (λ xs. e.1 ∷ xs) (rest (rw is at at)))

pub not_indexed : (k n : ℕ) (es : List (ℕ × Ticket)) → AreBy id_of es → lookup (is_at (nat_cmp k)) es ≡ None → values_of es ≡ with_index k n (values_of es)
not_indexed k n [] j at = refl
not_indexed k n (e ∷ es) j at = not_indexed_at k n e es (is_at (nat_cmp k) e.0) refl j.0 at (not_indexed k n es j.1)
