-- Lists of values, one item after another.
use Rattle.std.proofs.Common.{◌≡◌, ℕ, suc, append-nil, ◌+◌, ◌<◌, ◌≤◌, true, false, cond, List, [], ◌∷◌, ◌++◌, length, get_or, drop, None, Ok, Err, sym, refl, ap, ◌∙◌, append_assoc, arith, add-one, drop-cons, ⊎_elim}
use Rattle.std.specs.Prelude.{Option, Result, nat_le, if◌then◌else◌}
use Rattle.std.proofs.lemmas.Bool.Decides.{nat_tests}
use Rattle.std.specs.Str.{is_utf8, IsUtf8}
use Rattle.std.proofs.lemmas.Bool.{cond-true, cond-false, cases_Bool}
use Rattle.std.proofs.lemmas.Str.{IsUtf8-from_is_utf8}
use Rattle.std.proofs.lemmas.List.{drop_all}
use Rattle.serde_json.specs.Data.{Data, Items}
use Rattle.serde_json.specs.declared.value.Value.{Value}
use Rattle.serde_json.specs.View.{view, items_view}
use Rattle.uss_wire_base.specs.declared.refusal.WireRefusal.{WireRefusal}
use Rattle.uss_wire_base.specs.declared.refusal.Member.{Member}
use Rattle.uss_wire_base.specs.declared.refusal.WireRefusal.TheVariants.{WrongKind, TooMany}
use Rattle.uss_wire_base.specs.Reading.{◌>>=◌, each, items_length, only_item}

-- the items before, and those read
abbrev pub with_front : {A : Type 0} → List A → Result (List A) WireRefusal → Result (List A) WireRefusal
with_front front read = read >>= λ xs. Ok (front ++ xs)

pub front_nil : {A : Type 0} (read : Result (List A) WireRefusal) → with_front [] read ≡ read
front_nil (Ok xs) = refl
front_nil (Err e) = refl

front_more : {A : Type 0} (front : List A) (x : A) (read : Result (List A) WireRefusal) → with_front front (read >>= λ xs. Ok (x ∷ xs)) ≡ with_front (front ++ x ∷ []) read
front_more front x (Ok xs) = ap Ok (sym (append_assoc front (x ∷ []) xs))
front_more front x (Err e) = refl

-- one more item was read
pub item_read : {A : Type 0} (f : Data → Result A WireRefusal) (front : List A) (vs : List Value) (i : ℕ) (v : Value) (x : A) → i < length vs → v ≡ get_or vs i v → f (view v) ≡ Ok x → with_front front (each f (items_view (drop i vs))) ≡ with_front (front ++ x ∷ []) (each f (items_view (drop (i + 1) vs)))
item_read f front vs i v x inside is read =
    rw (add-one, drop-cons vs i v inside, ← is) (ap (λ r. with_front front (r >>= λ y. each f (items_view (drop (suc i) vs)) >>= λ ys. Ok (y ∷ ys))) read ∙ front_more front x (each f (items_view (drop (suc i) vs))))

-- an item was refused
pub item_refused : {A : Type 0} (f : Data → Result A WireRefusal) (front : List A) (vs : List Value) (i : ℕ) (v : Value) (e : WireRefusal) → i < length vs → v ≡ get_or vs i v → f (view v) ≡ Err e → with_front front (each f (items_view (drop i vs))) ≡ Err e
item_refused f front vs i v e inside is read =
    rw (drop-cons vs i v inside, ← is) (ap (λ r. with_front front (r >>= λ y. each f (items_view (drop (suc i) vs)) >>= λ ys. Ok (y ∷ ys))) read)

pub items_end : {A : Type 0} (f : Data → Result A WireRefusal) (front : List A) (vs : List Value) (i : ℕ) → length vs ≤ i → with_front front (each f (items_view (drop i vs))) ≡ Ok front
items_end f front vs i past = rw (drop_all i vs past) (ap Ok (append-nil front))

pub not_read : (bytes : List ℕ) (o : Option Data) → (IsUtf8 bytes → o ≡ None) → cond (is_utf8 bytes) o None ≡ None
not_read bytes o none =
    ⊎_elim (λ t. cond-true _ o None t ∙ none (IsUtf8-from_is_utf8 bytes t)) (λ f. cond-false _ o None f) (cases_Bool (is_utf8 bytes))

le_true : (m n : ℕ) → m ≤ n → nat_le m n ≡ true
le_true m n h = grind (arith, nat_tests)

le_false : (m n : ℕ) → n < m → nat_le m n ≡ false
le_false m n h = grind (arith, nat_tests)

-- how many items a list of values has
pub items_length-view : (vs : List Value) → items_length (items_view vs) ≡ length vs
items_length-view [] = refl
items_length-view (v ∷ vs) = ap (λ n. n + 1) (items_length-view vs) ∙ omega arith

pub no_item : (m : Member) (vs : List Value) → length vs ≡ 0 → only_item m (items_view vs) ≡ Err (WrongKind m)
no_item m [] h = refl
no_item m (v ∷ vs) h = absurd (omega arith)

pub many_items : (m : Member) (vs : List Value) → 1 < length vs → only_item m (items_view vs) ≡ Err (TooMany m)
many_items m [] h = absurd (omega arith)
many_items m (v ∷ []) h = absurd (omega arith)
many_items m (v ∷ w ∷ vs) h = refl

pub few_taken : (limit : ℕ) (m : Member) (r : Result Items WireRefusal) (vs : List Value) → r ≡ Ok (items_view vs) → length vs ≤ limit → (r >>= λ ds. if nat_le (items_length ds) limit then Ok ds else Err (TooMany m)) ≡ Ok (items_view vs)
few_taken limit m r vs is few =
    ap (λ (given : Result Items WireRefusal). given >>= λ ds. if nat_le (items_length ds) limit then Ok ds else Err (TooMany m)) is
    ∙ cond-true (nat_le (items_length (items_view vs)) limit) (Ok (items_view vs)) (Err (TooMany m)) (ap (λ n. nat_le n limit) (items_length-view vs) ∙ le_true (length vs) limit few)

pub many_refused : (limit : ℕ) (m : Member) (r : Result Items WireRefusal) (vs : List Value) → r ≡ Ok (items_view vs) → limit < length vs → (r >>= λ ds. if nat_le (items_length ds) limit then Ok ds else Err (TooMany m)) ≡ Err (TooMany m)
many_refused limit m r vs is many =
    ap (λ (given : Result Items WireRefusal). given >>= λ ds. if nat_le (items_length ds) limit then Ok ds else Err (TooMany m)) is
    ∙ cond-false (nat_le (items_length (items_view vs)) limit) (Ok (items_view vs)) (Err (TooMany m)) (ap (λ n. nat_le n limit) (items_length-view vs) ∙ le_false (length vs) limit many)
