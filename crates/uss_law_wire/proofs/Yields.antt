-- What a part of a message gives has a property, whatever the message: one lemma for each word in which readers are written.
use Rattle.std.proofs.Common.{◌≡◌, ℕ, suc, ◌+◌, ◌<◌, ◌≤◌, Bool, true, false, List, ◌∷◌, length, Some, None, Ok, Err, Result, refl, arith}
use Rattle.std.specs.Prelude.{Option, nat_lt, nat_le, if◌then◌else◌}
use Rattle.std.proofs.lemmas.Bool.Decides.{nat_tests}
use Rattle.serde_json.specs.Data.{Data, Items, no_items, item}
use Rattle.serde_json.specs.Find.{get}
use Rattle.uss_wire_base.specs.Names.{name}
use Rattle.uss_wire_base.specs.declared.refusal.Member.{Member}
use Rattle.uss_wire_base.specs.declared.refusal.WireRefusal.{WireRefusal}
use Rattle.uss_wire_base.specs.declared.refusal.WireRefusal.TheVariants.{WrongKind, TooMany}
use Rattle.uss_wire_base.specs.Reading.{◌>>=◌, Reader, some_or, member_of, field, read_some, optional, read_or, field_or, natural_at, natural_below, items_length, items_at, few_items_at, each, list_at, few_at, only_item, one_at}
use Rattle.uss_wire_base.specs.Writing.{AllOf}

-- the value, if one is given, has the property
abbrev pub Yields : {A E : Type 0} → (A → Type 0) → Result A E → Type 0
Yields P (Ok x) = P x
Yields P (Err e) = Unit {0}

pub given : {A E : Type 0} (P : A → Type 0) (r : Result A E) (x : A) → Yields P r → r ≡ Ok x → P x
given P r x h is = rw is at h

pub weaken : {A E : Type 0} (P Q : A → Type 0) (r : Result A E) → Yields P r → ((x : A) → P x → Q x) → Yields Q r
weaken P Q (Ok x) h k = k x h
weaken P Q (Err e) h k = tt

pub after : {A B E : Type 0} (P : A → Type 0) (Q : B → Type 0) (r : Result A E) (f : A → Result B E) → Yields P r → ((x : A) → P x → Yields Q (f x)) → Yields Q (r >>= f)
after P Q (Ok x) f h next = next x h
after P Q (Err e) f h next = tt

-- where nothing is asked of the first value
pub behind : {A B E : Type 0} (Q : B → Type 0) (r : Result A E) (f : A → Result B E) → ((x : A) → Yields Q (f x)) → Yields Q (r >>= f)
behind Q (Ok x) f next = next x
behind Q (Err e) f next = tt

pub tested : {A E : Type 0} (P : A → Type 0) (b : Bool) (x : A) (e : E) → (b ≡ true → P x) → Yields P (if b then Ok x else Err e)
tested P true x e h = h refl
tested P false x e h = tt

pub found : {A : Type 0} (P : A → Type 0) (e : WireRefusal) (o : Option A) → ((x : A) → o ≡ Some x → P x) → Yields P (some_or e o)
found P e (Some x) h = h x refl
found P e None h = tt

pub in_field : {A : Type 0} (P : A → Type 0) (m : Member) (read : Reader A) → ((d : Data) → Yields P (read m d)) → (d : Data) → Yields P (field m read d)
in_field P m read h d = behind P (member_of m d) (read m) h

abbrev pub IfAny : {A : Type 0} → (A → Type 0) → Option A → Type 0
IfAny P None = Unit {0}
IfAny P (Some x) = P x

some_read : {A : Type 0} (P : A → Type 0) (f : Data → Result A WireRefusal) → ((d : Data) → Yields P (f d)) → (o : Option Data) → Yields (IfAny P) (read_some f o)
some_read P f h None = tt
some_read P f h (Some d) = after P (IfAny P) (f d) (λ x. Ok (Some x)) (h d) (λ x px. px)

pub in_optional : {A : Type 0} (P : A → Type 0) (m : Member) (read : Reader A) → ((d : Data) → Yields P (read m d)) → (d : Data) → Yields (IfAny P) (optional m read d)
in_optional P m read h d = some_read P (read m) h (get (name m) d)

or_read : {A : Type 0} (P : A → Type 0) (x : A) (f : Data → Result A WireRefusal) → P x → ((d : Data) → Yields P (f d)) → (o : Option Data) → Yields P (read_or x f o)
or_read P x f px h None = px
or_read P x f px h (Some d) = h d

pub in_field_or : {A : Type 0} (P : A → Type 0) (x : A) (m : Member) (read : Reader A) → P x → ((d : Data) → Yields P (read m d)) → (d : Data) → Yields P (field_or x m read d)
in_field_or P x m read px h d = or_read P x (read m) px h (get (name m) d)

-- ---- numbers
below : (m n : ℕ) → nat_lt m n ≡ true → m < n
below m n h = grind (arith, nat_tests)

at_most : (m n : ℕ) → nat_le m n ≡ true → m ≤ n
at_most m n h = grind (arith, nat_tests)

abbrev pub IsBelow : ℕ → ℕ → Type 0
IsBelow limit n = n < limit

pub natural_small : (limit : ℕ) (m : Member) (d : Data) → Yields (IsBelow limit) (natural_below limit m d)
natural_small limit m d =
    behind (IsBelow limit) (natural_at m d) (λ n. if nat_lt n limit then Ok n else Err (WrongKind m)) (λ n. tested (IsBelow limit) (nat_lt n limit) n (WrongKind m) (below n limit))

-- ---- lists
abbrev pub AllWith : {A : Type 0} → (A → Type 0) → ℕ → List A → Type 0
AllWith P n xs = AllOf P xs × (length xs ≡ n)

longer : (m n : ℕ) → m ≡ n → suc m ≡ n + 1
longer m n h = omega arith

each_given : {A : Type 0} (P : A → Type 0) (f : Data → Result A WireRefusal) → ((d : Data) → Yields P (f d)) → (ds : Items) → Yields (AllWith P (items_length ds)) (each f ds)
each_given P f h no_items = (tt, refl)
each_given {A} P f h (item d ds) =
    after P (AllWith P (items_length ds + 1)) (f d) (λ x. each f ds >>= λ xs. Ok (x ∷ xs)) (h d)
    (λ (x : A) px. after (AllWith P (items_length ds)) (AllWith P (items_length ds + 1)) (each f ds) (λ (xs : List A). Ok (x ∷ xs)) (each_given P f h ds)
    (λ (xs : List A) pxs. ((px, pxs.0), longer (length xs) (items_length ds) pxs.1)))

pub in_list : {A : Type 0} (P : A → Type 0) (m : Member) (read : Reader A) → ((d : Data) → Yields P (read m d)) → (d : Data) → Yields (AllOf P) (list_at read m d)
in_list {A} P m read h d =
    behind (AllOf P) (items_at m d) (each (read m)) (λ ds. weaken (AllWith P (items_length ds)) (AllOf P) (each (read m) ds) (each_given P (read m) h ds) (λ (xs : List A) all. all.0))

abbrev IsFew : ℕ → Items → Type 0
IsFew limit ds = items_length ds ≤ limit

few_given : (limit : ℕ) (m : Member) (d : Data) → Yields (IsFew limit) (few_items_at limit m d)
few_given limit m d =
    behind (IsFew limit) (items_at m d) (λ ds. if nat_le (items_length ds) limit then Ok ds else Err (TooMany m))
    (λ ds. tested (IsFew limit) (nat_le (items_length ds) limit) ds (TooMany m) (at_most (items_length ds) limit))

abbrev pub FewOf : {A : Type 0} → (A → Type 0) → ℕ → List A → Type 0
FewOf P limit xs = AllOf P xs × (length xs ≤ limit)

no_longer : (m n limit : ℕ) → m ≡ n → n ≤ limit → m ≤ limit
no_longer m n limit same h = omega arith

pub in_few : {A : Type 0} (P : A → Type 0) (limit : ℕ) (m : Member) (read : Reader A) → ((d : Data) → Yields P (read m d)) → (d : Data) → Yields (FewOf P limit) (few_at limit read m d)
in_few {A} P limit m read h d =
    after (IsFew limit) (FewOf P limit) (few_items_at limit m d) (each (read m)) (few_given limit m d)
    (λ ds few. weaken (AllWith P (items_length ds)) (FewOf P limit) (each (read m) ds) (each_given P (read m) h ds) (λ (xs : List A) all. (all.0, no_longer (length xs) (items_length ds) limit all.1 few)))

pub in_one : {A : Type 0} (P : A → Type 0) (m : Member) (read : Reader A) → ((d : Data) → Yields P (read m d)) → (d : Data) → Yields P (one_at read m d)
in_one P m read h d = behind P (items_at m d) (λ ds. only_item m ds >>= read m) (λ ds. behind P (only_item m ds) (read m) h)
