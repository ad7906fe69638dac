-- How a value of JSON is read: its value, or the first refusal in the order in which it is read. This project's own.
use Rattle.std.specs.Prelude.{◌≡◌, ◌≢◌, ℕ, ◌+◌, ℤ, List, [], ◌∷◌, nat_lt, nat_le, false, unwrap_or, Option, Some, None, is_some, option_map, option_and_then, bytes_eq, Result, Ok, Err, if◌then◌else◌}
use Rattle.std.specs.Option.{option_eq}
use Rattle.std.specs.Str.{is_utf8}
use Rattle.serde_json.specs.Data.{Data, Items, no_items, item}
use Rattle.serde_json.specs.Read.{read as read_text}
use Rattle.serde_json.specs.Find.{get, as_number, as_i64, as_u64, as_bool, as_str, as_array, as_object}
use Rattle.uss_wire_base.specs.declared.refusal.Member.{Member}
use Rattle.uss_wire_base.specs.declared.refusal.Member.TheVariants.{Whole}
use Rattle.uss_wire_base.specs.declared.refusal.WireRefusal.{WireRefusal}
use Rattle.uss_wire_base.specs.declared.refusal.WireRefusal.TheVariants.{BadJson, Missing, WrongKind, NotThisProfile, TooMany, Memory}
use Rattle.uss_wire_base.specs.Names.{name}

infixl 10 ◌>>=◌
abbrev pub ◌>>=◌ : {A B E : Type 0} → Result A E → (A → Result B E) → Result B E
(Ok x) >>= f = f x
(Err e) >>= f = Err e

-- What a function returned, seen by view, is what reading gives, unless memory was wanting.
abbrev pub GivesBy : {X Y : Type 0} → (X → Y) → Result X WireRefusal → Result Y WireRefusal → Type 0
GivesBy view (Ok x) given = given ≡ Ok (view x)
GivesBy view (Err e) given = e ≢ Memory → given ≡ Err e

abbrev pub Gives : {X : Type 0} → Result X WireRefusal → Result X WireRefusal → Type 0
Gives answer given = GivesBy (λ x. x) answer given

-- a reader of the value of a member, or of an item of its list
abbrev pub Reader : Type 0 → Type 0
Reader A = Member → Data → Result A WireRefusal

abbrev pub some_or : {A : Type 0} → WireRefusal → Option A → Result A WireRefusal
some_or e (Some x) = Ok x
some_or e None = Err e

-- ---- members of an object

-- a value that isn't an object is of the wrong kind
abbrev pub object_at : Reader (Unit {0})
object_at place d = some_or (WrongKind place) (option_map (λ _. tt) (as_object d))

-- the profile refuses the member
abbrev pub without : Member → Data → Result (Unit {0}) WireRefusal
without m d = if is_some (get (name m) d) then Err (NotThisProfile m) else Ok tt

-- the profile refuses the member where it is true
abbrev pub without_true : Member → Data → Result (Unit {0}) WireRefusal
without_true m d = if unwrap_or (option_and_then as_bool (get (name m) d)) false then Err (NotThisProfile m) else Ok tt

-- the value of a member, which must be there
abbrev pub member_of : Member → Data → Result Data WireRefusal
member_of m d = some_or (Missing m) (get (name m) d)

-- a member that must be there
abbrev pub field : {A : Type 0} → Member → Reader A → Data → Result A WireRefusal
field m read d = member_of m d >>= read m

abbrev pub read_some : {A : Type 0} → (Data → Result A WireRefusal) → Option Data → Result (Option A) WireRefusal
read_some f None = Ok None
read_some f (Some d) = f d >>= λ x. Ok (Some x)

-- a member that may be absent
abbrev pub optional : {A : Type 0} → Member → Reader A → Data → Result (Option A) WireRefusal
optional m read d = read_some (read m) (get (name m) d)

abbrev pub read_or : {A : Type 0} → A → (Data → Result A WireRefusal) → Option Data → Result A WireRefusal
read_or x f None = Ok x
read_or x f (Some d) = f d

-- a member that may be absent, and what its absence stands for
abbrev pub field_or : {A : Type 0} → A → Member → Reader A → Data → Result A WireRefusal
field_or x m read d = read_or x (read m) (get (name m) d)

-- ---- numbers and texts

-- a whole number of 64 bits, signed; a fraction isn't rounded
abbrev pub integer_at : Reader ℤ
integer_at m d = some_or (WrongKind m) (option_and_then as_i64 (as_number d))

-- a whole number of 64 bits from 0 on
abbrev pub natural_at : Reader ℕ
natural_at m d = some_or (WrongKind m) (option_and_then as_u64 (as_number d))

-- a whole number from 0 on below the limit
abbrev pub natural_below : ℕ → Reader ℕ
natural_below limit m d = natural_at m d >>= λ n. if nat_lt n limit then Ok n else Err (WrongKind m)

abbrev pub text_at : Reader (List ℕ)
text_at m d = some_or (WrongKind m) (as_str d)

-- this text and no other
abbrev pub word_at : List ℕ → Reader (Unit {0})
word_at text m d = if option_eq bytes_eq (as_str d) (Some text) then Ok tt else Err (WrongKind m)

-- ---- lists

-- how many items there are
abbrev pub items_length : Items → ℕ
items_length no_items = 0
items_length (item d ds) = items_length ds + 1

abbrev pub items_at : Reader Items
items_at m d = some_or (WrongKind m) (as_array d)

-- a list that isn't longer than the limit, which is looked at before its items
abbrev pub few_items_at : ℕ → Reader Items
few_items_at limit m d = items_at m d >>= λ ds. if nat_le (items_length ds) limit then Ok ds else Err (TooMany m)

-- each item, up to the first that is refused
abbrev pub each : {A : Type 0} → (Data → Result A WireRefusal) → Items → Result (List A) WireRefusal
each f no_items = Ok []
each f (item d ds) = f d >>= λ x. each f ds >>= λ xs. Ok (x ∷ xs)

-- a list: an item of the wrong kind names the list
abbrev pub list_at : {A : Type 0} → Reader A → Reader (List A)
list_at read m d = items_at m d >>= each (read m)

abbrev pub few_at : {A : Type 0} → ℕ → Reader A → Reader (List A)
few_at limit read m d = few_items_at limit m d >>= each (read m)

-- the one item of a list
abbrev pub only_item : Member → Items → Result Data WireRefusal
only_item m no_items = Err (WrongKind m)
only_item m (item d no_items) = Ok d
only_item m (item d (item e ds)) = Err (TooMany m)

abbrev pub one_at : {A : Type 0} → Reader A → Reader A
one_at read m d = items_at m d >>= λ ds. only_item m ds >>= read m

-- ---- a message

-- the value of the text, read as a whole
abbrev pub whole_of : {A : Type 0} → Reader A → Option Data → Result A WireRefusal
whole_of read None = Err BadJson
whole_of read (Some d) = read Whole d

-- the value that the bytes stand for, where they are UTF-8 and JSON that nests at most 127 deep
abbrev pub data_of : List ℕ → Option Data
data_of bytes = if is_utf8 bytes then read_text bytes else None

abbrev pub message_of : {A : Type 0} → Reader A → List ℕ → Result A WireRefusal
message_of read bytes = whole_of read (data_of bytes)
