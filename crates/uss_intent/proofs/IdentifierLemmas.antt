-- An identifier is read from its own text, and from no other.
use Rattle.std.proofs.Common.{◌≡◌, ◌<◌, ◌^◌, ℕ, Bool, true, false, List, Option, Some, None, All, refl, sym, ap, ◌∙◌, subst, inl, arith, if◌then◌else◌, length, get_or, zero, suc, [], ◌∷◌, ◌/◌, ◌%◌, map}
use Rattle.std.specs.Prelude.{bytes_eq}
use Rattle.std.specs.Int.{to_be_bytes, from_be_bytes, w128}
use Rattle.std.specs.Str.{IsUtf8}
use Rattle.std.proofs.lemmas.Str.{IsUtf8-from_ascii}
use Rattle.std.proofs.lemmas.Slice.Eq.{bytes_eq-Decides}
use Rattle.uuid.specs.Text.{lower, parsed}
use Rattle.uuid.proofs.TextLemmas.{hyphenated_ascii}
use Rattle.uuid.proofs.RoundTrips.{parses_hyphenated}
use Rattle.uuid.proofs.OrderLemmas.{from_be_bytes-to_be_bytes_16}
use Rattle.uss_intent.specs.Identifiers.{identifier_text, identifier_from, identifier_of}

some_same : (test : Bool) (n m : ℕ) → (if test then Some n else None) ≡ Some m → (test ≡ true) × (n ≡ m)
some_same true n m h = (refl, cc)
some_same false n m h = cc

read_text : (text : List ℕ) (p : Option (List ℕ)) (n : ℕ) → identifier_from text p ≡ Some n → text ≡ identifier_text n
read_text text None n h = cc
read_text text (Some bytes) n h =
    let number = from_be_bytes w128 bytes in
    let both = some_same (bytes_eq text (identifier_text number)) number n h in
    (bytes_eq-Decides text (identifier_text number)).0 both.0 ∙ ap identifier_text both.1

pub identifier_is_text : (text : List ℕ) (n : ℕ) → identifier_of text ≡ Some n → text ≡ identifier_text n
unfolding identifier_of
identifier_is_text text n h = read_text text (parsed text) n h

small_rest : (xs : List ℕ) (k d : ℕ) → k < length (map (λ m. m % 256) xs) → get_or (map (λ m. m % 256) xs) k d < 256
small_rest [] k d h = absurd (omega arith)
small_rest (x ∷ xs) zero d h = omega arith
small_rest (x ∷ xs) (suc k) d h = small_rest xs k d (omega arith)

-- what a number is divided by for each of its bytes
parts : ℕ → List ℕ
parts n =
    n / 2 ^ 120 ∷ n / 2 ^ 112 ∷ n / 2 ^ 104 ∷ n / 2 ^ 96 ∷ n / 2 ^ 88 ∷ n / 2 ^ 80 ∷ n / 2 ^ 72 ∷ n / 2 ^ 64 ∷ n / 2 ^ 56 ∷ n / 2 ^ 48 ∷ n / 2 ^ 40 ∷ n / 2 ^ 32
    ∷ n / 2 ^ 24 ∷ n / 2 ^ 16 ∷ n / 2 ^ 8 ∷ n ∷ []

small_bytes : (n : ℕ) → All (λ b. b < 256) (to_be_bytes w128 n)
unfolding parts
small_bytes n = small_rest (parts n)

same_read : (m : ℕ) (bytes : List ℕ) (p : Option (List ℕ)) → Some bytes ≡ p → from_be_bytes w128 bytes ≡ m → identifier_from (identifier_text m) p ≡ Some m
same_read m bytes p read back =
    let number = from_be_bytes w128 bytes in
    let same : bytes_eq (identifier_text m) (identifier_text number) ≡ true = (bytes_eq-Decides (identifier_text m) (identifier_text number)).1 (ap identifier_text (sym back)) in
    ap (identifier_from (identifier_text m)) (sym read) ∙ rw same (ap Some back)

pub identifier_is_read : (n : ℕ) → n < 2 ^ 128 → identifier_of (identifier_text n) ≡ Some n
unfolding identifier_of identifier_text
identifier_is_read n fits =
    let bytes = to_be_bytes w128 n in
    let read : Some bytes ≡ parsed (identifier_text n) = parses_hyphenated lower bytes (inl refl) refl (small_bytes n) in
    same_read n bytes (parsed (identifier_text n)) read (from_be_bytes-to_be_bytes_16 n fits)

text_ascii : (n : ℕ) → IsUtf8 (identifier_text n)
unfolding identifier_text
text_ascii n = IsUtf8-from_ascii (identifier_text n) (hyphenated_ascii lower (to_be_bytes w128 n) (inl refl))

unread_from : (text : List ℕ) (p : Option (List ℕ)) → (IsUtf8 text → ⊥) → identifier_from text p ≡ None
unread_from text None bad = refl
unread_from text (Some bytes) bad = go (bytes_eq text (identifier_text (from_be_bytes w128 bytes))) refl
  where
    go : (b : Bool) → bytes_eq text (identifier_text (from_be_bytes w128 bytes)) ≡ b → (if b then Some (from_be_bytes w128 bytes) else None) ≡ None
    go true h =
        let same = (bytes_eq-Decides text (identifier_text (from_be_bytes w128 bytes))).0 h in
        absurd (bad (subst IsUtf8 (sym same) (text_ascii (from_be_bytes w128 bytes))))
    go false h = refl

-- what is no text is no identifier
pub unread : (text : List ℕ) → (IsUtf8 text → ⊥) → identifier_of text ≡ None
unfolding identifier_of
unread text bad = unread_from text (parsed text) bad

-- what the parser refuses is no identifier
pub unparsed : (text : List ℕ) → parsed text ≡ None → identifier_of text ≡ None
unfolding identifier_of
unparsed text none = ap (identifier_from text) none

-- what it takes is one where it is printed so
pub parsed_here : (text bytes : List ℕ) → parsed text ≡ Some bytes → text ≡ identifier_text (from_be_bytes w128 bytes) → identifier_of text ≡ Some (from_be_bytes w128 bytes)
unfolding identifier_of
parsed_here text bytes read same =
    let test : bytes_eq text (identifier_text (from_be_bytes w128 bytes)) ≡ true = (bytes_eq-Decides text (identifier_text (from_be_bytes w128 bytes))).1 same in
    ap (identifier_from text) read ∙ rw test refl

pub parsed_elsewhere : (text bytes : List ℕ) → parsed text ≡ Some bytes → (text ≡ identifier_text (from_be_bytes w128 bytes) → ⊥) → identifier_of text ≡ None
unfolding identifier_of
parsed_elsewhere text bytes read other = ap (identifier_from text) read ∙ go (bytes_eq text (identifier_text (from_be_bytes w128 bytes))) refl
  where
    go : (b : Bool) → bytes_eq text (identifier_text (from_be_bytes w128 bytes)) ≡ b → (if b then Some (from_be_bytes w128 bytes) else None) ≡ None
    go true h = absurd (other ((bytes_eq-Decides text (identifier_text (from_be_bytes w128 bytes))).0 h))
    go false h = refl

pub none_parsed : (p : Option (List ℕ)) → ((u : List ℕ) → p ≡ Some u → ⊥) → p ≡ None
none_parsed None no_text = refl
none_parsed (Some u) no_text = absurd (no_text u refl)
