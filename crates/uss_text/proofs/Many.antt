-- So many values, one after another.
use Rattle.std.proofs.Common.{◌≡◌, ℕ, suc, ◌-◌, ◌<◌, List, [], ◌∷◌, ◌++◌, Result, Ok, Err, refl, sym, ap, ◌∙◌, arith, append_assoc, append-nil}
use Rattle.uss_text.specs.declared.refusal.WordRefusal.{WordRefusal}
use Rattle.uss_text.specs.Reading.{◌>>=◌, Words, Read, read, Reader, many_at}

-- the values before those that are read
abbrev pub in_front : {A : Type 0} → List A → Result (Read (List A)) WordRefusal → Result (Read (List A)) WordRefusal
in_front xs (Ok r) = Ok (read (xs ++ r.value) r.rest)
in_front xs (Err e) = Err e

pub record SoFar {A : Type 0} (all given : Result (Read (List A)) WordRefusal) (xs : List A) : Type 0 where
  pub is : all ≡ in_front xs given

none_in_front : {A : Type 0} (all : Result (Read (List A)) WordRefusal) → all ≡ in_front [] all
none_in_front (Ok r) = refl
none_in_front (Err e) = refl

pub none_so_far : {A : Type 0} (all : Result (Read (List A)) WordRefusal) (xs : List A) → xs ≡ [] → SoFar all all xs
none_so_far all xs none = rw none (record { is = none_in_front all })

pub front_more : {A : Type 0} (xs : List A) (x : A) (given : Result (Read (List A)) WordRefusal) → in_front xs (given >>= λ others. Ok (read (x ∷ others.value) others.rest)) ≡ in_front (xs ++ x ∷ []) given
front_more {A} xs x (Ok r) = ap (λ (all : List A). Ok (read all r.rest)) (sym (append_assoc xs (x ∷ []) r.value))
front_more xs x (Err e) = refl

at_suc : (left n : ℕ) → left ≡ suc n → {A : Type 0} (reader : Reader A) (words : Words) → many_at reader left words ≡ many_at reader (suc n) words
at_suc left n e reader words = ap (λ (k : ℕ). many_at reader k words) e

-- one more value
step : {A : Type 0} (reader : Reader A) (n : ℕ) (words rest : Words) (x : A) (xs : List A) → reader words ≡ Ok (read x rest) → in_front xs (many_at reader (suc n) words) ≡ in_front (xs ++ x ∷ []) (many_at reader n rest)
unfolding many_at
step {A} reader n words rest x xs first = ap (λ (given : Result (Read A) WordRefusal). in_front xs (given >>= λ (found : Read A). (many_at reader n found.rest >>= λ (others : Read (List A)). Ok (read (found.value ∷ others.value) others.rest)))) first ∙ front_more xs x (many_at reader n rest)

-- a value that is refused
stop : {A : Type 0} (reader : Reader A) (n : ℕ) (words : Words) (e : WordRefusal) (xs : List A) → reader words ≡ Err e → in_front xs (many_at reader (suc n) words) ≡ Err e
unfolding many_at
stop {A} reader n words e xs first = ap (λ (given : Result (Read A) WordRefusal). in_front xs (given >>= λ (found : Read A). (many_at reader n found.rest >>= λ (others : Read (List A)). Ok (read (found.value ∷ others.value) others.rest)))) first

none_left : {A : Type 0} (reader : Reader A) (words : Words) (xs : List A) → in_front xs (many_at reader 0 words) ≡ Ok (read xs words)
unfolding many_at
none_left {A} reader words xs = ap (λ (all : List A). Ok (read all words)) (append-nil xs)

pub step_from : {A : Type 0} (reader : Reader A) (left : ℕ) (words rest : Words) (x : A) (xs : List A) → 0 < left → reader words ≡ Ok (read x rest) → in_front xs (many_at reader left words) ≡ in_front (xs ++ x ∷ []) (many_at reader (left - 1) rest)
step_from reader left words rest x xs some first = ap (in_front xs) (at_suc left (left - 1) (omega arith) reader words) ∙ step reader (left - 1) words rest x xs first

pub stop_from : {A : Type 0} (reader : Reader A) (left : ℕ) (words : Words) (e : WordRefusal) (xs : List A) → 0 < left → reader words ≡ Err e → in_front xs (many_at reader left words) ≡ Err e
stop_from reader left words e xs some first = ap (in_front xs) (at_suc left (left - 1) (omega arith) reader words) ∙ stop reader (left - 1) words e xs first

pub end_from : {A : Type 0} (reader : Reader A) (left : ℕ) (words : Words) (xs : List A) → left ≡ 0 → in_front xs (many_at reader left words) ≡ Ok (read xs words)
end_from reader left words xs none = ap (λ (k : ℕ). in_front xs (many_at reader k words)) none ∙ none_left reader words xs

pub go_on : {A : Type 0} (all : Result (Read (List A)) WordRefusal) (reader : Reader A) (left : ℕ) (words rest : Words) (x : A) (xs more : List A) → 0 < left → SoFar all (many_at reader left words) xs → reader words ≡ Ok (read x rest) → more ≡ xs ++ x ∷ [] → SoFar all (many_at reader (left - 1) rest) more
go_on all reader left words rest x xs more some so_far first is = rw is (record { is = so_far.is ∙ step_from reader left words rest x xs some first })

pub stop_at : {A : Type 0} (all : Result (Read (List A)) WordRefusal) (reader : Reader A) (left : ℕ) (words : Words) (e : WordRefusal) (xs : List A) → 0 < left → SoFar all (many_at reader left words) xs → reader words ≡ Err e → all ≡ Err e
stop_at all reader left words e xs some so_far first = so_far.is ∙ stop_from reader left words e xs some first

pub end_with : {A : Type 0} (all : Result (Read (List A)) WordRefusal) (reader : Reader A) (left : ℕ) (words : Words) (xs : List A) → left ≡ 0 → SoFar all (many_at reader left words) xs → all ≡ Ok (read xs words)
end_with all reader left words xs none so_far = so_far.is ∙ end_from reader left words xs none
