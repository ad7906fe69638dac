-- What the lines of a script say, line by line.
use Rattle.std.proofs.Common.{◌≡◌, ℕ, ◌+◌, ◌<◌, ◌≤◌, List, [], ◌∷◌, ◌++◌, length, Result, Ok, Err, refl, sym, ap, ◌∙◌, append_assoc, append-nil}
use Rattle.uss_text.specs.declared.refusal.WordRefusal.{WordRefusal}
use Rattle.uss_text.specs.declared.refusal.ScriptRefusal.{ScriptRefusal}
use Rattle.uss_text.specs.declared.refusal.ScriptRefusal.TheVariants.{TextTooLarge}
use Rattle.uss_text.specs.Lines.{most_bytes, lines_of}
use Rattle.uss_text.specs.Refusals.{at_line, refusal_at}
use Rattle.uss_text.specs.Reading.{◌>>=◌, each_behind}
use Rattle.uss_text.specs.Discover.{discover_line, discover_script}
use Rattle.uss_text.proofs.Made.{lt_true, lt_false}

-- the values before those that are read
abbrev pub in_front : {A : Type 0} → List A → Result (List A) ScriptRefusal → Result (List A) ScriptRefusal
in_front xs (Ok others) = Ok (xs ++ others)
in_front xs (Err e) = Err e

pub record SoFar {A : Type 0} (all given : Result (List A) ScriptRefusal) (xs : List A) : Type 0 where
  pub is : all ≡ in_front xs given

none_in_front : {A : Type 0} (all : Result (List A) ScriptRefusal) → all ≡ in_front [] all
none_in_front (Ok r) = refl
none_in_front (Err e) = refl

pub none_so_far : {A : Type 0} (all : Result (List A) ScriptRefusal) (xs : List A) → xs ≡ [] → SoFar all all xs
none_so_far all xs none = rw none (record { is = none_in_front all })

front_more : {A : Type 0} (xs : List A) (x : A) (given : Result (List A) ScriptRefusal) → in_front xs (given >>= λ others. Ok (x ∷ others)) ≡ in_front (xs ++ x ∷ []) given
front_more {A} xs x (Ok others) = ap (λ (all : List A). Ok all) (sym (append_assoc xs (x ∷ []) others))
front_more xs x (Err e) = refl

module _ {A : Type 0} (line_of : List ℕ → Result A WordRefusal) where
  step : (n : ℕ) (line : List ℕ) (lines : List (List ℕ)) (xs : List A) (x : A) → line_of line ≡ Ok x → in_front xs (each_behind line_of n (line ∷ lines)) ≡ in_front (xs ++ x ∷ []) (each_behind line_of (n + 1) lines)
  unfolding each_behind
  step n line lines xs x first = ap (λ (given : Result A WordRefusal). in_front xs (at_line (n + 1) given >>= λ (found : A). (each_behind line_of (n + 1) lines >>= λ (others : List A). Ok (found ∷ others)))) first ∙ front_more xs x (each_behind line_of (n + 1) lines)

  stop : (n : ℕ) (line : List ℕ) (lines : List (List ℕ)) (xs : List A) (e : WordRefusal) → line_of line ≡ Err e → in_front xs (each_behind line_of n (line ∷ lines)) ≡ Err (refusal_at (n + 1) e)
  unfolding each_behind
  stop n line lines xs e first = ap (λ (given : Result A WordRefusal). in_front xs (at_line (n + 1) given >>= λ (found : A). (each_behind line_of (n + 1) lines >>= λ (others : List A). Ok (found ∷ others)))) first

  none_left : (n : ℕ) (xs : List A) → in_front xs (each_behind line_of n []) ≡ Ok xs
  unfolding each_behind
  none_left n xs = ap (λ (all : List A). Ok all) (append-nil xs)

  -- one more line
  pub go_on : (all : Result (List A) ScriptRefusal) (n : ℕ) (left : List (List ℕ)) (line : List ℕ) (lines : List (List ℕ)) (xs more : List A) (x : A) → SoFar all (each_behind line_of n left) xs → left ≡ line ∷ lines → line_of line ≡ Ok x → more ≡ xs ++ x ∷ [] → SoFar all (each_behind line_of (n + 1) lines) more
  go_on all n left line lines xs more x so_far parts first is = rw is (record { is = so_far.is ∙ ap (λ (ls : List (List ℕ)). in_front xs (each_behind line_of n ls)) parts ∙ step n line lines xs x first })

  -- a line that is refused
  pub stop_at : (all : Result (List A) ScriptRefusal) (n : ℕ) (left : List (List ℕ)) (line : List ℕ) (lines : List (List ℕ)) (xs : List A) (e : WordRefusal) → SoFar all (each_behind line_of n left) xs → left ≡ line ∷ lines → line_of line ≡ Err e → all ≡ Err (refusal_at (n + 1) e)
  stop_at all n left line lines xs e so_far parts first = so_far.is ∙ ap (λ (ls : List (List ℕ)). in_front xs (each_behind line_of n ls)) parts ∙ stop n line lines xs e first

  pub end_with : (all : Result (List A) ScriptRefusal) (n : ℕ) (left : List (List ℕ)) (xs : List A) → SoFar all (each_behind line_of n left) xs → left ≡ [] → all ≡ Ok xs
  end_with all n left xs so_far none = so_far.is ∙ ap (λ (ls : List (List ℕ)). in_front xs (each_behind line_of n ls)) none ∙ none_left n xs

pub too_large : (text : List ℕ) → most_bytes < length text → discover_script text ≡ Err TextTooLarge
unfolding discover_script
too_large text h = rw (lt_true most_bytes (length text) h) refl

pub small_enough : (text : List ℕ) → length text ≤ most_bytes → discover_script text ≡ each_behind discover_line 0 (lines_of text)
unfolding discover_script
small_enough text h = rw (lt_false most_bytes (length text) h) refl
