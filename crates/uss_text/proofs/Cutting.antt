-- Lines and words, by the first separator.
use Rattle.std.proofs.Common.{◌≡◌, ℕ, ◌+◌, ◌<◌, Bool, true, false, List, [], ◌∷◌, ◌++◌, length, take, drop, get_or, zero, suc, ◌==◌, add-one, refl, sym, ap, ◌∙◌, arith}
use Rattle.std.proofs.lemmas.Bool.Decides.{nat_tests}
use Rattle.std.proofs.Math.Seq.{drop-cons}
use Rattle.std.proofs.lemmas.List.{take-append-drop}
use Rattle.memchr.specs.Find.{is_byte}
use Rattle.uss_text.specs.Lines.{lines_of, words_of, IsFree, IsCut}

-- a line before an LF, and the lines after it
pub lines_of-cut : (front rest : List ℕ) → IsFree 10 front → lines_of (front ++ 10 ∷ rest) ≡ front ∷ lines_of rest
lines_of-cut [] rest free = refl
lines_of-cut (b ∷ bs) rest free = rw (free.0, lines_of-cut bs rest free.1) refl

pub lines_of-free : (b : ℕ) (bs : List ℕ) → IsFree 10 (b ∷ bs) → lines_of (b ∷ bs) ≡ (b ∷ bs) ∷ []
lines_of-free b [] free = rw free.0 refl
lines_of-free b (c ∷ cs) free = rw (free.0, lines_of-free c cs free.1) refl

pub words_of-cut : (front rest : List ℕ) → IsFree 32 front → words_of (front ++ 32 ∷ rest) ≡ front ∷ words_of rest
words_of-cut [] rest free = refl
words_of-cut (b ∷ bs) rest free = rw (free.0, words_of-cut bs rest free.1) refl

pub words_of-free : (line : List ℕ) → IsFree 32 line → words_of line ≡ line ∷ []
words_of-free [] free = refl
words_of-free (b ∷ bs) free = rw (free.0, words_of-free bs free.1) refl

-- a test that isn't true is false
fails : (b : Bool) → ¬ (b ≡ true) → b ≡ false
fails true h = absurd (h refl)
fails false h = refl

-- no separator stands at any of the first places
pub free_front : (sep : ℕ) (bytes : List ℕ) (k : ℕ) → ((j : ℕ) → j < k → ¬ (is_byte sep (get_or bytes j 0) ≡ true)) → IsFree sep (take k bytes)
free_front sep bytes zero h = tt
free_front sep [] (suc k) h = tt
free_front sep (b ∷ bs) (suc k) h = (fails (b == sep) (h 0 (omega arith)), free_front sep bs k (λ j lt. h (suc j) (omega arith)))

pub free_all : (sep : ℕ) (bytes : List ℕ) → ((j : ℕ) → j < length bytes → ¬ (is_byte sep (get_or bytes j 0) ≡ true)) → IsFree sep bytes
free_all sep [] h = tt
free_all sep (b ∷ bs) h = (fails (b == sep) (h 0 (omega arith)), free_all sep bs (λ j lt. h (suc j) (omega arith)))

is_separator : (b sep : ℕ) → (b == sep) ≡ true → b ≡ sep
is_separator b sep h = grind (arith, nat_tests)

pub cut_first : (sep : ℕ) (bytes : List ℕ) (k : ℕ) → k < length bytes → is_byte sep (get_or bytes k 0) ≡ true → ((j : ℕ) → j < k → ¬ (is_byte sep (get_or bytes j 0) ≡ true)) → IsCut sep bytes (take k bytes) (drop (k + 1) bytes)
cut_first sep bytes k lt here before = record {
  parts = sym (take-append-drop k bytes) ∙ ap (λ (rest : List ℕ). take k bytes ++ rest) (rw (add-one, drop-cons bytes k 0 lt, is_separator _ sep here) refl);
  free = free_front sep bytes k before;
}

-- how the lines, and the words, go on
pub next_line_is : (bytes line behind : List ℕ) → IsCut 10 bytes line behind → lines_of bytes ≡ line ∷ lines_of behind
next_line_is bytes line behind cut = rw (cut.parts) (lines_of-cut line behind cut.free)

pub last_line_is : (bytes : List ℕ) → IsFree 10 bytes → (length bytes == 0) ≡ false → lines_of bytes ≡ bytes ∷ []
last_line_is [] free some = cc
last_line_is (b ∷ bs) free some = lines_of-free b bs free

pub next_word_is : (bytes word behind : List ℕ) → IsCut 32 bytes word behind → words_of bytes ≡ word ∷ words_of behind
next_word_is bytes word behind cut = rw (cut.parts) (words_of-cut word behind cut.free)
