-- How words are read, one after another: what each reader gives is its value and the words that are left, or why
-- the first refused word is refused. This project's own.
use Rattle.std.specs.Prelude.{◌≡◌, ◌≢◌, ℕ, zero, suc, ◌+◌, List, [], ◌∷◌, Bool, Option, Some, None, Result, Ok, Err, ℤ, pos, negsuc, nat_lt, if◌then◌else◌}
use Rattle.uss_text.specs.declared.refusal.WordRefusal.{WordRefusal}
use Rattle.uss_text.specs.declared.refusal.WordRefusal.TheVariants.{BadLine, BadNumber, Memory}
use Rattle.uss_text.specs.declared.refusal.ScriptRefusal.{ScriptRefusal}
use Rattle.uss_text.specs.declared.refusal.ScriptRefusal.TheVariants.{Memory as NoMemory}
use Rattle.uss_text.specs.Refusals.{at_line}
use Rattle.uss_text.specs.Numbers.{natural_of, integer_of}

infixl 10 ◌>>=◌
abbrev pub ◌>>=◌ : {A B E : Type 0} → Result A E → (A → Result B E) → Result B E
(Ok x) >>= f = f x
(Err e) >>= f = Err e

-- the words that are left
abbrev pub Words : Type 0
Words = List (List ℕ)

-- a value and the words after it
pub record Read (A : Type 0) : Type 0 where
  pub value : A
  pub rest : Words

abbrev pub read : {A : Type 0} → A → Words → Read A
read x ws = record { value = x; rest = ws }

abbrev pub Reader : Type 0 → Type 0
Reader A = Words → Result (Read A) WordRefusal

-- What a function returned, seen by view, and the words that it left are what reading gives, unless memory was
-- wanting.
abbrev pub GivesBy : {X Y : Type 0} → (X → Y) → Result X WordRefusal → Words → Result (Read Y) WordRefusal → Type 0
GivesBy view (Ok x) rest given = given ≡ Ok (read (view x) rest)
GivesBy view (Err e) rest given = e ≢ Memory → given ≡ Err e

abbrev pub Gives : {X : Type 0} → Result X WordRefusal → Words → Result (Read X) WordRefusal → Type 0
Gives answer rest given = GivesBy (λ x. x) answer rest given

-- the same of what reading a whole line gives
abbrev pub LineGives : {X : Type 0} → Result X WordRefusal → Result X WordRefusal → Type 0
LineGives (Ok x) given = given ≡ Ok x
LineGives (Err e) given = e ≢ Memory → given ≡ Err e

-- the same of what reading a whole script gives
abbrev pub ScriptGives : {X Y : Type 0} → (X → Y) → Result X ScriptRefusal → Result Y ScriptRefusal → Type 0
ScriptGives view (Ok x) given = given ≡ Ok (view x)
ScriptGives view (Err e) given = e ≢ NoMemory → given ≡ Err e

-- a word that isn't empty: a line that ends too early, and an empty word, are refused
unfoldable pub word_at : Reader (List ℕ)
word_at [] = Err BadLine
word_at ([] ∷ ws) = Err BadLine
word_at ((b ∷ bs) ∷ ws) = Ok (read (b ∷ bs) ws)

abbrev pub number_or_bad : {A : Type 0} → Option A → Words → Result (Read A) WordRefusal
number_or_bad None ws = Err BadNumber
number_or_bad (Some n) ws = Ok (read n ws)

-- from -2 ^ 63 to 2 ^ 63 - 1
abbrev pub is_signed_64 : ℤ → Bool
is_signed_64 (pos n) = nat_lt n 9223372036854775808
is_signed_64 (negsuc n) = nat_lt n 9223372036854775808

abbrev pub integer_within : Option ℤ → Option ℤ
integer_within None = None
integer_within (Some z) = if is_signed_64 z then Some z else None

abbrev pub natural_below : ℕ → Option ℕ → Option ℕ
natural_below limit None = None
natural_below limit (Some n) = if nat_lt n limit then Some n else None

-- a whole number of 64 bits, signed
unfoldable pub integer_at : Reader ℤ
integer_at ws = do
  word ← word_at ws
  number_or_bad (integer_within (integer_of word.value)) word.rest

-- a count: a number from 0 to 4,294,967,295
unfoldable pub count_at : Reader ℕ
count_at ws = do
  word ← word_at ws
  number_or_bad (natural_below 4294967296 (natural_of word.value)) word.rest

-- what the next word says
abbrev pub by_word : {A : Type 0} → (List ℕ → Result A WordRefusal) → Reader A
by_word value_of ws = do
  word ← word_at ws
  value ← value_of word.value
  Ok (read value word.rest)

-- so many values, one after another
unfoldable pub many_at : {A : Type 0} → Reader A → ℕ → Reader (List A)
many_at reader zero ws = Ok (read [] ws)
many_at reader (suc n) ws = do
  first ← reader ws
  others ← many_at reader n first.rest
  Ok (read (first.value ∷ others.value) others.rest)

-- no word is left
unfoldable pub end_at : Words → Result (Unit {0}) WordRefusal
end_at [] = Ok tt
end_at (w ∷ ws) = Err BadLine

-- what the lines say that stand after so many others, or the refusal of the first of them that is refused
unfoldable pub each_behind : {A : Type 0} → (List ℕ → Result A WordRefusal) → ℕ → List (List ℕ) → Result (List A) ScriptRefusal
each_behind line_of n [] = Ok []
each_behind line_of n (line ∷ lines) = do
  first ← at_line (n + 1) (line_of line)
  others ← each_behind line_of (n + 1) lines
  Ok (first ∷ others)
