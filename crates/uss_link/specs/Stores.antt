-- What the forms in memory show of themselves. This project's own.
use Rattle.std.specs.Prelude.{◌≡◌, ℕ, ◌+◌, ◌==◌, List, [], ◌∷◌, Bool, Result, IsErr, IsTrue, is_err, min, if◌then◌else◌}
use Rattle.std.specs.List.{list_any}
use Rattle.uss_link.specs.Talks.{Talk}

-- a source in memory: the bytes that it has left, how many it gives at most at a call, the numbers of the calls that are to fail, and its two counts
pub record Feed : Type 0 where
  pub left : List ℕ
  pub piece : ℕ
  pub failing : List ℕ
  pub calls : ℕ
  pub faults : ℕ

-- a sink in memory: the bytes that it took, how many it takes at most at a call, the numbers of the calls that are to fail, and its two counts
pub record Store : Type 0 where
  pub taken : List ℕ
  pub piece : ℕ
  pub failing : List ℕ
  pub calls : ℕ
  pub faults : ℕ

-- a dial in memory: the streams that were opened, oldest first, whether the last of them is open, the bytes that it
-- has left to give, the replies of the streams to come, how many bytes go at most at a call, the numbers of the calls that are to fail, and its two counts
pub record Exchanges : Type 0 where
  pub talks : List Talk
  pub is_open : Bool
  pub left : List ℕ
  pub replies : List (List ℕ)
  pub piece : ℕ
  pub failing : List ℕ
  pub calls : ℕ
  pub faults : ℕ

-- a count after one more: once it stands at its greatest value, it stays there
abbrev pub one_more : ℕ → ℕ
one_more count = min (count + 1) 18446744073709551615

-- the call with this number is to fail
abbrev pub is_listed : (call : ℕ) (failing : List ℕ) → Bool
is_listed call failing = list_any (λ n. n == call) failing

-- What a call does to the counts of a form in memory, whose list of calls that are to fail stays: it has the next number, it answers a
-- fault where that is listed, and a fault is counted.
pub record IsCall {T E : Type 0} (failing : List ℕ) (calls faults : ℕ) (failing' : List ℕ) (calls' faults' : ℕ) (answer : Result T E) : Type 0 where
  pub list : failing' ≡ failing
  pub next : calls' ≡ one_more calls
  pub fails : IsTrue (is_listed calls' failing) → IsErr answer
  pub counted : faults' ≡ (if is_err answer then one_more faults else faults)

-- the first of a list, or this where it has none
abbrev pub first_or : {A : Type 0} → A → List A → A
first_or other [] = other
first_or other (x ∷ xs) = x
