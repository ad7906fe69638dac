-- What a read of a source and a write to a sink do to the bytes, where these are told. This project's own.
use Rattle.std.specs.Prelude.{◌≡◌, ℕ, ◌≤◌, ◌<◌, List, [], ◌++◌, length, take, drop, Option, Some, None, Result, IfOk, MatchResult}

-- A read took n of the bytes that were left: the first n, which stand at the start of the buffer. It took none
-- only where the buffer is empty or nothing was left: a source that gives nothing has ended.
pub record Takes (left : List ℕ) (after : Option (List ℕ)) (buffer filled : List ℕ) (n : ℕ) : Type 0 where
  pub available : n ≤ length left
  pub given : take n filled ≡ take n left
  pub rest : after ≡ Some (drop n left)
  pub ended : n ≡ 0 → 0 < length buffer → left ≡ []

-- what one read does, from what was left before to what is left after; a fault takes and gives no bytes. What is told
-- stays told, and a source that doesn't tell doesn't begin to.
pub record Reads {E : Type 0} (before after : Option (List ℕ)) (buffer filled : List ℕ) (answer : Result ℕ E) : Type 0 where
  pub within : IfOk answer (λ n. n ≤ length buffer)
  pub told : (left : List ℕ) → before ≡ Some left → MatchResult answer (Takes left after buffer filled) (λ _. after ≡ Some left)
  pub untold : before ≡ None → after ≡ None

-- what one write does: the sink takes bytes from the start, at least one of a piece that isn't empty; a fault
-- takes none
pub record Writes {E : Type 0} (before after : Option (List ℕ)) (bytes : List ℕ) (answer : Result ℕ E) : Type 0 where
  pub within : IfOk answer (λ n. n ≤ length bytes)
  pub some : IfOk answer (λ n. 0 < length bytes → 0 < n)
  pub told : (taken : List ℕ) → before ≡ Some taken → MatchResult answer (λ n. after ≡ Some (taken ++ take n bytes)) (λ _. after ≡ Some taken)

-- n of the bytes that were left were appended to others; none only where nothing was left
pub record Appended (left : List ℕ) (after : Option (List ℕ)) (old new : List ℕ) (n : ℕ) : Type 0 where
  pub bytes : new ≡ old ++ take n left
  pub rest : after ≡ Some (drop n left)
  pub ended : n ≡ 0 → left ≡ []

-- from what had been taken before, the sink took a prefix of the bytes
pub record TookFront (taken : List ℕ) (after : Option (List ℕ)) (bytes : List ℕ) : Type 0 where
  pub count : ℕ
  pub within : count ≤ length bytes
  pub is_taken : after ≡ Some (taken ++ take count bytes)
