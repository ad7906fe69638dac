-- Bytes that come over a stream, and a buffer that keeps those not yet used. This project's own.
use Rattle.std.specs.Prelude.{◌≡◌, ◌<◌, ℕ, List, [], ◌++◌, length, take, Result, Ok, Err}
use Rattle.uss_http_request.specs.declared.halt.Halt.{Halt}
use Rattle.uss_http_request.specs.declared.halt.Halt.TheVariants as halt

-- the bytes that came by one call, which stand at the start of the buffer that it filled
abbrev pub come : {E : Type 0} → Result ℕ E → (filled : List ℕ) → List ℕ
come (Ok n) filled = take n filled
come (Err e) filled = []

-- Here `gave s t bytes` says that between the two moments s and t of a stream these bytes came over it.
-- Whatever came up to the first moment and ended in the old bytes, came up to the second and ended in the new ones:
-- the new bytes are the old ones and those that came in between.
pub record Passes {S : Type 0} (gave : S → S → List ℕ → Type 0) (before : S) (old : List ℕ) (after : S) (new : List ℕ) : Type 0 where
  pub told : (origin : S) (past : List ℕ) → gave origin before (past ++ old) → gave origin after (past ++ new)

-- Whatever came up to the first moment, it and perhaps more bytes came up to the second.
pub record Hears {S : Type 0} (gave : S → S → List ℕ → Type 0) (before after : S) : Type 0 where
  pub more : (origin : S) (past : List ℕ) → gave origin before past → (bytes : List ℕ) × gave origin after (past ++ bytes)

-- a halt that no bytes cause
abbrev pub IsOutside : Halt → Type 0
IsOutside halt.Fault = Unit {0}
IsOutside halt.Memory = Unit {0}
IsOutside halt.Bad = ⊥
IsOutside halt.Long = ⊥
IsOutside halt.Cut = ⊥

-- a halt at the end of the stream, or one that no bytes cause
abbrev pub IsEndOrOutside : Halt → Type 0
IsEndOrOutside halt.Fault = Unit {0}
IsEndOrOutside halt.Memory = Unit {0}
IsEndOrOutside halt.Cut = Unit {0}
IsEndOrOutside halt.Bad = ⊥
IsEndOrOutside halt.Long = ⊥

-- the fact, unless a halt came that no bytes cause
abbrev pub UnlessOutside : {A : Type 0} → Result A Halt → Type 0 → Type 0
UnlessOutside (Ok x) P = P
UnlessOutside (Err halt.Fault) P = Unit {0}
UnlessOutside (Err halt.Memory) P = Unit {0}
UnlessOutside (Err halt.Bad) P = P
UnlessOutside (Err halt.Long) P = P
UnlessOutside (Err halt.Cut) P = P

-- n bytes came and were added to the body
pub record Adds {S : Type 0} (gave : S → S → List ℕ → Type 0) (before after : S) (old new : List ℕ) (n : ℕ) : Type 0 where
  pub came : List ℕ
  pub count : length came ≡ n
  pub added : new ≡ old ++ came
  pub passes : (kept : List ℕ) → Passes gave before kept after (kept ++ came)

-- so many bytes of the stream were moved to the body
pub record Moves {S : Type 0} (gave : S → S → List ℕ → Type 0) (before : S) (kept : List ℕ) (after : S) (left old new : List ℕ) (n : ℕ) : Type 0 where
  pub moved : List ℕ
  pub count : length moved ≡ n
  pub added : new ≡ old ++ moved
  pub passes : Passes gave before kept after (moved ++ left)

-- the stream ended before so many bytes came
pub record Lacks {S : Type 0} (gave : S → S → List ℕ → Type 0) (ended : S → Type 0) (before : S) (kept : List ℕ) (after : S) (n : ℕ) : Type 0 where
  pub all : List ℕ
  pub short : length all < n
  pub passes : Passes gave before kept after all
  pub end : ended after
