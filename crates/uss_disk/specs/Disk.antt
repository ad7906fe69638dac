-- What the calls of a disk do to its one file, and what a crash may leave of it. This project's own; the model of a
-- medium that keeps what was synced, and tears or forgets what wasn't.
use Rattle.std.specs.Prelude.{◌≡◌, ◌⊎◌, ◌↔◌, ℕ, ◌+◌, ◌<◌, ◌≤◌, min, max, List, [], ◌++◌, length, take, drop, slice_index, Option, Some, None}

-- the bytes that a read gives, where the disk tells them
abbrev pub bytes_of : Option (List ℕ) → List ℕ
bytes_of None = []
bytes_of (Some bytes) = bytes

-- the file after these bytes were written at this place, over what stood there and past its end
abbrev pub written : (at : ℕ) (bytes file : List ℕ) → List ℕ
written at bytes file = take at file ++ bytes ++ drop (at + length bytes) file

-- What a file may be after a write of n bytes at a place that a crash cut short, or that was refused: the bytes in the
-- range and past the old end are any, each other byte stays, and the length is between the old one and the larger
-- of it and the write's end.
pub record Torn (at n : ℕ) (old new : List ℕ) : Type 0 where
  pub before : (k : ℕ) → k < at → k < length old → slice_index new k ≡ slice_index old k
  pub behind : (k : ℕ) → at + n ≤ k → k < length old → slice_index new k ≡ slice_index old k
  pub no_shorter : length old ≤ length new
  pub no_longer : length new ≤ max (length old) (at + n)

-- what a file may be after a cut to n bytes that a crash cut short, or that was refused: a prefix of the old one
-- of some length between
pub record Shortened (n : ℕ) (old new : List ℕ) : Type 0 where
  pub no_shorter : min n (length old) ≤ length new
  pub front : new ≡ take (length new) old

-- each file that a crash may leave now comes by this step from one that a crash could have left before
abbrev pub Follows : (step : List ℕ → List ℕ → Type 0) (old new : List ℕ → Type 0) → Type 0
Follows step old new = (image : List ℕ) → new image → (was : List ℕ) × old was × step was image

-- a crash leaves this file and no other
abbrev pub Only : (file : List ℕ) (may_leave : List ℕ → Type 0) → Type 0
Only file may_leave = (image : List ℕ) → may_leave image → image ≡ file

-- A call that takes time and no more: what a read gives, what a crash may leave now, and what a crash at some moment
-- since an earlier time may have left are as before.
pub record SameMeaning {D : Type 0} (reads : D → Option (List ℕ)) (may_leave : D → List ℕ → Type 0) (moment : D → ℕ) (left_since : D → ℕ → List ℕ → Type 0) (old new : D) : Type 0 where
  pub reading : reads new ≡ reads old
  pub now : (image : List ℕ) → may_leave new image ↔ may_leave old image
  pub later : moment old ≤ moment new
  pub since : (t : ℕ) (image : List ℕ) → t ≤ moment old → left_since new t image ↔ left_since old t image

-- A call during which the disk may crash: what a crash at some moment since an earlier time may have left is what it
-- may have left before the call, and what it may leave after it. Nothing is forgotten.
pub record TimePasses {D : Type 0} (may_leave : D → List ℕ → Type 0) (moment : D → ℕ) (left_since : D → ℕ → List ℕ → Type 0) (old new : D) : Type 0 where
  pub later : moment old ≤ moment new
  pub nothing_else : (t : ℕ) (image : List ℕ) → t ≤ moment old → left_since new t image → left_since old t image ⊎ may_leave new image
  pub kept : (t : ℕ) (image : List ℕ) → t ≤ moment old → left_since old t image → left_since new t image

-- A crash at any moment from the old disk to the new one leaves a file that has P.
pub record CrashLeaves {D : Type 0} (moment : D → ℕ) (left_since : D → ℕ → List ℕ → Type 0) (P : List ℕ → Type 0) (old new : D) : Type 0 where
  pub later : moment old ≤ moment new
  pub each : (image : List ℕ) → left_since new (moment old) image → P image
  -- for a run that began earlier
  pub earlier : (t : ℕ) (image : List ℕ) → t ≤ moment old → left_since new t image → left_since old t image ⊎ P image
