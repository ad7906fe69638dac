-- What a disk in memory keeps, and what follows from the record of its calls. This project's own.
use Rattle.std.specs.Prelude.{◌≡◌, ◌⊎◌, ℕ, ◌+◌, ◌≤◌, Bool, true, false, if◌then◌else◌, List, [], ◌∷◌, ◌++◌, length, take, Contains, Option, Some}
use Rattle.std.specs.Bool.{MatchBool}
use Rattle.uss_cause.specs.Cause.{Rose}
use Rattle.uss_disk.specs.Disk.{written, Torn, Shortened}
use Rattle.uss_disk.specs.declared.act.Act.{Act}
use Rattle.uss_disk.specs.declared.act.Act.TheVariants.{Len, Read, Write, Cut, Sync}
use Rattle.uss_disk.specs.declared.act.Call.{Call}

-- a disk in memory: the bytes that it was made with, all of them on the medium; the record of its calls, the oldest first;
-- the numbers of the calls that are to fail, counted from 1; and the count of faults
pub record MemoryView : Type 0 where
  pub first : List ℕ
  pub calls : List Call
  pub failing : List ℕ
  pub faults : ℕ

-- the file after an act that was done
abbrev pub after_act : Act → List ℕ → List ℕ
after_act Len file = file
after_act (Read at len) file = file
after_act (Write at bytes) file = written at bytes file
after_act (Cut len) file = take len file
after_act Sync file = file

-- the file after a call: a call that failed changes nothing
abbrev pub after_call : Call → List ℕ → List ℕ
after_call call file = if call.done then after_act call.act file else file

-- what a read gives after these calls
abbrev pub reading : (file : List ℕ) (calls : List Call) → List ℕ
reading file [] = file
reading file (call ∷ calls) = reading (after_call call file) calls

-- what a crash may leave after an act that was done, by the file before it and what a crash could have left before
abbrev pub LeftByAct : Act → (file : List ℕ) (could : List ℕ → Type 0) → List ℕ → Type 0
LeftByAct Len file could image = could image
LeftByAct (Read at len) file could image = could image
LeftByAct (Write at bytes) file could image = (was : List ℕ) × could was × Torn at (length bytes) was image
LeftByAct (Cut len) file could image = (was : List ℕ) × could was × Shortened len was image
LeftByAct Sync file could image = image ≡ file

abbrev pub LeftByCall : Call → (file : List ℕ) (could : List ℕ → Type 0) → List ℕ → Type 0
LeftByCall call file could image = MatchBool call.done (LeftByAct call.act file could image) (could image)

-- what a crash may leave after these calls, by the file before them and what a crash could have left then
abbrev pub Left : (file : List ℕ) (could : List ℕ → Type 0) (calls : List Call) → List ℕ → Type 0
Left file could [] image = could image
Left file could (call ∷ calls) image = Left (after_call call file) (LeftByCall call file could) calls image

-- what a crash may leave, after these calls, of a file that was all on the medium
abbrev pub LeftAfter : (first : List ℕ) (calls : List Call) → List ℕ → Type 0
LeftAfter first calls = Left first (λ image. image ≡ first) calls

-- what a crash at some moment may have left, of those after n calls and later
abbrev pub LeftSince : (first : List ℕ) (calls : List Call) → ℕ → List ℕ → Type 0
LeftSince first calls n image = (k : ℕ) × (n ≤ k) × (k ≤ length calls) × LeftAfter first (take k calls) image

-- the meanings of a disk in memory: what a read gives, what a crash now may leave, the number of calls as the time, and
-- what a crash since a time may have left
abbrev pub memory_reads : MemoryView → Option (List ℕ)
memory_reads disk = Some (reading disk.first disk.calls)

abbrev pub memory_may_leave : MemoryView → List ℕ → Type 0
memory_may_leave disk = LeftAfter disk.first disk.calls

abbrev pub memory_moment : MemoryView → ℕ
memory_moment disk = length disk.calls

abbrev pub memory_left_since : MemoryView → ℕ → List ℕ → Type 0
memory_left_since disk = LeftSince disk.first disk.calls

-- the count of faults, one higher unless it stands at its greatest value
pub record Counted (old new : ℕ) : Type 0 where
  pub rose : Rose old new
  pub no_lower : old ≤ new
  pub by_one : new ≤ old + 1

-- the number of the next call
abbrev pub next_call : MemoryView → ℕ
next_call disk = length disk.calls + 1

-- A call that was refused for out of memory: a fault is counted, and nothing else changes.
pub record HadNoRoom (old new : MemoryView) : Type 0 where
  pub first : new.first ≡ old.first
  pub calls : new.calls ≡ old.calls
  pub failing : new.failing ≡ old.failing
  pub counted : Counted old.faults new.faults

-- A call that was to fail: it is recorded as failed, and a fault is counted.
pub record WasToFail (old : MemoryView) (act : Act) (new : MemoryView) : Type 0 where
  pub listed : Contains old.failing (next_call old)
  pub first : new.first ≡ old.first
  pub calls : new.calls ≡ old.calls ++ record { act = act; done = false } ∷ []
  pub failing : new.failing ≡ old.failing
  pub counted : Counted old.faults new.faults

-- A call that was done: it is recorded so.
pub record WasDone (old : MemoryView) (act : Act) (new : MemoryView) : Type 0 where
  pub unlisted : Contains old.failing (next_call old) → ⊥
  pub first : new.first ≡ old.first
  pub calls : new.calls ≡ old.calls ++ record { act = act; done = true } ∷ []
  pub failing : new.failing ≡ old.failing
  pub faults : new.faults ≡ old.faults

-- what one call does to a disk in memory, by whether it was done
abbrev pub Recorded : MemoryView → Act → Bool → MemoryView → Type 0
Recorded old act answer new = MatchBool answer (WasDone old act new) (WasToFail old act new ⊎ HadNoRoom old new)
