-- What is true of each journal. This project's own.
use Rattle.std.specs.Prelude.{◌≡◌, ◌↔◌, ℕ, ◌+◌, ◌≤◌, List, length, take, Option, None}
use Rattle.uss_disk.specs.Disk.{bytes_of, Only, SameMeaning}
use Rattle.uss_journal.specs.Gates.{Gated, records_between, tried_of}
use Rattle.uss_journal.specs.Journal.{StandsFor, WithOrWithout}
use Rattle.uss_journal.specs.declared.known.Known.{Known}

-- all of the file is on the medium, and it begins with the bytes that are known
pub record IsSynced (known file : List ℕ) (may_leave : List ℕ → Type 0) : Type 0 where
  pub front : take (length known) file ≡ known
  pub durable : Only file may_leave

-- each file that a crash may leave has at most nine bytes
abbrev pub AllShort : (may_leave : List ℕ → Type 0) → Type 0
AllShort may_leave = (image : List ℕ) → may_leave image → length image ≤ 9

-- The bytes that a journal knows lead by open gates to the last one, which is closed. While it isn't spent nothing stands
-- after that, and on an honest disk all of its file is on the medium. Whatever a crash leaves of an honest disk stands for
-- the known records, or for these with the one that was tried.
pub record IsSound {D : Type 0} (reads : D → Option (List ℕ)) (may_leave : D → List ℕ → Type 0) (is_honest : D → Type 0) (disk : D) (known gates : List ℕ) (last : ℕ) (spent : Option ℕ) : Type 0 where
  pub gated : Gated known gates last
  pub whole : spent ≡ None → length known ≡ last + 1
  pub synced : is_honest disk → spent ≡ None → IsSynced known (bytes_of (reads disk)) (may_leave disk)
  pub left : is_honest disk → (image : List ℕ) → may_leave disk image → WithOrWithout (records_between known 8 gates) (tried_of known last) image

-- What was read of the file again is as a journal that was just mounted has it: nothing stands after the last gate, which
-- is closed, and on an honest disk all of the file is on the medium.
pub record IsReady {D : Type 0} (reads : D → Option (List ℕ)) (may_leave : D → List ℕ → Type 0) (is_honest : D → Type 0) (disk : D) (known : Known) : Type 0 where
  pub gated : Gated known.bytes.items known.gates.items known.last
  pub whole : length known.bytes.items ≡ known.last + 1
  pub synced : is_honest disk → IsSynced known.bytes.items (bytes_of (reads disk)) (may_leave disk)
  pub left : is_honest disk → (image : List ℕ) → may_leave disk image → StandsFor (records_between known.bytes.items 8 known.gates.items) image

-- Calls that only looked at the disk: it is honest exactly where it was, its count of faults hasn't fallen, and on an
-- honest disk no meaning has changed.
pub record OnlyLooked {D : Type 0} (reads : D → Option (List ℕ)) (may_leave : D → List ℕ → Type 0) (moment : D → ℕ) (left_since : D → ℕ → List ℕ → Type 0) (is_honest : D → Type 0) (fault_count : D → ℕ) (old new : D) : Type 0 where
  pub honest : is_honest new ↔ is_honest old
  pub count : fault_count old ≤ fault_count new
  pub same : is_honest old → SameMeaning reads may_leave moment left_since old new

-- these bytes are the start of the file
abbrev pub IsFront : (bytes file : List ℕ) → Type 0
IsFront bytes file = take (length bytes) file ≡ bytes

-- the disk reads as it did, and a crash leaves nothing that it couldn't have left before
pub record Untouched {D : Type 0} (reads : D → Option (List ℕ)) (may_leave : D → List ℕ → Type 0) (old new : D) : Type 0 where
  pub reading : reads new ≡ reads old
  pub images : (image : List ℕ) → may_leave new image → may_leave old image
