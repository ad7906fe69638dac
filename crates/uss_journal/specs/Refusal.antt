-- The answers of a journal, each with its cause. This project's own.
use Rattle.std.specs.Prelude.{◌≡◌, ℕ, ◌+◌, ◌<◌, ◌≤◌, List, [], ◌∷◌, ◌++◌, length, Some, None, Option, Result, Ok, Err}
use Rattle.uss_cause.specs.Cause.{Rose}
use Rattle.uss_journal.specs.Format.{limit, used_of, stands_for, next_gate}
use Rattle.uss_journal.specs.Journal.{JournalView}
use Rattle.uss_journal.specs.declared.refusal.JournalRefusal.{JournalRefusal}
use Rattle.uss_journal.specs.declared.refusal.JournalRefusal.TheVariants.{DiskFault, JournalFull, NotAJournal, Spent, Memory}
use Rattle.uss_journal.specs.declared.refusal.MountRefusal.{MountRefusal}

-- An append that was done: the record is the last.
pub record Appended {D : Type 0} (old : JournalView D) (entry : List ℕ) (new : JournalView D) : Type 0 where
  pub unspent : old.spent ≡ None
  pub fits : used_of old.records + 5 + length entry ≤ limit
  pub last : new.records ≡ old.records ++ entry ∷ []
  pub reopened : new.spent ≡ None
  pub untried : new.tried ≡ None
  pub forgotten : new.found ≡ None

-- A fault of the disk within an append: its count of faults rose, the records are those that were known, and the journal
-- is spent.
pub record AppendFaulted {D : Type 0} (fault_count : D → ℕ) (old : JournalView D) (entry : List ℕ) (new : JournalView D) : Type 0 where
  pub unspent : old.spent ≡ None
  pub fits : used_of old.records + 5 + length entry ≤ limit
  pub cause : Rose (fault_count old.disk) (fault_count new.disk)
  pub records : new.records ≡ old.records
  pub spent : new.spent ≡ Some (fault_count new.disk)
  pub tried : new.tried ≡ Some entry
  pub forgotten : new.found ≡ None

-- each refusal of an append, with its cause
abbrev pub AppendRefused : {D : Type 0} (fault_count : D → ℕ) (old : JournalView D) (entry : List ℕ) (refusal : JournalRefusal) (new : JournalView D) → Type 0
AppendRefused fault_count old entry (Spent count) new = (old.spent ≡ Some count) × (new ≡ old)
AppendRefused fault_count old entry JournalFull new = (old.spent ≡ None) × (limit < used_of old.records + 5 + length entry) × (new ≡ old)
AppendRefused fault_count old entry Memory new = (old.spent ≡ None) × (used_of old.records + 5 + length entry ≤ limit) × (new ≡ old)
AppendRefused fault_count old entry DiskFault new = AppendFaulted fault_count old entry new
AppendRefused fault_count old entry (NotAJournal place) new = ⊥

-- A file that was read again: the journal is as it was but for its disk, and what was found is kept beside its records.
pub record Reread {D : Type 0} (old new : JournalView D) : Type 0 where
  pub records : new.records ≡ old.records
  pub spent : new.spent ≡ old.spent
  pub tried : new.tried ≡ old.tried
  pub read : List (List ℕ)
  pub found : new.found ≡ Some read

-- No record was found, though some are known.
pub record IsLost (records : List (List ℕ)) (found : Option (List (List ℕ))) : Type 0 where
  pub none : found ≡ Some []
  pub some : 0 < length records

-- What was found is taken over: the journal isn't spent, on the same disk.
pub record Adopted {D : Type 0} (old : JournalView D) (found : List (List ℕ)) (new : JournalView D) : Type 0 where
  pub disk : new.disk ≡ old.disk
  pub records : new.records ≡ found
  pub reopened : new.spent ≡ None
  pub untried : new.tried ≡ None
  pub forgotten : new.found ≡ None

-- A fault of the disk within a remount: its count of faults rose, and the journal is spent.
pub record RemountFaulted {D : Type 0} (fault_count : D → ℕ) (old new : JournalView D) : Type 0 where
  pub cause : Rose (fault_count old.disk) (fault_count new.disk)
  pub records : new.records ≡ old.records
  pub spent : new.spent ≡ Some (fault_count new.disk)
  pub tried : new.tried ≡ old.tried
  pub forgotten : new.found ≡ None

-- the journal is as it was, but for its disk, and nothing was found
pub record SameButDisk {D : Type 0} (old new : JournalView D) : Type 0 where
  pub records : new.records ≡ old.records
  pub spent : new.spent ≡ old.spent
  pub tried : new.tried ≡ old.tried
  pub forgotten : new.found ≡ None

-- each refusal of a remount, with its cause
abbrev pub RemountRefused : {D : Type 0} (fault_count : D → ℕ) (old : JournalView D) (refusal : JournalRefusal) (new : JournalView D) → Type 0
RemountRefused fault_count old DiskFault new = RemountFaulted fault_count old new
RemountRefused fault_count old (NotAJournal place) new = SameButDisk old new
RemountRefused fault_count old Memory new = SameButDisk old new
RemountRefused fault_count old JournalFull new = ⊥
RemountRefused fault_count old (Spent count) new = ⊥

-- each refusal of a mount, with its cause, by the disk's count of faults before and after it; that of 143 is the bytes
abbrev pub MountRefused : (before after : ℕ) (refusal : JournalRefusal) → Type 0
MountRefused before after DiskFault = Rose before after
MountRefused before after (NotAJournal place) = Unit {0}
MountRefused before after Memory = Unit {0}
MountRefused before after JournalFull = ⊥
MountRefused before after (Spent count) = ⊥

-- 143 comes exactly where the file is no journal, by that place; the other refusals say nothing of its bytes
abbrev pub RefusedBy : (file : List ℕ) (refusal : JournalRefusal) → Type 0
RefusedBy file (NotAJournal place) = stands_for file ≡ Err place
RefusedBy file DiskFault = Unit {0}
RefusedBy file Memory = Unit {0}
RefusedBy file JournalFull = Unit {0}
RefusedBy file (Spent count) = Unit {0}

-- the disk after a mount: the journal's, or the one that was handed back
abbrev pub disk_after : {D : Type 0} → Result (JournalView D) (MountRefusal D) → D
disk_after (Ok journal) = journal.disk
disk_after (Err refused) = refused.back

-- a refusal that isn't 143
abbrev pub NoPlace : JournalRefusal → Type 0
NoPlace (NotAJournal place) = ⊥
NoPlace DiskFault = Unit {0}
NoPlace Memory = Unit {0}
NoPlace JournalFull = Unit {0}
NoPlace (Spent count) = Unit {0}

-- 143 comes only with this gate, whose record runs past the end of the file
abbrev pub PastTheEnd : (file : List ℕ) (gate : ℕ) (refusal : JournalRefusal) → Type 0
PastTheEnd file gate (NotAJournal place) = (place ≡ gate) × (length file ≤ next_gate file gate)
PastTheEnd file gate DiskFault = Unit {0}
PastTheEnd file gate Memory = Unit {0}
PastTheEnd file gate JournalFull = Unit {0}
PastTheEnd file gate (Spent count) = Unit {0}

-- a fact that holds unless the refusal is a fault of the disk
abbrev pub UnlessFault : JournalRefusal → Type 0 → Type 0
UnlessFault DiskFault P = Unit {0}
UnlessFault JournalFull P = P
UnlessFault (NotAJournal place) P = P
UnlessFault (Spent count) P = P
UnlessFault Memory P = P
