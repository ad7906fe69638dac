-- The answers of a book, each with its cause. This project's own.
use Rattle.std.specs.Prelude.{◌≡◌, ◌⊎◌, ℕ, List, [], ◌∷◌, ◌++◌, Option, Some, None, Result, Ok, Err}
use Rattle.uss_cause.specs.Cause.{Rose}
use Rattle.uss_event.specs.declared.entries.Owner.{Owner}
use Rattle.uss_event.specs.declared.entries.Entry.{Entry}
use Rattle.uss_journal.specs.Format.{stands_for}
use Rattle.uss_law_book.specs.Lists.{owner_of}
use Rattle.uss_journal.specs.Journal.{JournalView, mounted}
use Rattle.uss_journal.specs.declared.refusal.JournalRefusal.{JournalRefusal}
use Rattle.uss_journal.specs.declared.refusal.JournalRefusal.TheVariants as Journals
use Rattle.uss_book.specs.declared.refusal.BookFault.{BookFault}
use Rattle.uss_book.specs.declared.refusal.BookFault.TheVariants.{DiskFault, NotAJournal, Spent, BadEntry, OtherOwner, Changed, Memory}
use Rattle.uss_book.specs.declared.refusal.BookRefusal.{BookRefusal}
use Rattle.uss_book_index.specs.Known.{Known}
use Rattle.uss_book.specs.Book.{BookView, IsBadEntry, IsOtherOwner}

-- the number under which a refusal is printed; out of memory has none
abbrev pub number_of : BookFault → Option ℕ
number_of DiskFault = Some 141
number_of (NotAJournal place) = Some 143
number_of (Spent count) = Some 144
number_of (BadEntry n) = Some 151
number_of (OtherOwner kept) = Some 152
number_of (Changed n) = Some 154
number_of Memory = None

-- an entry that was entered: it is the last
pub record Entered {D : Type 0} (old : BookView D) (e : Entry) (new : BookView D) : Type 0 where
  pub unspent : old.spent ≡ None
  pub last : new.entries ≡ old.entries ++ e ∷ []
  pub reopened : new.spent ≡ None
  pub untried : new.tried ≡ None
  pub forgotten : new.found ≡ None

-- a fault of the disk while an entry is entered: the count rose, the entries are those that were known, and the book is spent
pub record EnterFaulted {D : Type 0} (fault_count : D → ℕ) (old : BookView D) (e : Entry) (new : BookView D) : Type 0 where
  pub unspent : old.spent ≡ None
  pub cause : Rose (fault_count old.disk) (fault_count new.disk)
  pub entries : new.entries ≡ old.entries
  pub spent : new.spent ≡ Some (fault_count new.disk)
  pub tried : new.tried ≡ Some e
  pub forgotten : new.found ≡ None

-- each refusal of an enter, with its cause: a full journal is none of them
abbrev pub EnterRefused : {D : Type 0} (fault_count : D → ℕ) (old : BookView D) (e : Entry) (fault : BookFault) (new : BookView D) → Type 0
EnterRefused fault_count old e (Spent count) new = (old.spent ≡ Some count) × (new ≡ old)
EnterRefused fault_count old e Memory new = (old.spent ≡ None) × (new ≡ old)
EnterRefused fault_count old e DiskFault new = EnterFaulted fault_count old e new
EnterRefused fault_count old e (NotAJournal place) new = ⊥
EnterRefused fault_count old e (BadEntry n) new = ⊥
EnterRefused fault_count old e (OtherOwner kept) new = ⊥
EnterRefused fault_count old e (Changed n) new = ⊥

-- the records aren't those of a legal book, by this refusal; out of memory says nothing of them
abbrev pub Misread : (records : List (List ℕ)) (fault : BookFault) → Type 0
Misread records (BadEntry n) = IsBadEntry records n
Misread records Memory = Unit {0}
Misread records DiskFault = ⊥
Misread records (NotAJournal place) = ⊥
Misread records (Spent count) = ⊥
Misread records (OtherOwner kept) = ⊥
Misread records (Changed n) = ⊥

-- each refusal of a view, by the disk's count of faults before and after it; those of 143 and 151 are the bytes
abbrev pub ViewRefused : (before after : ℕ) (fault : BookFault) → Type 0
ViewRefused before after DiskFault = Rose before after
ViewRefused before after (NotAJournal place) = Unit {0}
ViewRefused before after (BadEntry n) = Unit {0}
ViewRefused before after Memory = Unit {0}
ViewRefused before after (Spent count) = ⊥
ViewRefused before after (OtherOwner kept) = ⊥
ViewRefused before after (Changed n) = ⊥

-- each refusal of a mount: those of a view, and that the book is another owner's
abbrev pub MountRefused : (owner : Owner) (before after : ℕ) (fault : BookFault) → Type 0
MountRefused owner before after DiskFault = Rose before after
MountRefused owner before after (NotAJournal place) = Unit {0}
MountRefused owner before after (BadEntry n) = Unit {0}
MountRefused owner before after Memory = Unit {0}
MountRefused owner before after (Spent count) = ⊥
MountRefused owner before after (OtherOwner kept) = kept ≡ owner → ⊥
MountRefused owner before after (Changed n) = ⊥

-- the file stands for records of which this holds
pub record StandsForSome (file : List ℕ) (P : List (List ℕ) → Type 0) : Type 0 where
  pub records : List (List ℕ)
  pub found : stands_for file ≡ Ok records
  pub so : P records

-- exactly where 143, 151 and 152 come; a fault and out of memory say nothing of the bytes
abbrev pub RefusedBy : (owner : Owner) (file : List ℕ) (fault : BookFault) → Type 0
RefusedBy owner file (NotAJournal place) = stands_for file ≡ Err place
RefusedBy owner file (BadEntry n) = StandsForSome file (λ records. IsBadEntry records n)
RefusedBy owner file (OtherOwner kept) = StandsForSome file (IsOtherOwner owner kept)
RefusedBy owner file DiskFault = Unit {0}
RefusedBy owner file (Spent count) = Unit {0}
RefusedBy owner file (Changed n) = Unit {0}
RefusedBy owner file Memory = Unit {0}

-- what a refused mount leaves of a file: the file. Where memory was wanting, a file of at most nine bytes may be a new, empty journal; a
-- fault says nothing.
abbrev pub IsLeft : (file after : List ℕ) (fault : BookFault) → Type 0
IsLeft file after DiskFault = Unit {0}
IsLeft file after Memory = (after ≡ file) ⊎ (after ≡ mounted file)
IsLeft file after (NotAJournal place) = after ≡ file
IsLeft file after (BadEntry n) = after ≡ file
IsLeft file after (OtherOwner kept) = after ≡ file
IsLeft file after (Spent count) = after ≡ file
IsLeft file after (Changed n) = after ≡ file

-- a fact that holds unless the refusal is a fault of the disk
abbrev pub UnlessFault : BookFault → Type 0 → Type 0
UnlessFault DiskFault P = Unit {0}
UnlessFault Memory P = P
UnlessFault (NotAJournal place) P = P
UnlessFault (BadEntry n) P = P
UnlessFault (OtherOwner kept) P = P
UnlessFault (Spent count) P = P
UnlessFault (Changed n) P = P

-- the disk after a mount: the book's, or the one that was handed back
abbrev pub disk_after : {D : Type 0} → Result (BookView D) (BookRefusal D) → D
disk_after (Ok book) = book.disk
disk_after (Err refused) = refused.back

-- ---- what the journal answers, as the book's answer

-- a refusal of the journal that the book answers too: a journal that is full or spent is none of them
abbrev pub IsPassedOn : JournalRefusal → Type 0
IsPassedOn Journals.DiskFault = Unit {0}
IsPassedOn (Journals.NotAJournal place) = Unit {0}
IsPassedOn Journals.Memory = Unit {0}
IsPassedOn Journals.JournalFull = ⊥
IsPassedOn (Journals.Spent count) = ⊥

abbrev pub passed_on : JournalRefusal → BookFault
passed_on Journals.DiskFault = DiskFault
passed_on (Journals.NotAJournal place) = NotAJournal place
passed_on Journals.Memory = Memory
passed_on Journals.JournalFull = Memory
passed_on (Journals.Spent count) = Memory

-- why the entries of a file couldn't be read, by its bytes
abbrev pub ReadBy : (file : List ℕ) (fault : BookFault) → Type 0
ReadBy file (NotAJournal place) = stands_for file ≡ Err place
ReadBy file (BadEntry n) = StandsForSome file (λ records. IsBadEntry records n)
ReadBy file (OtherOwner kept) = ⊥
ReadBy file DiskFault = Unit {0}
ReadBy file (Spent count) = Unit {0}
ReadBy file (Changed n) = Unit {0}
ReadBy file Memory = Unit {0}

-- the disk after the entries of a file were read
abbrev pub disk_read : {D : Type 0} → Result (JournalView D × Known) (BookRefusal D) → D
disk_read (Ok found) = found.0.disk
disk_read (Err refused) = refused.back

-- the refusal says nothing of the bytes: a fault of the disk, or out of memory
abbrev pub SaysNothing : BookFault → Type 0
SaysNothing DiskFault = Unit {0}
SaysNothing Memory = Unit {0}
SaysNothing (NotAJournal place) = ⊥
SaysNothing (Spent count) = ⊥
SaysNothing (BadEntry n) = ⊥
SaysNothing (OtherOwner kept) = ⊥
SaysNothing (Changed n) = ⊥

-- the book is another owner's
abbrev pub IsAnothers : (entries : List Entry) (owner : Owner) (fault : BookFault) → Type 0
IsAnothers entries owner (OtherOwner kept) = (owner_of entries ≡ Some kept) × (kept ≡ owner → ⊥)
IsAnothers entries owner DiskFault = ⊥
IsAnothers entries owner Memory = ⊥
IsAnothers entries owner (NotAJournal place) = ⊥
IsAnothers entries owner (Spent count) = ⊥
IsAnothers entries owner (BadEntry n) = ⊥
IsAnothers entries owner (Changed n) = ⊥

-- the disk after the entries of a file were viewed
abbrev pub disk_viewed : {D : Type 0} → Result (List Entry × D) (BookRefusal D) → D
disk_viewed (Ok found) = found.1
disk_viewed (Err refused) = refused.back
