-- What comes of reading a book again. This project's own.
use Rattle.std.specs.Prelude.{◌≡◌, ◌<◌, take, length, slice_get, ℕ, List, ◌++◌, Option, Some, None}
use Rattle.uss_cause.specs.Cause.{Rose}
use Rattle.uss_event.specs.declared.entries.Owner.{Owner}
use Rattle.uss_event.specs.declared.entries.Entry.{Entry}
use Rattle.uss_journal.specs.Journal.{JournalView}
use Rattle.uss_journal.specs.Refusal.{RemountFaulted, SameButDisk}
use Rattle.uss_law_book.specs.Lists.{owner_of}
use Rattle.uss_law_book.specs.Legal.{IsLegal}
use Rattle.uss_book.specs.declared.refusal.BookFault.{BookFault}
use Rattle.uss_book.specs.declared.refusal.BookFault.TheVariants.{DiskFault, NotAJournal, Spent, BadEntry, OtherOwner, Changed, Memory}
use Rattle.uss_book.specs.Book.{BookView, IsBadEntry, IsOtherOwner, IsChanged, records_of}

-- the list begins so
pub record BeginsWith {X : Type 0} (list front : List X) : Type 0 where
  pub more : List X
  pub is : list ≡ front ++ more

-- the record with number n is the first that wasn't found as it is known, or isn't there
pub record IsFirstChange (known found : List (List ℕ)) (n : ℕ) : Type 0 where
  pub within : n < length known
  pub front : take n found ≡ take n known
  pub changed : slice_get found n ≡ slice_get known n → ⊥

-- the records are those of a legal book, and of another owner than the known entries
pub record IsOther (known : List Entry) (kept : Owner) (records : List (List ℕ)) : Type 0 where
  pub owner : Owner
  pub known_is : owner_of known ≡ Some owner
  pub is : IsOtherOwner owner kept records

-- the entries are of another owner's book than the known ones
pub record AreAnothers (entries known : List Entry) : Type 0 where
  pub owner : Owner
  pub kept : Owner
  pub known_is : owner_of known ≡ Some owner
  pub kept_is : owner_of entries ≡ Some kept
  pub differ : kept ≡ owner → ⊥

-- the records are those of a legal book, which isn't another owner's, and the record with number n is the first that isn't that of the
-- known entry with this number, or isn't there
pub record IsReadDifferently (known : List Entry) (n : ℕ) (records : List (List ℕ)) : Type 0 where
  pub entries : List Entry
  pub legal : IsLegal entries
  pub found : records_of entries ≡ records
  pub own : AreAnothers entries known → ⊥
  pub changed : IsChanged known n records

-- where 151, 152 and 154 come: by the records that were read, which aren't those of a book that goes on from the known entries. 151 comes
-- before the other two, of which the records are those of a legal book, and 152 before 154.
abbrev pub IsByRecords : (known : List Entry) (records : List (List ℕ)) (fault : BookFault) → Type 0
IsByRecords known records (BadEntry n) = IsBadEntry records n
IsByRecords known records (OtherOwner kept) = IsOther known kept records
IsByRecords known records (Changed n) = IsReadDifferently known n records
IsByRecords known records Memory = Unit {0}
IsByRecords known records DiskFault = Unit {0}
IsByRecords known records (NotAJournal place) = Unit {0}
IsByRecords known records (Spent count) = Unit {0}

-- the refusal is one of those to which reading the records can come: 151, 152, 154 or out of memory
abbrev pub IsOfReading : BookFault → Type 0
IsOfReading (BadEntry n) = Unit {0}
IsOfReading (OtherOwner kept) = Unit {0}
IsOfReading (Changed n) = Unit {0}
IsOfReading Memory = Unit {0}
IsOfReading DiskFault = ⊥
IsOfReading (NotAJournal place) = ⊥
IsOfReading (Spent count) = ⊥

-- the refusal isn't 143
abbrev pub NoPlace : BookFault → Type 0
NoPlace (NotAJournal place) = ⊥
NoPlace (BadEntry n) = Unit {0}
NoPlace (OtherOwner kept) = Unit {0}
NoPlace (Changed n) = Unit {0}
NoPlace Memory = Unit {0}
NoPlace DiskFault = Unit {0}
NoPlace (Spent count) = Unit {0}

-- no records need have been found for it: 141, 143 or out of memory
abbrev pub IsUnread : BookFault → Type 0
IsUnread DiskFault = Unit {0}
IsUnread (NotAJournal place) = Unit {0}
IsUnread Memory = Unit {0}
IsUnread (BadEntry n) = ⊥
IsUnread (OtherOwner kept) = ⊥
IsUnread (Changed n) = ⊥
IsUnread (Spent count) = ⊥

-- where 151, 152 and 154 come: by the records that were found
abbrev pub IsByFound : (known : List Entry) (found : Option (List (List ℕ))) (fault : BookFault) → Type 0
IsByFound known None fault = IsUnread fault
IsByFound known (Some records) fault = IsByRecords known records fault

-- the journal took over what it had found, which are the records of these entries
pub record IsTaken {D : Type 0} (entries : List Entry) (journal : JournalView D) : Type 0 where
  pub records : journal.records ≡ records_of entries
  pub reopened : journal.spent ≡ None
  pub untried : journal.tried ≡ None
  pub forgotten : journal.found ≡ None

-- the journal is as it was, but for its disk and what it found
pub record IsKnown {D : Type 0} (old new : JournalView D) : Type 0 where
  pub records : new.records ≡ old.records
  pub spent : new.spent ≡ old.spent
  pub tried : new.tried ≡ old.tried

-- the journal after such a refusal: 141 leaves it spent, and after that and 143 it found nothing
abbrev pub StaysKnown : {D : Type 0} (fault_count : D → ℕ) (old : JournalView D) (fault : BookFault) (new : JournalView D) → Type 0
StaysKnown fault_count old DiskFault new = RemountFaulted fault_count old new
StaysKnown fault_count old (NotAJournal place) new = SameButDisk old new
StaysKnown fault_count old Memory new = IsKnown old new
StaysKnown fault_count old (BadEntry n) new = IsKnown old new
StaysKnown fault_count old (OtherOwner kept) new = IsKnown old new
StaysKnown fault_count old (Changed n) new = IsKnown old new
StaysKnown fault_count old (Spent count) new = ⊥

-- a book that was mounted again: it goes on from the entries that were known
pub record Remounted {D : Type 0} (old new : BookView D) : Type 0 where
  pub begins : BeginsWith new.entries old.entries
  pub reopened : new.spent ≡ None
  pub untried : new.tried ≡ None
  pub forgotten : new.found ≡ None

-- a book that wasn't mounted again has its entries, and the one that was tried
pub record StaysSo {D : Type 0} (old new : BookView D) : Type 0 where
  pub entries : new.entries ≡ old.entries
  pub tried : new.tried ≡ old.tried

-- it is as it was, but for its disk and what was found
pub record StaysAsItWas {D : Type 0} (old new : BookView D) : Type 0 where
  pub stays : StaysSo old new
  pub spent : new.spent ≡ old.spent

-- Each refusal of a remount, with its cause. At 141 and 143 no records were found, so that they can't stand in the place of 151, 152 or
-- 154.
abbrev pub RemountRefused : {D : Type 0} (fault_count : D → ℕ) (old : BookView D) (fault : BookFault) (new : BookView D) → Type 0
RemountRefused fault_count old DiskFault new = StaysSo old new × Rose (fault_count old.disk) (fault_count new.disk) × (new.spent ≡ Some (fault_count new.disk)) × (new.found ≡ None)
RemountRefused fault_count old (NotAJournal place) new = StaysAsItWas old new × (new.found ≡ None)
RemountRefused fault_count old Memory new = StaysAsItWas old new
RemountRefused fault_count old (BadEntry n) new = StaysAsItWas old new
RemountRefused fault_count old (OtherOwner kept) new = StaysAsItWas old new
RemountRefused fault_count old (Changed n) new = StaysAsItWas old new
RemountRefused fault_count old (Spent count) new = ⊥
