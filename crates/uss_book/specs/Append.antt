-- What comes of an append of a record that fits to a journal that isn't spent. This project's own.
use Rattle.std.specs.Prelude.{◌≡◌, ℕ, List}
use Rattle.uss_journal.specs.Journal.{JournalView}
use Rattle.uss_journal.specs.Refusal.{Appended, AppendFaulted}
use Rattle.uss_journal.specs.declared.refusal.JournalRefusal.{JournalRefusal}
use Rattle.uss_journal.specs.declared.refusal.JournalRefusal.TheVariants.{DiskFault, JournalFull, NotAJournal, Spent, Memory}
use Rattle.uss_book.specs.declared.append.AppendOutcome.{AppendOutcome}
use Rattle.uss_book.specs.declared.append.AppendOutcome.TheVariants.{Done, Faulted, NoMemory}

abbrev pub Came : {D : Type 0} (fault_count : D → ℕ) (old : JournalView D) (bytes : List ℕ) → AppendOutcome → (new : JournalView D) → Type 0
Came fault_count old bytes Done new = Appended old bytes new
Came fault_count old bytes Faulted new = AppendFaulted fault_count old bytes new
Came fault_count old bytes NoMemory new = new ≡ old

-- a fact that holds where it was done
abbrev pub OnDone : AppendOutcome → Type 0 → Type 0
OnDone Done P = P
OnDone Faulted P = Unit {0}
OnDone NoMemory P = Unit {0}

-- a journal that isn't spent answers one of these to a record that fits
abbrev pub IsRefusalThatFits : JournalRefusal → Type 0
IsRefusalThatFits DiskFault = Unit {0}
IsRefusalThatFits Memory = Unit {0}
IsRefusalThatFits JournalFull = ⊥
IsRefusalThatFits (NotAJournal place) = ⊥
IsRefusalThatFits (Spent count) = ⊥

abbrev pub outcome_of : JournalRefusal → AppendOutcome
outcome_of DiskFault = Faulted
outcome_of Memory = NoMemory
outcome_of JournalFull = NoMemory
outcome_of (NotAJournal place) = NoMemory
outcome_of (Spent count) = NoMemory
