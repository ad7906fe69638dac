-- What a journal is seen as, and what a crash may leave of it. This project's own.
use Rattle.std.specs.Prelude.{◌≡◌, ◌⊎◌, ℕ, ◌+◌, ◌-◌, List, [], ◌∷◌, ◌++◌, length, Option, IsSomeAnd, Ok, nat_le, if◌then◌else◌}
use Rattle.std.specs.Int.{w32, to_be_bytes}
use Rattle.uss_disk.specs.Disk.{written, Torn}
use Rattle.uss_journal.specs.Format.{stands_for, new_journal}

-- a journal: its disk; its records, the oldest first; where it is spent, its disk's count of faults when it last
-- answered a fault; and then the record that it had tried to append, if it had tried one; and the records that it last
-- found when it read its file again, where it hasn't taken them over and hasn't appended since
pub record JournalView (D : Type 0) : Type 0 where
  pub disk : D
  pub records : List (List ℕ)
  pub spent : Option ℕ
  pub tried : Option (List ℕ)
  pub found : Option (List (List ℕ))

-- the file stands for these records
abbrev pub StandsFor : (records : List (List ℕ)) (file : List ℕ) → Type 0
StandsFor records file = stands_for file ≡ Ok records

-- the file stands for these records, or for these with the tried one in whole
abbrev pub WithOrWithout : (records : List (List ℕ)) (tried : Option (List ℕ)) (file : List ℕ) → Type 0
WithOrWithout records tried file = StandsFor records file ⊎ IsSomeAnd tried (λ entry. StandsFor (records ++ entry ∷ []) file)

-- what is written after the last gate for a record: its length, its bytes and a closed gate
abbrev pub staged_of : List ℕ → List ℕ
staged_of entry = to_be_bytes w32 (length entry) ++ entry ++ 0 ∷ []

-- what a crash may leave of a file while bytes are written after a gate, synced, and the gate is then opened and synced
abbrev pub IsStaged : (gate : ℕ) (staged file image : List ℕ) → Type 0
IsStaged gate staged file image = Torn (gate + 1) (length staged) file image ⊎ Torn gate 1 (written (gate + 1) staged file) image

-- the file of a journal of so many bytes, after a record was appended
abbrev pub with_appended : (used : ℕ) (entry file : List ℕ) → List ℕ
with_appended used entry file = written (used - 1) (1 ∷ []) (written used (staged_of entry) file)

-- the file after a mount: one of at most nine bytes is made a new, empty journal
abbrev pub mounted : List ℕ → List ℕ
mounted file = if nat_le (length file) 9 then new_journal else file
