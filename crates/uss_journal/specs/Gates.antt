-- The gates of a journal, as the part of its file that is kept in memory has them. This project's own.
use Rattle.std.specs.Prelude.{◌≡◌, ◌≢◌, ℕ, ◌+◌, ◌-◌, ◌<◌, List, [], ◌∷◌, length, take, slice_index, slice_range, Option, Some, None, nat_lt, if◌then◌else◌}
use Rattle.uss_journal.specs.Format.{mark, next_gate}

-- From this gate on, open gates lead to these, each in the file.
abbrev pub Reaches : (file : List ℕ) (gate : ℕ) (gates : List ℕ) → Type 0
Reaches file gate [] = gate < length file
Reaches file gate (next ∷ gates) = (slice_index file gate ≢ 0) × (next ≡ next_gate file gate) × Reaches file next gates

-- the last of them
abbrev pub last_gate : (gate : ℕ) (gates : List ℕ) → ℕ
last_gate gate [] = gate
last_gate gate (next ∷ gates) = last_gate next gates

-- the records between them
abbrev pub records_between : (file : List ℕ) (gate : ℕ) (gates : List ℕ) → List (List ℕ)
records_between file gate [] = []
records_between file gate (next ∷ gates) = slice_range file (gate + 5) next ∷ records_between file next gates

-- a journal's gates in a file, with the last one, which is closed
pub record Gated (file gates : List ℕ) (gate : ℕ) : Type 0 where
  pub marked : take 8 file ≡ mark
  pub reaches : Reaches file 8 gates
  pub is_last : gate ≡ last_gate 8 gates
  pub closed : slice_index file gate ≡ 0

-- the record that was tried after the last gate, if one was
abbrev pub tried_of : (bytes : List ℕ) (gate : ℕ) → Option (List ℕ)
tried_of bytes gate = if nat_lt (gate + 1) (length bytes) then Some (slice_range bytes (gate + 5) (length bytes - 1)) else None

-- a journal's gates in a file, as far as they were followed: with the last one, which is open or closed
pub record Leads (file gates : List ℕ) (gate : ℕ) : Type 0 where
  pub marked : take 8 file ≡ mark
  pub reaches : Reaches file 8 gates
  pub is_last : gate ≡ last_gate 8 gates
