-- What a journal's file stands for: a definition over bytes alone. This project's own format.
--
-- The file begins with the eight bytes USSJ0001 and a gate at place 8. A gate is one byte, closed where it is 0 and open
-- otherwise. After an open gate stands a record: its length in four bytes, the highest first, its bytes, and then the
-- next gate. The records are those reached through open gates. What stands after the first closed gate means nothing.
use Rattle.std.specs.Prelude.{ℕ, suc, zero, ◌+◌, List, [], ◌∷◌, ◌++◌, length, slice_index, slice_range, sum_by, Option, Some, None, Result, Ok, Err, if◌then◌else◌, nat_le, nat_lt, ◌==◌}
use Rattle.std.specs.Int.{w32, from_be_bytes, to_be_bytes}

-- the first eight bytes of a journal: the text USSJ0001
abbrev pub mark : List ℕ
mark = 0x55 ∷ 0x53 ∷ 0x53 ∷ 0x4a ∷ 0x30 ∷ 0x30 ∷ 0x30 ∷ 0x31 ∷ []

-- the most bytes of a journal, up to and with its last gate
abbrev pub limit : ℕ
limit = 536870912

-- a journal of no records
abbrev pub new_journal : List ℕ
new_journal = mark ++ 0 ∷ []

-- the length of the record after the gate at this place
abbrev pub length_at : (file : List ℕ) (gate : ℕ) → ℕ
length_at file gate = from_be_bytes w32 (slice_range file (gate + 1) (gate + 5))

-- the place of the gate after that record
abbrev pub next_gate : (file : List ℕ) (gate : ℕ) → ℕ
next_gate file gate = gate + 5 + length_at file gate

-- the record's bytes
abbrev pub record_at : (file : List ℕ) (gate : ℕ) → List ℕ
record_at file gate = slice_range file (gate + 5) (next_gate file gate)

-- a record before those that were reached
abbrev pub with_first : List ℕ → Result (List (List ℕ)) ℕ → Result (List (List ℕ)) ℕ
with_first first (Ok records) = Ok (first ∷ records)
with_first first (Err place) = Err place

-- The records reached from the gate at this place on, or the place of an open gate whose record runs past the end: the
-- next gate, which belongs to it, isn't in the file. Each step goes five places forward at least, so the file's length
-- is more steps than there are.
abbrev pub reached : (steps : ℕ) (file : List ℕ) (gate : ℕ) → Result (List (List ℕ)) ℕ
reached zero file gate = Err gate
reached (suc steps) file gate =
    if slice_index file gate == 0 then Ok [] else (if nat_lt (next_gate file gate) (length file) then with_first (record_at file gate) (reached steps file (next_gate file gate)) else Err gate)

-- the place of the first byte that differs from those wanted, counted from n; a byte that isn't there differs
abbrev pub first_difference : (n : ℕ) (wanted bytes : List ℕ) → Option ℕ
first_difference n [] bytes = None
first_difference n (w ∷ wanted) [] = Some n
first_difference n (w ∷ wanted) (b ∷ bytes) = if b == w then first_difference (n + 1) wanted bytes else Some n

abbrev pub unless_differs : Option ℕ → Result (List (List ℕ)) ℕ → Result (List (List ℕ)) ℕ
unless_differs None found = found
unless_differs (Some place) found = Err place

-- What a file stands for: the records; or, as an error, the place by which it is no journal. A file of at most nine bytes
-- stands for no records, whatever they are: it is a journal that was being made.
abbrev pub stands_for : List ℕ → Result (List (List ℕ)) ℕ
stands_for file = if nat_le (length file) 9 then Ok [] else unless_differs (first_difference 0 mark file) (reached (length file) file 8)

-- the bytes of a journal of these records, up to and with its last gate
abbrev pub used_of : List (List ℕ) → ℕ
used_of records = 9 + sum_by (λ r. 5 + length r) records

-- records as they are written one after the other, each after its open gate
abbrev pub blocks : List (List ℕ) → List ℕ
blocks [] = []
blocks (r ∷ records) = 1 ∷ to_be_bytes w32 (length r) ++ r ++ blocks records

-- a file that was written record by record, with a closed gate after the last, and whatever stands after that
abbrev pub journal_of : (records : List (List ℕ)) (rest : List ℕ) → List ℕ
journal_of records rest = mark ++ (blocks records ++ 0 ∷ rest)
