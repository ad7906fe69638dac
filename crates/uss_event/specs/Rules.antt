-- Which priorities a table of rules lists. That conflict of equal priorities is allowed or forbidden by priority is after ASTM
-- F3548-21; the table and its limits are this project's own.
use Rattle.std.specs.Prelude.{ℕ, Bool, true, ◌&&◌, nat_lt, nat_le, List, [], ◌∷◌, Option, Some, None, IsTrue, if◌then◌else◌}
use Rattle.std.specs.List.{list_all}

-- the first is less than the list's first
abbrev pub is_below : ℕ → List ℕ → Bool
is_below n [] = true
is_below n (m ∷ ms) = nat_lt n m

-- each is less than the next
abbrev pub ascend : List ℕ → Bool
ascend [] = true
ascend (n ∷ ns) = is_below n ns && ascend ns

-- the greatest priority
abbrev pub greatest_priority : ℕ
greatest_priority = 1000

-- the priority is beyond the limit
abbrev pub is_too_great : ℕ → Bool
is_too_great priority = nat_lt greatest_priority priority

-- each is within the limit
abbrev pub are_in_range : List ℕ → Bool
are_in_range list = list_all (λ p. nat_le p greatest_priority) list

-- a table of rules: priorities from 0 to 1000, ascending, each once
abbrev pub is_table : List ℕ → Bool
is_table list = ascend list && are_in_range list

abbrev pub IsTable : List ℕ → Type 0
IsTable list = IsTrue (is_table list)

-- the table that is this list, where the list is one
abbrev pub table_from : List ℕ → Option (List ℕ)
table_from list = if is_table list then Some list else None
