-- The suppliers of a world of so many: supplier s has the number s, the name `uss<s>` and the base URL `http://uss<s>.test`. This
-- project's own.
use Rattle.std.specs.Prelude.{ℕ, List, ◌++◌, map, codes, decimal}
use Rattle.std.specs.List.{range_with_len}
use Rattle.uss_event.specs.declared.entries.Owner.{Owner}

abbrev pub numbered_owner : List ℕ → ℕ → Owner
numbered_owner table s = record { number = s; name = codes "uss" ++ decimal s; base = codes "http://uss" ++ decimal s ++ codes ".test"; table = table }

-- the first so many, from 1 on, with this table of rules
abbrev pub numbered_owners : ℕ → List ℕ → List Owner
numbered_owners n table = map (numbered_owner table) (range_with_len 1 n)
