-- The part of a journal's file that is kept in memory. This project's own.
use Rattle.std.specs.Prelude.{◌≡◌, ◌-◌, ℕ, List, [], ◌∷◌, ◌++◌, slice_set, vec_len, Option, option_map}
use Rattle.uss_journal.specs.Gates.{records_between}
use Rattle.uss_journal.specs.declared.known.Known.{Known}

-- a record that was staged is known: its gate is open, and the closed gate after it is the last
pub record IsAccepted (old new : Known) : Type 0 where
  pub bytes : new.bytes.items ≡ slice_set old.bytes.items old.last 1
  pub gates : new.gates.items ≡ old.gates.items ++ (vec_len old.bytes - 1) ∷ []
  pub last : new.last ≡ vec_len old.bytes - 1

-- the records of what was read again, if it was
abbrev pub records_found : Option Known → Option (List (List ℕ))
records_found found = option_map (λ (k : Known). records_between k.bytes.items 8 k.gates.items) found
