-- What ties a map of pairs by their number of hearing to a map of these numbers by flight.
use Rattle.std.specs.Prelude.{ℕ, ◌+◌, ◌≡◌, Bool, ◌&&◌, nat_le, List, [], ◌∷◌, Option, Some, None, if◌then◌else◌, true}
use Rattle.std.specs.BTreeMap as tree
use Rattle.std.specs.BTreeMap.{BTreeMap}
use Rattle.std.specs.Map.{values_of}
use Rattle.std.specs.Ordering.{nat_cmp}
use Rattle.uss_event.specs.Pairs.{OperationalIntent}
use Rattle.uss_event.specs.Heard.{is_of}
use Rattle.uss_key.specs.Kept.{may_be_kept}

-- the number of hearing of the flight's pair
abbrev pub number_of : ℕ → List (ℕ × OperationalIntent) → Option ℕ
number_of flight [] = None
number_of flight (e ∷ es) = if is_of flight e.1 then Some e.0 else number_of flight es

-- the numbers ascend from the first number, and are less than the last
abbrev pub are_numbered : ℕ → List (ℕ × OperationalIntent) → ℕ → Bool
are_numbered from [] to = nat_le from to
are_numbered from (e ∷ es) to = nat_le from e.0 && are_numbered (e.0 + 1) es to

-- the maps belong together, and what they hold may be kept
pub record IsStore (numbers : BTreeMap ℕ ℕ) (pairs : BTreeMap ℕ OperationalIntent) (next : ℕ) : Type 0 where
  pub found : (flight : ℕ) → tree.get nat_cmp numbers flight ≡ number_of flight pairs.entries
  pub numbered : are_numbered 0 pairs.entries next ≡ true
  pub kept : may_be_kept (values_of pairs.entries) ≡ true
