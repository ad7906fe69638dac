-- What a cache of heard pairs is seen as. Which pairs it keeps is defined with the duties of a supplier (what was heard). This
-- project's own.
use Rattle.std.specs.Prelude.{ℕ, Bool, true, false, not, ◌&&◌, nat_le, nat_lt, List, [], ◌∷◌, length, Option, Some, None, if◌then◌else◌}
use Rattle.std.specs.List.{list_any}
use Rattle.uss_event.specs.Pairs.{OperationalIntent}
use Rattle.uss_event.specs.Heard.{most_kept, is_of, without, with_room}

-- the kept pairs, the one that was heard longest ago first, and for how many more there is room without further memory
pub record Kept : Type 0 where
  pub pairs : List OperationalIntent
  pub spare : ℕ

-- no two are of one flight
abbrev pub are_of_different_flights : List OperationalIntent → Bool
are_of_different_flights [] = true
are_of_different_flights (p ∷ ps) = not (list_any (is_of p.reference.flight) ps) && are_of_different_flights ps

-- what a cache may keep: at most so many pairs, no two of one flight
abbrev pub may_be_kept : List OperationalIntent → Bool
may_be_kept pairs = nat_le (length pairs) most_kept && are_of_different_flights pairs

-- what is left once there is room for a pair of this flight
abbrev pub room_for : ℕ → List OperationalIntent → List OperationalIntent
room_for flight pairs = if list_any (is_of flight) pairs then without flight pairs else with_room pairs

-- the pair is older than the kept one of its flight
abbrev pub is_older : OperationalIntent → Option OperationalIntent → Bool
is_older p None = false
is_older p (Some old) = nat_lt p.reference.version old.reference.version

-- the flight of the first, where there is no room for one more
abbrev pub first_without_room : List OperationalIntent → Option ℕ
first_without_room [] = None
first_without_room (p ∷ ps) = if nat_le most_kept (length (p ∷ ps)) then Some p.reference.flight else None

-- the flight that is forgotten where a pair of this flight is heard
abbrev pub forgotten_for : ℕ → List OperationalIntent → Option ℕ
forgotten_for flight pairs = if list_any (is_of flight) pairs then None else first_without_room pairs
