-- What only grows, whatever is called; and what the OVN of a landing is.
use Rattle.std.specs.Prelude.{ℕ, ◌≡◌, true, List, ◌++◌, length, codes}
use Rattle.std.specs.Str.{all_ascii_digits}
use Rattle.std.specs.Str.Parse.{digits_value}
use Rattle.uss_law_dss.specs.Service.{Service}

-- the second list is the first with more after it
abbrev pub GoesOn : {X : Type 0} → List X → List X → Type 0
GoesOn {X} xs ys = (more : List X) × (ys ≡ xs ++ more)

-- the history and the lists of what was removed go on
pub record Grows (before after : Service) : Type 0 where
  pub landings : GoesOn before.landings after.landings
  pub retired_flights : GoesOn before.retired_flights after.retired_flights
  pub retired_tickets : GoesOn before.retired_tickets after.retired_tickets

-- `ovn-` and the number in 16 decimal digits
pub record IsOvnOf (n : ℕ) (ovn : List ℕ) : Type 0 where
  pub digits : List ℕ
  pub is : ovn ≡ codes "ovn-" ++ digits
  pub sixteen : length digits ≡ 16
  pub decimal : all_ascii_digits digits ≡ true
  pub number : digits_value 10 digits ≡ n
