-- What the service keeps beside its state: the boxes of its references and of its tickets.
use Rattle.std.specs.Prelude.{◌≡◌, ℕ, ◌+◌, ◌<◌, length, Some}
use Rattle.uss_law_dss.specs.Service.{Service}
use Rattle.uss_law_dss.specs.Orderly.{IsOrderly}
use Rattle.uss_dss.specs.declared.located.Located.{Located}
use Rattle.uss_dss.specs.Grid.{last_number}
use Rattle.uss_dss.specs.Located.{number_of, extents_in, area_in, IsLocated}

pub record IsKept (s : Service) (reference_boxes ticket_boxes : Located) : Type 0 where
  pub orderly : IsOrderly s
  pub references : IsLocated (extents_in s.references) reference_boxes
  -- a reference has the number of its flight's last landing
  pub last : (flight n : ℕ) → number_of flight reference_boxes ≡ Some n → n ≡ last_number flight s.landings
  pub tickets : IsLocated (area_in s.tickets) ticket_boxes
  -- the numbers that tickets have had are less than how many tickets were made
  pub below : (id n : ℕ) → number_of id ticket_boxes ≡ Some n → n < length s.tickets + length s.retired_tickets
