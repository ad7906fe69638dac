use Rattle.uss_law_exact.proofs.Drains.{drain_is_deliveries, drain_goes_on}
use Rattle.uss_law_exact.proofs.drains_are_deliveries.Goals as goal

pub returns : goal.returns
returns c = record { deliveries = λ e n. drain_is_deliveries n e; goes_on = λ e n. drain_goes_on n e }
