use Rattle.uss_law_dss.proofs.Growing.{grows, flights_stay_removed, tickets_stay_removed}
use Rattle.uss_law_dss.proofs.what_was_removed_stays_removed.Goals as goal

pub returns : goal.returns
returns c = record { grows = grows; flights = flights_stay_removed; tickets = tickets_stay_removed }
