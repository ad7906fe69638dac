use Rattle.uss_law_dss.proofs.indexes_fit.Goals as goal
use Rattle.uss_law_dss.proofs.EachOrderly.{index_fits, landing_fits}

pub returns : goal.returns
returns c = record { tickets = index_fits; landings = landing_fits }
