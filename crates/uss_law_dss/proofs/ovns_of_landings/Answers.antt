use Rattle.uss_law_dss.proofs.ovns_of_landings.Goals as goal
use Rattle.uss_law_dss.proofs.Ovns.{ovn_is_ovn, ovns_differ, ovn_is_of}

pub returns : goal.returns
returns c = record { written = ovn_is_of; valid = ovn_is_ovn; differ = ovns_differ }
