use Rattle.uss_law_dss.proofs.Private.{own_ovn, others_ovn}
use Rattle.uss_law_dss.proofs.ovns_are_shown_to_their_managers.Goals as goal

pub returns : goal.returns
returns c = record { own = own_ovn; others = others_ovn }
