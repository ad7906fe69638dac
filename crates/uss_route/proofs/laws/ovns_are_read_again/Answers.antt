use Rattle.uss_route.proofs.OvnSteps.{ovn_again, segment_parameter, segment_bytes}
use Rattle.uss_route.proofs.laws.ovns_are_read_again.Goals as goal

pub returns-clause-again : goal.returns-clause-again
returns-clause-again c = ovn_again

pub returns-clause-parameter : goal.returns-clause-parameter
returns-clause-parameter c = segment_parameter

pub returns-clause-bytes : goal.returns-clause-bytes
returns-clause-bytes c = segment_bytes
