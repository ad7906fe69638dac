-- All that the worked runs compute with: whoever unfolds this unfolds it all.
use Rattle.uss_law_dss.specs.Service.{ovn_of, lies_in}
use Rattle.uss_law_duty.specs.Answers.{job_of_request}
use Rattle.uss_law_supplier.proofs.Computed.{computed as steps_computed}
use Rattle.uss_law_world.specs.World.{supplier_in}

unfoldable pub computed : Unit {0}
unfolding steps_computed ovn_of lies_in job_of_request supplier_in
computed = tt
