use Rattle.uss_law_world.proofs.EachStep.{each_step_reached}
use Rattle.uss_law_world.proofs.each_step_of_a_script_is_a_move.Goals as goal

pub returns : goal.returns
returns c = λ table owners moves names free step. each_step_reached table owners names moves free step
