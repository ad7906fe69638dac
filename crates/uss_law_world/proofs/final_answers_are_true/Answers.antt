use Rattle.uss_law_world.proofs.Headline.{true_now, true_ever}
use Rattle.uss_law_world.proofs.final_answers_are_true.Goals as goal

pub returns : goal.returns
returns c = record { now = λ table owners moves names free. true_now table owners names moves free; later = λ table owners moves more names free. true_ever table owners names moves more free }
