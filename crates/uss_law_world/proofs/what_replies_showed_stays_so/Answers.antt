use Rattle.uss_law_world.proofs.Invariants.{so_now, so_ever}
use Rattle.uss_law_world.proofs.what_replies_showed_stays_so.Goals as goal

pub returns : goal.returns
returns c = record { now = λ table owners moves names free. so_now table owners names moves free; later = λ table owners moves more names free. so_ever table owners names moves more free }
