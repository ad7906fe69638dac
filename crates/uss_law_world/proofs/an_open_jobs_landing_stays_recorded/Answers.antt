use Rattle.uss_law_world.proofs.Headline.{stay_after, got_after}
use Rattle.uss_law_world.proofs.an_open_jobs_landing_stays_recorded.Goals as goal

pub returns : goal.returns
returns c =
    record {
      recorded = λ table owners moves names free. stay_after table owners names moves free;
      got = λ table owners moves names free. got_after table owners names moves free;
    }
