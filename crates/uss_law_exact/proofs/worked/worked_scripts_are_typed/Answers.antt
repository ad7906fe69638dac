use Rattle.uss_law_exact.proofs.WorkedScripts.{one_alone, two_together, found_again_is_typed, cancelled_early_is_typed, watched_is_typed, ended_is_typed, failed_is_typed, stopped_twice_is_typed, answered_twice_is_typed, both_put_is_typed, given_up_is_typed, notifying_is_typed, both_asked_is_typed, whole_life_is_typed}
use Rattle.uss_law_exact.proofs.worked.worked_scripts_are_typed.Goals as goal

pub returns : goal.returns
returns c =
    record {
      one = one_alone;
      two = two_together;
      found_again = found_again_is_typed;
      cancelled_early = cancelled_early_is_typed;
      watched = watched_is_typed;
      ended = ended_is_typed;
      failed = failed_is_typed;
      stopped_twice = stopped_twice_is_typed;
      answered_twice = answered_twice_is_typed;
      both_put = both_put_is_typed;
      given_up = given_up_is_typed;
      notifying = notifying_is_typed;
      both_asked = both_asked_is_typed;
      whole_life = whole_life_is_typed;
    }
