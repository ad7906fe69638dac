use Rattle.uss_law_world.proofs.Contested.{given_up_is_free, given_up_replied, given_up_said}
use Rattle.uss_law_world.proofs.the_second_of_two_gives_up.Goals as goal

pub returns : goal.returns
returns c = record { free = given_up_is_free; replies = given_up_replied; said = given_up_said }
