use Rattle.std.specs.Prelude.{refl}
use Rattle.uss_shape.specs.Shape.{bounds_of}
use Rattle.uss_vol4.specs.Bounding.{bounding_box}
use Rattle.uss_intent.specs.Tags.{tag_of, number_of_digits, digits_at_end}
use Rattle.uss_law_dss.specs.Service.{ovn_of, lies_in}
use Rattle.uss_law_dss.proofs.worked_calls.Goals as goal

pub returns : goal.returns
unfolding bounds_of bounding_box tag_of number_of_digits digits_at_end ovn_of lies_in
returns c = refl
