use Rattle.std.specs.Prelude.{refl}
use Rattle.uss_shape.specs.Shape.{bounds_of}
use Rattle.uss_shape.specs.Overlap.{outlines_meet, region_holds_first, region_holds}
use Rattle.uss_vol4.specs.Bounding.{bounding_box}
use Rattle.uss_vol4.specs.Sharing.{shares, any_shares}
use Rattle.uss_intent.specs.Tags.{tag_of, number_of_digits, digits_at_end}
use Rattle.uss_law_dss.specs.Service.{ovn_of, lies_in}
use Rattle.uss_law_dss.proofs.keyed_calls.Goals as goal

pub returns : goal.returns
unfolding bounds_of outlines_meet region_holds_first region_holds bounding_box shares any_shares tag_of number_of_digits digits_at_end ovn_of lies_in
returns c = refl
