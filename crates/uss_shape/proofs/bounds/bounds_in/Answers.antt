use Rattle.std.proofs.Common.{◌∙◌}
use Rattle.uss_shape.proofs.Walk.{origin}
use Rattle.uss_shape.proofs.Extreme.{bounds_is}
use Rattle.uss_shape.proofs.bounds.bounds_in.Goals as goal

pub returns : goal.returns
returns c = c.bounds_from.ensures.value ∙ bounds_is c.args.vertices.now origin c.requires
