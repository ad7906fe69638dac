use Rattle.std.proofs.Common.{rules}
use Rattle.uss_wire_base.proofs.InstantTexts.{shown_is}
use Rattle.uss_wire_base.proofs.instants.shown_text.Goals as goal

pub returns : goal.returns
returns c = rw (shown_is c.args.shown c.requires) (search rules)
