use Rattle.std.proofs.Common.{◌∙◌, arith}
use Rattle.uss_text.proofs.Places.{put_behind, no_room}
use Rattle.uss_text.proofs.volumes.keep.Goals as goal

pub returns-in_ok-push-clause-ok : goal.returns-in_ok-push-clause-ok
returns-in_ok-push-clause-ok c = c.in_ok-push.ensures.items ∙ put_behind c.args.places.now.items c.args.found (omega arith)

pub returns-else-len-lt-KEPT-clause-ok : goal.returns-else-len-lt-KEPT-clause-ok
returns-else-len-lt-KEPT-clause-ok c = no_room c.args.places.now.items c.args.found (omega (arith, c.args.places.now.ok.0))
