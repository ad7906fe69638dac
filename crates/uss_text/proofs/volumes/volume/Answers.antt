use Rattle.std.proofs.Common.{rules}
use Rattle.uss_text.proofs.Places.{volume_kept}
use Rattle.uss_text.proofs.volumes.volume.Goals as goal

pub returns-in_err-vertices : goal.returns-in_err-vertices
returns-in_err-vertices c = rw (← volume_kept c.args.words.now) (search rules)

pub returns : goal.returns
returns c = rw (← volume_kept c.args.words.now) (search rules)
