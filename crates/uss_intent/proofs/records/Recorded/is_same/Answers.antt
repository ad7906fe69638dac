use Rattle.std.proofs.lemmas.Bool.Decides.{Decides-at}
use Rattle.uss_intent.specs.SameLaws.{recorded_is_same}
use Rattle.uss_intent.proofs.records.Recorded.is_same.Goals as goal

pub returns : goal.returns
returns c = Decides-at _ _ c.eq.ensures (recorded_is_same c.args.self.now c.args.other.now)
