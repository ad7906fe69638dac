use Rattle.std.proofs.Common.{rules, SFits, w64}
use Rattle.std.proofs.lemmas.Int.{to_z-of_z}
use Rattle.uss_vol4.proofs.Round.{bounds_one}
use Rattle.uss_vol4.proofs.Volume4.bounds.Goals as goal

pub returns-clause-some : goal.returns-clause-some
returns-clause-some c =
    let f1 : SFits w64 c.self.inside.low = search rules in
    let f2 : SFits w64 c.self.inside.high = search rules in
    let f3 : SFits w64 c.self.inside.start = search rules in
    let f4 : SFits w64 c.self.inside.end = search rules in
    simp to_z-of_z (rw c.bounds.ensures.value (bounds_one _ c.self.invariant))
