use Rattle.std.proofs.Common.{rules, arith, SFits, w64}
use Rattle.std.specs.Prelude.{◌≤ℤ◌}
use Rattle.std.proofs.lemmas.Int.{ints, to_z-of_z}
use Rattle.uss_shape.proofs.Sides.{le_is}
use Rattle.uss_vol4.proofs.Volume4.overlaps_in_time.Goals as goal

pub returns : goal.returns
returns c =
    let fs : SFits w64 c.self.inside.end = search rules in
    let fo : SFits w64 c.other.inside.start = search rules in
    let k = le_is c.other.inside.start c.self.inside.end in
    let n : c.self.inside.start ≤ℤ c.other.inside.end = omega (arith, ints) in
    simp to_z-of_z (rw (← c.self.view_is, ← c.other.view_is) (λ h. (n, k.0 h), λ o. k.1 o.1))
