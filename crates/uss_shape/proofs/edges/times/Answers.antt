use Rattle.std.proofs.Common.{◌*ℤ◌, SFits, lit<}
use Rattle.std.proofs.lemmas.Int.{to_z-of_z, fits_signed_mul, unsigned_abs-mul}
use Rattle.std.proofs.Math.Nat.{mul-le-mul}
use mir.Syntax.{w128}
use Rattle.uss_shape.proofs.edges.times.Goals as goal

pub returns-clause-value : goal.returns-clause-value
returns-clause-value c =
    let fa = c.ranges.a in
    let fb = c.ranges.b in
    let fits : SFits w128 (c.args.a *ℤ c.args.b) = fits_signed_mul w128 c.args.a c.args.b 3600000000 18446744073709551616 c.requires.a_in c.requires.b_in (lit< tt) in
    simp to_z-of_z

pub returns-clause-small : goal.returns-clause-small
returns-clause-small c =
    let fa = c.ranges.a in
    let fb = c.ranges.b in
    let fits : SFits w128 (c.args.a *ℤ c.args.b) = fits_signed_mul w128 c.args.a c.args.b 3600000000 18446744073709551616 c.requires.a_in c.requires.b_in (lit< tt) in
    simp (to_z-of_z, unsigned_abs-mul) (mul-le-mul c.requires.a_in c.requires.b_in)
