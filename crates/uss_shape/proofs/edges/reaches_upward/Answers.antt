use Rattle.std.proofs.Common.{rules, ◌≡◌, SFits, w64}
use Rattle.std.specs.Int.{int_min, int_max}
use Rattle.std.proofs.lemmas.Int.{to_z-of_z}
use Rattle.uss_shape.proofs.Sides.{le_is}
use Rattle.uss_shape.proofs.edges.reaches_upward.Goals as goal

pub returns : goal.returns
returns c =
    let fa : SFits w64 c.args.a.y = search rules in
    let fb : SFits w64 c.args.b.y = search rules in
    let fp : SFits w64 c.args.p.y = search rules in
    let fq : SFits w64 c.args.q.y = search rules in
    let fl : SFits w64 c.min-low.result = search rules in
    let fh : SFits w64 c.max-high.result = search rules in
    let low : c.min-low.result ≡ int_min c.args.a.y c.args.b.y = simp to_z-of_z at c.min-low.ensures.value in
    let high : c.max-high.result ≡ int_max c.args.p.y c.args.q.y = simp to_z-of_z at c.max-high.ensures.value in
    simp to_z-of_z (rw (← low, ← high) (le_is c.min-low.result c.max-high.result))
