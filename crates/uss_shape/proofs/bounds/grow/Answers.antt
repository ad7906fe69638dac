use Rattle.std.proofs.Common.{rules, ◌≡◌, SFits, w64, refl}
use Rattle.std.specs.Int.{int_min, int_max}
use Rattle.std.proofs.lemmas.Int.{to_z-of_z}
use Rattle.uss_shape.proofs.bounds.grow.Goals as goal

pub returns : goal.returns
returns c =
    let r1 : SFits w64 c.args.r.x1 = search rules in
    let r2 : SFits w64 c.args.r.y1 = search rules in
    let r3 : SFits w64 c.args.r.x2 = search rules in
    let r4 : SFits w64 c.args.r.y2 = search rules in
    let px : SFits w64 c.args.p.x = search rules in
    let py : SFits w64 c.args.p.y = search rules in
    let f1 : SFits w64 c.min.result = search rules in
    let f2 : SFits w64 c.min-2.result = search rules in
    let f3 : SFits w64 c.max.result = search rules in
    let f4 : SFits w64 c.max-2.result = search rules in
    let e1 : c.min.result ≡ int_min c.args.r.x1 c.args.p.x = simp to_z-of_z at c.min.ensures.value in
    let e2 : c.min-2.result ≡ int_min c.args.r.y1 c.args.p.y = simp to_z-of_z at c.min-2.ensures.value in
    let e3 : c.max.result ≡ int_max c.args.r.x2 c.args.p.x = simp to_z-of_z at c.max.ensures.value in
    let e4 : c.max-2.result ≡ int_max c.args.r.y2 c.args.p.y = simp to_z-of_z at c.max-2.ensures.value in
    simp to_z-of_z (rw (e1, e2, e3, e4) refl)
