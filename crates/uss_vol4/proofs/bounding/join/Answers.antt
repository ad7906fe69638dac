use Rattle.std.proofs.Common.{rules, ◌≡◌, SFits, w64, refl}
use Rattle.std.specs.Int.{int_min, int_max}
use Rattle.std.proofs.lemmas.Int.{to_z-of_z}
use Rattle.uss_vol4.proofs.bounding.join.Goals as goal

pub returns : goal.returns
returns c =
    let a1 : SFits w64 c.args.a.low = search rules in
    let a2 : SFits w64 c.args.a.high = search rules in
    let a3 : SFits w64 c.args.a.start = search rules in
    let a4 : SFits w64 c.args.a.end = search rules in
    let b1 : SFits w64 c.args.b.low = search rules in
    let b2 : SFits w64 c.args.b.high = search rules in
    let b3 : SFits w64 c.args.b.start = search rules in
    let b4 : SFits w64 c.args.b.end = search rules in
    let f1 : SFits w64 c.min.result = search rules in
    let f2 : SFits w64 c.min-2.result = search rules in
    let f3 : SFits w64 c.max.result = search rules in
    let f4 : SFits w64 c.max-2.result = search rules in
    let e1 : c.min.result ≡ int_min c.args.a.low c.args.b.low = simp to_z-of_z at c.min.ensures.value in
    let e2 : c.min-2.result ≡ int_min c.args.a.start c.args.b.start = simp to_z-of_z at c.min-2.ensures.value in
    let e3 : c.max.result ≡ int_max c.args.a.high c.args.b.high = simp to_z-of_z at c.max.ensures.value in
    let e4 : c.max-2.result ≡ int_max c.args.a.end c.args.b.end = simp to_z-of_z at c.max-2.ensures.value in
    simp to_z-of_z (rw (c.join_rect.ensures, e1, e2, e3, e4) refl)
