use Rattle.std.proofs.Common.{rules, ◌≡◌, SFits, w64, refl}
use Rattle.std.specs.Int.{int_min, int_max}
use Rattle.std.proofs.lemmas.Int.{to_z-of_z}
use Rattle.uss_job.proofs.area.joined_rect.Goals as goal

pub returns : goal.returns
returns c =
    let a1 : SFits w64 c.args.r.x1 = search rules in
    let a2 : SFits w64 c.args.r.y1 = search rules in
    let a3 : SFits w64 c.args.r.x2 = search rules in
    let a4 : SFits w64 c.args.r.y2 = search rules in
    let a5 : SFits w64 c.args.s.x1 = search rules in
    let a6 : SFits w64 c.args.s.y1 = search rules in
    let a7 : SFits w64 c.args.s.x2 = search rules in
    let a8 : SFits w64 c.args.s.y2 = search rules in
    let f1 : SFits w64 c.lesser.result = search rules in
    let f2 : SFits w64 c.lesser-2.result = search rules in
    let f3 : SFits w64 c.greater.result = search rules in
    let f4 : SFits w64 c.greater-2.result = search rules in
    let e1 : c.lesser.result ≡ int_min c.args.r.x1 c.args.s.x1 = simp to_z-of_z at c.lesser.ensures in
    let e2 : c.lesser-2.result ≡ int_min c.args.r.y1 c.args.s.y1 = simp to_z-of_z at c.lesser-2.ensures in
    let e3 : c.greater.result ≡ int_max c.args.r.x2 c.args.s.x2 = simp to_z-of_z at c.greater.ensures in
    let e4 : c.greater-2.result ≡ int_max c.args.r.y2 c.args.s.y2 = simp to_z-of_z at c.greater-2.ensures in
    simp to_z-of_z (rw (e1, e2, e3, e4) refl)
