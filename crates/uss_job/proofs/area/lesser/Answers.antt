use Rattle.std.proofs.Common.{rules, ◌≡◌, SFits, w64, refl}
use Rattle.std.specs.Int.{int_min}
use Rattle.std.proofs.lemmas.Int.{to_z-of_z}
use Rattle.uss_job.proofs.area.lesser.Goals as goal

pub returns : goal.returns
returns c =
    let a : SFits w64 c.args.a = search rules in
    let b : SFits w64 c.args.b = search rules in
    let f : SFits w64 c.min.result = search rules in
    let e : c.min.result ≡ int_min c.args.a c.args.b = simp to_z-of_z at c.min.ensures.value in
    simp to_z-of_z (rw e refl)
