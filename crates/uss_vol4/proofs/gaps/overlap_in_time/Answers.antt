use Rattle.std.proofs.Common.{◌≡◌, ℤ, refl, to_z, of_z, rules, SFits, w64}
use Rattle.std.proofs.lemmas.Int.{to_z-of_z}
use Rattle.uss_vol4.proofs.gaps.overlap_in_time.Goals as goal

same : (z : ℤ) → SFits w64 z → to_z w64 (of_z w64 z) ≡ z
same z f = simp to_z-of_z refl

pub returns-clause-overlap : goal.returns-clause-overlap
returns-clause-overlap c =
    let f1 = same c.start.result (search rules) in
    let f2 = same c.later_end.result (search rules) in
    let f3 = same c.start-2.result (search rules) in
    let f4 = same c.later_end-2.result (search rules) in
    let k = rw (f1, f2, f3, f4) at c.overlap.ensures in
    rw (c.start.ensures, c.later_end.ensures.end, c.start-2.ensures, c.later_end-2.ensures.end) at k
