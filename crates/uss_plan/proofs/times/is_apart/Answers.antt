use Rattle.std.proofs.Common.{rules, SFits, w64, inl, inr}
use Rattle.std.proofs.lemmas.Int.{to_z-of_z}
use Rattle.uss_plan.proofs.Apart.{apart_by, less}
use Rattle.uss_plan.proofs.times.is_apart.Goals as goal

pub returns-then-reference-t : goal.returns-then-reference-t
returns-then-reference-t c =
    let r = c.reference-reference.result.now in
    let a : SFits w64 c.args.t.start = search rules in
    let b : SFits w64 r.end = search rules in
    simp to_z-of_z (λ h. apart_by c.args.t r c.args.pair.now c.reference-reference.ensures.value c.reference-reference.ensures.valid (inl (less r.end c.args.t.start h)))

pub returns-else-reference-t : goal.returns-else-reference-t
returns-else-reference-t c =
    let r = c.reference-reference.result.now in
    let a : SFits w64 c.args.t.end = search rules in
    let b : SFits w64 r.start = search rules in
    simp to_z-of_z (λ h. apart_by c.args.t r c.args.pair.now c.reference-reference.ensures.value c.reference-reference.ensures.valid (inr (less c.args.t.end r.start h)))
