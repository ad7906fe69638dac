use Rattle.std.proofs.Common.{rules, SFits, refl}
use Rattle.std.proofs.lemmas.Int.{to_z-of_z}
use mir.Syntax.{w128}
use Rattle.uss_shape.proofs.Sides.{straddle_lt, straddle_gt, straddle_eq}
use Rattle.uss_shape.proofs.edges.straddles.Goals as goal

pub returns-then-s-lt0 : goal.returns-then-s-lt0
returns-then-s-lt0 c =
    let fs : SFits w128 c.turn-s.result = search rules in
    let ft : SFits w128 c.turn-t.result = search rules in
    let h = simp to_z-of_z at c.if-s-lt0.true in
    simp to_z-of_z (rw (← c.turn-s.ensures, ← c.turn-t.ensures) (straddle_lt c.turn-s.result c.turn-t.result h))

pub returns-then-s-gt0 : goal.returns-then-s-gt0
returns-then-s-gt0 c =
    let fs : SFits w128 c.turn-s.result = search rules in
    let ft : SFits w128 c.turn-t.result = search rules in
    let h = simp to_z-of_z at c.if-s-gt0.true in
    simp to_z-of_z (rw (← c.turn-s.ensures, ← c.turn-t.ensures) (straddle_gt c.turn-s.result c.turn-t.result h))

pub returns : goal.returns
returns c =
    let fs : SFits w128 c.turn-s.result = search rules in
    let h = simp to_z-of_z at c.if-s-gt0.false in
    let k = simp to_z-of_z at c.if-s-lt0.false in
    (λ _. rw (← c.turn-s.ensures, ← c.turn-t.ensures) (straddle_eq c.turn-s.result c.turn-t.result k h), λ _. refl)
