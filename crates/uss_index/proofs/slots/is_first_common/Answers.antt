use Rattle.std.proofs.Common.{◌≡◌, true, false, ap, sym, arith, rules}
use Rattle.std.proofs.lemmas.Int.{to_z-of_z}
use Rattle.std.proofs.lemmas.Bool.{and_left}
use Rattle.uss_index.proofs.slots.is_first_common.Goals as goal
use Rattle.std.specs.Int.{int_max}
use Rattle.std.specs.Ordering.{int_eq}
use Rattle.uss_index.specs.Cells.{cells_of}
use Rattle.uss_index.specs.declared.cells.Cells.{Cells}
use Rattle.uss_index.proofs.Bits.{bits_differ, bits_same, bits_answer, same_ints}
use mir.Syntax.{w64}
use mir.Val.{SFits}

pub returns-then-slot-max : goal.returns-then-slot-max
returns-then-slot-max c =
    let own : c.of-own.result.left ≡ (cells_of c.args.b.now).left = ap (λ (c : Cells). c.left) c.of-own.ensures.value in
    let m : c.max.result ≡ int_max c.args.cells.left c.of-own.result.left = grind (arith, to_z-of_z) in
    let d : int_eq c.args.slot.x c.max.result ≡ false = bits_differ c.args.slot.x c.max.result c.if-slot-max.true in
    let e : int_eq c.args.slot.x (int_max c.args.cells.left (cells_of c.args.b.now).left) ≡ false = rw (m, own) at d in
    sym (and_left _ _ e)

pub returns : goal.returns
returns c =
    let own : c.of-own.result.left ≡ (cells_of c.args.b.now).left = ap (λ (c : Cells). c.left) c.of-own.ensures.value in
    let m : c.max.result ≡ int_max c.args.cells.left c.of-own.result.left = grind (arith, to_z-of_z) in
    let own' : c.of-own.result.bottom ≡ (cells_of c.args.b.now).bottom = ap (λ (c : Cells). c.bottom) c.of-own.ensures.value in
    let m' : c.max-2.result ≡ int_max c.args.cells.bottom c.of-own.result.bottom = grind (arith, to_z-of_z) in
    let f : SFits w64 c.args.slot.x = search rules in
    let g : SFits w64 c.max.result = search rules in
    let h : SFits w64 c.args.slot.y = search rules in
    let i : SFits w64 c.max-2.result = search rules in
    let x : int_eq c.args.slot.x c.max.result ≡ true = same_ints _ _ (bits_same _ _ f g c.if-slot-max.false) in
    let x' : int_eq c.args.slot.x (int_max c.args.cells.left (cells_of c.args.b.now).left) ≡ true = rw (m, own) at x in
    rw x' (rw (← own', ← m') (bits_answer c.args.slot.y c.max-2.result h i))
