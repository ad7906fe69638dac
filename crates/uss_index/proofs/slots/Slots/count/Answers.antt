use Rattle.std.proofs.Common.{◌≡◌, arith, rules, ℤ, pos, ◌+ℤ◌}
use Rattle.std.specs.Prelude.{◌≤ℤ◌}
use Rattle.std.proofs.lemmas.Int.{ints, to_z-of_z}
use Rattle.uss_index.proofs.Bits.{next_fits, before_end, past_end}
use Rattle.uss_index.proofs.Columns.{counting_begins, counting_goes_on, counting_ends, counts_are_few}
use Rattle.uss_index.proofs.slots.Slots.count.Goals as goal
use mir.Syntax.{w64}
use mir.Val.{SFits, of_z, to_z}

pub loop-x-init : goal.loop-x-init
loop-x-init c =
    let g : SFits w64 c.args.cells.left = search rules in
    simp to_z-of_z (counting_begins c.args.cells c.args.self.now.boxes.entries c.requires)

pub overflow_add-all : goal.overflow_add-all
overflow_add-all c =
    let few = counts_are_few _ _ _ _ _ c.loop-x.invariant c.count_column-all.ensures in
    let e = c.len.ensures in
    search (arith, few, e)

pub loop-x-preserved : goal.loop-x-preserved
loop-x-preserved c =
    let z : ℤ = to_z w64 c.loop-x.x-bits in
    let o = c.requires in
    let i = c.loop-x.invariant.from in
    let l : z ≤ℤ c.args.cells.right = before_end z c.args.cells.right (omega (arith, ints)) (omega (arith, ints)) c.loop-x-test.true in
    let n : to_z w64 (of_z w64 (z +ℤ pos 1)) ≡ z +ℤ pos 1 = next_fits z (omega (arith, ints)) (omega (arith, ints)) in
    rw n (counting_goes_on _ _ _ _ _ c.loop-x.invariant c.count_column-all.ensures l)

pub returns-clause-value : goal.returns-clause-value
returns-clause-value c =
    let o = c.requires in
    let z : ℤ = to_z w64 c.loop-x.x-bits in
    counting_ends _ _ _ _ c.loop-x.invariant (past_end z c.args.cells.right (omega (arith, ints)) (omega (arith, ints)) c.loop-x-test.false)
