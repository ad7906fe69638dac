use Rattle.std.proofs.Common.{◌≡◌, arith, ℤ, pos, ◌+ℤ◌}
use Rattle.std.specs.Prelude.{◌≤ℤ◌}
use Rattle.std.proofs.lemmas.Int.{ints}
use Rattle.uss_index.proofs.Bits.{next_fits, before_end, past_end}
use Rattle.uss_index.proofs.Rows.{columns_go_on, columns_end, columns_undone}
use Rattle.uss_index.proofs.slots.Slots.enter.Goals as goal
use mir.Syntax.{w64}
use mir.Val.{of_z, to_z}

pub loop-x-preserved : goal.loop-x-preserved
loop-x-preserved c =
    let z : ℤ = to_z w64 c.loop-x.x-bits in
    let o = c.requires.in_order in
    let i = c.loop-x.invariant.from in
    let l : z ≤ℤ c.args.cells.right = before_end z c.args.cells.right (omega (arith, ints)) (omega (arith, ints)) c.loop-x-test.true in
    let n : to_z w64 (of_z w64 (z +ℤ pos 1)) ≡ z +ℤ pos 1 = next_fits z (omega (arith, ints)) (omega (arith, ints)) in
    rw n (columns_go_on _ _ _ _ _ _ _ c.loop-x.invariant c.in-Ok.ensures.ok l)

pub returns-clause-ok : goal.returns-clause-ok
returns-clause-ok c =
    let o = c.requires.in_order in
    let z : ℤ = to_z w64 c.loop-x.x-bits in
    columns_end _ _ _ _ _ _ c.loop-x.invariant (past_end z c.args.cells.right (omega (arith, ints)) (omega (arith, ints)) c.loop-x-test.false)

pub returns-in_default-clause-err : goal.returns-in_default-clause-err
returns-in_default-clause-err c =
    let o = c.requires.in_order in
    let z : ℤ = to_z w64 c.loop-x.x-bits in
    columns_undone _ _ _ _ _ _ _ _ c.requires.absent c.loop-x.invariant c.in_default.ensures.err c.leave.ensures (before_end z c.args.cells.right (omega (arith, ints)) (omega (arith, ints)) c.loop-x-test.true)
