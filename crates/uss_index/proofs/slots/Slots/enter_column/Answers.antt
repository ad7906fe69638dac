use Rattle.std.proofs.Common.{◌≡◌, arith, rules, ℤ, pos, ◌+ℤ◌}
use Rattle.std.specs.Prelude.{◌≤ℤ◌}
use Rattle.std.proofs.lemmas.Int.{ints, to_z-of_z}
use Rattle.uss_index.proofs.Bits.{next_fits, before_end, past_end}
use Rattle.uss_index.proofs.Rows.{column_begins, column_goes_on, column_ends, column_breaks}
use Rattle.uss_index.proofs.slots.Slots.enter_column.Goals as goal
use mir.Syntax.{w64}
use mir.Val.{SFits, of_z, to_z}

pub loop-y-init : goal.loop-y-init
loop-y-init c =
    let f : SFits w64 c.args.x = c.ranges.x in
    let g : SFits w64 c.args.cells.bottom = search rules in
    simp to_z-of_z (column_begins _ _ _ _ _ c.requires)

pub loop-y-preserved : goal.loop-y-preserved
loop-y-preserved c =
    let z : ℤ = to_z w64 c.loop-y.y-bits in
    let o = c.requires in
    let i = c.loop-y.invariant.from in
    let l : z ≤ℤ c.args.cells.top = before_end z c.args.cells.top (omega (arith, ints)) (omega (arith, ints)) c.loop-y-test.true in
    let n : to_z w64 (of_z w64 (z +ℤ pos 1)) ≡ z +ℤ pos 1 = next_fits z (omega (arith, ints)) (omega (arith, ints)) in
    rw n (column_goes_on _ _ _ _ _ _ _ _ c.loop-y.invariant c.in-Ok.ensures.updates.0 l)

pub returns-clause-ok : goal.returns-clause-ok
returns-clause-ok c =
    let o = c.requires in
    let z : ℤ = to_z w64 c.loop-y.y-bits in
    let f : SFits w64 c.args.x = c.ranges.x in
    let s = simp to_z-of_z at c.loop-y.invariant in
    column_ends _ _ _ _ _ _ _ s (past_end z c.args.cells.top (omega (arith, ints)) (omega (arith, ints)) c.loop-y-test.false)

pub returns-in_default-clause-err : goal.returns-in_default-clause-err
returns-in_default-clause-err c =
    let o = c.requires in
    let z : ℤ = to_z w64 c.loop-y.y-bits in
    let f : SFits w64 c.args.x = c.ranges.x in
    let s = simp to_z-of_z at c.loop-y.invariant in
    column_breaks _ _ _ _ _ _ _ _ s c.in_default.ensures.err (before_end z c.args.cells.top (omega (arith, ints)) (omega (arith, ints)) c.loop-y-test.true)
