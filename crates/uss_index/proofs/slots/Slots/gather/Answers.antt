use Rattle.std.proofs.Common.{◌≡◌, arith, rules, ℤ, pos, ◌+ℤ◌}
use Rattle.std.specs.Prelude.{◌≤ℤ◌}
use Rattle.std.proofs.lemmas.Int.{ints, to_z-of_z}
use Rattle.uss_index.specs.Points.{have_common_point}
use Rattle.uss_index.proofs.Bits.{next_fits, before_end, past_end}
use Rattle.uss_index.proofs.Columns.{finding_begins, finding_goes_on, finding_ends}
use Rattle.uss_index.proofs.slots.Slots.gather.Goals as goal
use mir.Syntax.{w64}
use mir.Val.{SFits, of_z, to_z}

pub loop-x-init : goal.loop-x-init
loop-x-init c =
    let g : SFits w64 c.args.cells.left = search rules in
    simp to_z-of_z (finding_begins c.args.cells (λ e. have_common_point c.args.q.now e.1) c.args.self.now.boxes.entries c.args.found.now.items c.requires)

pub loop-x-preserved : goal.loop-x-preserved
loop-x-preserved c =
    let z : ℤ = to_z w64 c.loop-x.x-bits in
    let o = c.requires in
    let i = c.loop-x.invariant.from in
    let l : z ≤ℤ c.args.cells.right = before_end z c.args.cells.right (omega (arith, ints)) (omega (arith, ints)) c.loop-x-test.true in
    let n : to_z w64 (of_z w64 (z +ℤ pos 1)) ≡ z +ℤ pos 1 = next_fits z (omega (arith, ints)) (omega (arith, ints)) in
    rw n (finding_goes_on _ _ (λ e. have_common_point c.args.q.now e.1) _ _ _ _ c.loop-x.invariant c.in_ok-gather_column.ensures l)

pub returns-clause-found : goal.returns-clause-found
returns-clause-found c =
    let o = c.requires in
    let z : ℤ = to_z w64 c.loop-x.x-bits in
    finding_ends _ _ (λ e. have_common_point c.args.q.now e.1) _ _ _ c.loop-x.invariant (past_end z c.args.cells.right (omega (arith, ints)) (omega (arith, ints)) c.loop-x-test.false)
