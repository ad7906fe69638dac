use Rattle.std.proofs.Common.{ap, sym, ◌∙◌, arith, ℤ, length}
use Rattle.std.proofs.lemmas.Int.{to_z-of_z}
use Rattle.uss_index.proofs.Columns.{column_start, count_start, counted_here, passed_here, one_less, all_counted}
use Rattle.uss_index.proofs.slots.Slots.count_column.Goals as goal
use mir.Syntax.{w64}
use mir.Val.{SFits, to_z, of_z}

pub loop-slot-init : goal.loop-slot-init
loop-slot-init c =
    let x : ℤ = to_z w64 (of_z w64 c.args.x) in
    let it = column_start c.args.cells x c.args.self.now.boxes.entries _ _ _ _ (c.range-slot-items.ensures.between tt) c.first_slot.ensures c.last_slot.ensures c.into_iter-slot-iterator.ensures.into_iter_gives in
    let fits = c.range-slot-items.ensures.fits in
    let same = ap length c.into_iter-slot-iterator.ensures.into_iter_gives in (
      count_start c.args.cells x c.args.self.now.boxes.entries c.into_iter-slot-iterator.result it,
      omega (arith, fits, same),
    )

pub overflow_add-all : goal.overflow_add-all
overflow_add-all c =
    let h = one_less _ _ _ _ c.in-Some.ensures.steps c.loop-slot.invariant.1 in
    search (arith, h)

pub loop-slot-preserved-then-is_first_common : goal.loop-slot-preserved-then-is_first_common
loop-slot-preserved-then-is_first_common c = (
  counted_here c.args.cells _ _ _ _ _ c.in-Some.ensures.steps (sym c.is_first_common.ensures ∙ c.if-is_first_common.true) c.loop-slot.invariant.0,
  one_less _ _ _ _ c.in-Some.ensures.steps c.loop-slot.invariant.1,
)

pub loop-slot-preserved : goal.loop-slot-preserved
loop-slot-preserved c =
    let h = one_less _ _ _ _ c.in-Some.ensures.steps c.loop-slot.invariant.1 in (
      passed_here c.args.cells _ _ _ _ _ c.in-Some.ensures.steps (sym c.is_first_common.ensures ∙ c.if-is_first_common.false) c.loop-slot.invariant.0,
      omega (arith, h),
    )

pub returns : goal.returns
returns c =
    let f : SFits w64 c.args.x = c.ranges.x in
    let i = simp to_z-of_z at c.loop-slot.invariant.0 in
    all_counted c.args.cells _ _ _ c.in-None.ensures.steps.0 i
