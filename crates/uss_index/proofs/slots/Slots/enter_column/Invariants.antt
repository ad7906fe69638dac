use Rattle.std.proofs.Common.{Some}
use Rattle.uss_index.proofs.Rows.{ColumnSoFar}
use Rattle.uss_index.proofs.slots.Slots.enter_column.Given as goal

abbrev pub invariant-loop-y : goal.invariant-loop-y
invariant-loop-y l = ColumnSoFar l.id l.fn.cells l.x l.y (Some l.b) l.fn.self.boxes l.self.boxes
