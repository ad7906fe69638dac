use Rattle.std.proofs.Common.{None}
use Rattle.uss_index.proofs.Rows.{ColumnSoFar}
use Rattle.uss_index.proofs.slots.Slots.leave_column.Given as goal

abbrev pub invariant-loop-y : goal.invariant-loop-y
invariant-loop-y l = ColumnSoFar l.id l.fn.cells l.x l.y None l.fn.self.boxes l.self.boxes
