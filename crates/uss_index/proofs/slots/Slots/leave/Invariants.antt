use Rattle.std.proofs.Common.{None}
use Rattle.uss_index.proofs.Rows.{ColumnsSoFar}
use Rattle.uss_index.proofs.slots.Slots.leave.Given as goal

abbrev pub invariant-loop-x : goal.invariant-loop-x
invariant-loop-x l = ColumnsSoFar l.id l.cells l.x None l.fn.self.boxes l.self.boxes
