use Rattle.std.proofs.Common.{Some}
use Rattle.uss_index.proofs.Rows.{ColumnsSoFar}
use Rattle.uss_index.proofs.slots.Slots.enter.Given as goal

abbrev pub invariant-loop-x : goal.invariant-loop-x
invariant-loop-x l = ColumnsSoFar l.id l.cells l.x (Some l.b) l.fn.self.boxes l.self.boxes
