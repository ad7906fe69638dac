use Rattle.uss_index.proofs.Columns.{CountedSoFar}
use Rattle.uss_index.proofs.slots.Slots.count.Given as goal

abbrev pub invariant-loop-x : goal.invariant-loop-x
invariant-loop-x l = CountedSoFar l.cells l.x l.all l.self.boxes.entries
