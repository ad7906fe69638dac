use Rattle.uss_index.specs.Points.{have_common_point}
use Rattle.uss_index.proofs.Columns.{FoundSoFar}
use Rattle.uss_index.proofs.slots.Slots.gather.Given as goal

abbrev pub invariant-loop-x : goal.invariant-loop-x
invariant-loop-x l = FoundSoFar l.cells l.x (λ e. have_common_point l.q e.1) l.self.boxes.entries l.fn.found.items l.found.items
