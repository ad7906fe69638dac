use Rattle.std.proofs.Common.{◌≡◌}
use Rattle.std.specs.Prelude.{map}
use Rattle.uss_wire_dss.specs.ChangesAndErrors.{flatten, owed_by}
use Rattle.uss_wire_dss.proofs.changes.flattened.Given as goal

abbrev pub invariant-loop-one : goal.invariant-loop-one
invariant-loop-one l = l.all ≡ flatten (map owed_by l.yielded)
