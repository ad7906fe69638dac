use Rattle.std.proofs.Common.{◌≡◌, ◌++◌, take}
use Rattle.std.specs.Prelude.{map}
use Rattle.uss_wire_dss.specs.ChangesAndErrors.{notified_by}
use Rattle.uss_wire_dss.proofs.changes.append.Given as goal

abbrev pub invariant-loop-notified : goal.invariant-loop-notified
invariant-loop-notified l = l.all ≡ l.initial.all ++ map (notified_by l.one.base) (take l.notified-index l.one.notified)
