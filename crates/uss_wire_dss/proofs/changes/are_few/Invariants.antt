use Rattle.std.proofs.Common.{◌≡◌, drop}
use Rattle.uss_intent.specs.Limits.{most_tickets}
use Rattle.uss_wire_dss.specs.ChangesAndErrors.{fit}
use Rattle.uss_wire_dss.proofs.changes.are_few.Given as goal

abbrev pub invariant-loop-one : goal.invariant-loop-one
invariant-loop-one l = fit l.room (drop l.one-index l.lists) ≡ fit most_tickets l.lists
