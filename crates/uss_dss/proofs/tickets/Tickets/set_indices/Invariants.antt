-- The indices so far are written.
use Rattle.std.proofs.Common.{◌≡◌, take}
use Rattle.uss_dss.specs.Effects.{with_indices}
use Rattle.uss_dss.proofs.tickets.Tickets.set_indices.Given as goal

abbrev pub invariant-loop-s : goal.invariant-loop-s
invariant-loop-s l = l.self ≡ with_indices (take l.s-index l.notified) l.initial.self
