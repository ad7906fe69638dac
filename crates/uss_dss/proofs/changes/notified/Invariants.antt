-- The subscribers of the tickets so far.
use Rattle.std.proofs.Common.{◌≡◌, ◌+◌, ◌++◌, take, filter, map}
use Rattle.uss_law_dss.specs.Step.{is_notified}
use Rattle.uss_dss.proofs.changes.notified.Given as goal

abbrev pub invariant-loop-t : goal.invariant-loop-t
invariant-loop-t l =
    l.notified.items ≡ map (λ t. record { base = t.base; ticket = t.id; index = t.index + 1 }) (filter (is_notified l.client (l.old ++ l.new)) (map (λ t. t.now) (take l.t-index l.tickets)))
