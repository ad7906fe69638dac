-- What is found so far, with what the identifiers that are left will find.
use Rattle.std.proofs.Common.{◌≡◌, ◌++◌, map}
use Rattle.uss_law_dss.specs.Orderly.{id_of}
use Rattle.uss_dss.specs.Located.{those_of}
use Rattle.uss_dss.proofs.tickets.Tickets.those.Given as goal

abbrev pub invariant-loop-id : goal.invariant-loop-id
invariant-loop-id l = map (λ x. x.now) l.found.items ++ those_of id_of l.id-iterator l.self ≡ those_of id_of l.ids.keys l.self
