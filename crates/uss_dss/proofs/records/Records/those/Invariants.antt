-- What is found so far, with what the identifiers that are left will find.
use Rattle.std.proofs.Common.{◌≡◌, ◌++◌, map}
use Rattle.uss_law_dss.specs.Orderly.{flight_recorded}
use Rattle.uss_dss.specs.Located.{those_of}
use Rattle.uss_dss.proofs.records.Records.those.Given as goal

abbrev pub invariant-loop-flight : goal.invariant-loop-flight
invariant-loop-flight l = map (λ x. x.now) l.found.items ++ those_of flight_recorded l.flight-iterator l.self ≡ those_of flight_recorded l.flights.keys l.self
