-- Everything was looked up.
use Rattle.std.proofs.Common.{rules, ◌≡◌, []}
use Rattle.uss_law_dss.specs.Orderly.{flight_recorded}
use Rattle.uss_dss.proofs.Those.{ended}
use Rattle.uss_dss.proofs.records.Records.those.Goals as goal

pub returns : goal.returns
returns c =
    let none : c.loop-flight.flight-iterator ≡ [] = search rules in
    ended flight_recorded _ c.args.self.now c.loop-flight.flight-iterator c.args.flights.now.keys c.loop-flight.invariant none c.into_iter-flight-iterator.ensures.into_iter_gives.4 c.requires
