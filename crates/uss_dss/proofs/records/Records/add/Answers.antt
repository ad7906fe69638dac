-- What is there is found by its key.
use Rattle.std.proofs.Common.{◌∙◌}
use Rattle.uss_law_dss.specs.Orderly.{flight_recorded}
use Rattle.uss_dss.proofs.Maps.{found_by}
use Rattle.uss_dss.proofs.Those.{pushed, not_pushed}
use Rattle.uss_dss.proofs.records.Records.add.Goals as goal

pub returns-in_ok-push-in-Some : goal.returns-in_ok-push-in-Some
returns-in_ok-push-in-Some c = rw (← c.self.view_is) (pushed _ _ c.in-Some.r _ c.in_ok-push-in-Some.ensures.items (c.in-Some.ensures.value ∙ found_by flight_recorded c.args.flight.now _ c.self.invariant))

pub returns-in-None : goal.returns-in-None
returns-in-None c = rw (← c.self.view_is) (not_pushed _ _ (c.in-None.ensures.value ∙ found_by flight_recorded c.args.flight.now _ c.self.invariant))
