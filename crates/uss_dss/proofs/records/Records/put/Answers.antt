-- The reference is in its place.
use Rattle.uss_law_dss.specs.Orderly.{flight_recorded}
use Rattle.uss_dss.proofs.Maps.{put_by, put_value}
use Rattle.uss_dss.proofs.records.Records.put.Goals as goal

pub invariant_of-self : goal.invariant_of-self
invariant_of-self c = rw c.in-Ok.ensures.entries (put_by flight_recorded c.key_of.result c.args.new _ c.key_of.ensures c.self.invariant)

pub returns-in-Ok-clause-ok : goal.returns-in-Ok-clause-ok
returns-in-Ok-clause-ok c = rw (← c.self.view_is, c.in-Ok.ensures.entries, c.key_of.ensures) (put_value c.args.new _ c.self.invariant)
