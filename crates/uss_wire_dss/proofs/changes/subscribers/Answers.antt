use Rattle.std.proofs.Common.{rules}
use Rattle.serde_json.specs.View.{view}
use Rattle.uss_wire_dss.proofs.Flat.{subscribers_listed}
use Rattle.uss_wire_dss.proofs.changes.subscribers.Goals as goal

pub returns-in_err-lists : goal.returns-in_err-lists
returns-in_err-lists c = rw (subscribers_listed c.args.member (view c.args.value.now)) (search rules)

pub returns : goal.returns
returns c = rw (subscribers_listed c.args.member (view c.args.value.now)) (search rules)
