use Rattle.std.proofs.Common.{◌≡◌, Some, None}
use Rattle.uss_event.specs.Refusals.{refusal_of}
use Rattle.uss_event.proofs.Accepted.{plan_unless_refused}
use Rattle.uss_event.proofs.details.Details.of.Goals as goal

pub returns-in-Some-clause-plan : goal.returns-in-Some-clause-plan
returns-in-Some-clause-plan c =
    let found : refusal_of c.args.state c.args.volumes c.args.off_nominal c.args.priority ≡ Some c.in-Some.refusal = cc in
    rw found at (plan_unless_refused c.args.state c.args.volumes c.args.off_nominal c.args.priority)

pub returns-in-None-clause-plan : goal.returns-in-None-clause-plan
returns-in-None-clause-plan c =
    let none : refusal_of c.args.state c.args.volumes c.args.off_nominal c.args.priority ≡ None = cc in
    rw none at (plan_unless_refused c.args.state c.args.volumes c.args.off_nominal c.args.priority)
