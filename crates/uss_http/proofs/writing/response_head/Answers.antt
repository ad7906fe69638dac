use Rattle.uss_http.specs.Writing.{response_with}
use Rattle.uss_http.proofs.HeadSteps.{with_fields}
use Rattle.uss_http.proofs.writing.response_head.Goals as goal

pub returns-else-status-eq204 : goal.returns-else-status-eq204
returns-else-status-eq204 c = with_fields (response_with c.args.status c.args.body.now) c.add_fields.new.head.items c.if-status-eq204.false cc
