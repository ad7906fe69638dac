use Rattle.std.proofs.Common.{◌∙◌, sym}
use Rattle.uss_http_request.proofs.Targets.{to_target, from_target}
use Rattle.uss_http_request.proofs.target.ends_in_target.Goals as goal

pub returns : goal.returns
returns c = (λ t. to_target c.args.bytes.now (sym c.tests.ensures ∙ t), λ e. c.tests.ensures ∙ from_target c.args.bytes.now e)
