use Rattle.std.proofs.Common.{inr}
use Rattle.std.specs.Str.{is_utf8}
use Rattle.std.proofs.lemmas.Str.{IsUtf8-from_is_utf8, is_utf8-from_IsUtf8}
use Rattle.uss_route.proofs.Looking.{whole_route, no_text, not_true}
use Rattle.uss_route.proofs.table.Routes.route.Goals as goal

pub returns-in-Ok : goal.returns-in-Ok
returns-in-Ok c = record { answer = whole_route c.args.method.now c.args.target.now c.before-path.result.now c.route_on.result c.before-path.ensures (is_utf8-from_IsUtf8 c.before-path.result.now c.in-Ok.ensures.cases.1) (rw c.in-Ok.ensures.cases.0 at c.route_on.ensures) }

pub returns-in-Err : goal.returns-in-Err
returns-in-Err c = record { answer = inr (no_text c.args.method.now c.args.target.now c.before-path.result.now c.before-path.ensures (not_true (is_utf8 c.before-path.result.now) (λ text. c.in-Err.ensures.cases.0 (IsUtf8-from_is_utf8 c.before-path.result.now text)))) }
