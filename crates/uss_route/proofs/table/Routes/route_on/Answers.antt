use Rattle.std.proofs.Common.{sym, ◌∙◌, ap}
use Rattle.uss_route.specs.Routes.{with_method, is_tagged, untagged}
use Rattle.uss_route.proofs.Looking.{found_fits}
use Rattle.uss_route.proofs.table.Routes.route_on.Goals as goal

pub route_at-requires : goal.route_at-requires
route_at-requires c =
    let path = c.args.path.now in
    rw (c.untagged.ensures, c.as_bytes.ensures.value)
    (found_fits (is_tagged path) (untagged path) c.args.method.now c.in-Some.row (ap (with_method c.args.method.now) (sym c.rows_at-rows.ensures) ∙ sym c.with_method.ensures ∙ c.in-Some.is))
