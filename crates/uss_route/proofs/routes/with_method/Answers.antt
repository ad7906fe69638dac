use Rattle.std.proofs.Common.{List, ℕ, sym, ap, ◌∙◌, bytes_eq}
use Rattle.uss_route.proofs.Looking.{method_here, method_later}
use Rattle.uss_route.proofs.routes.with_method.Goals as goal

pub returns-then-eq : goal.returns-then-eq
returns-then-eq c =
    let m = c.args.method.now in
    sym (c.loop-row.invariant ∙ method_here m c.args.rows.now c.loop-row.row-index _ c.loop-row-test.true (sym (ap (λ (t : List ℕ). bytes_eq t m) (c.as_bytes.ensures.value ∙ c.method.ensures)) ∙ sym c.eq.ensures ∙ c.if-eq.true))

pub loop-row-preserved : goal.loop-row-preserved
loop-row-preserved c =
    let m = c.args.method.now in
    c.loop-row.invariant ∙ method_later m c.args.rows.now c.loop-row.row-index _ c.loop-row-test.true (sym (ap (λ (t : List ℕ). bytes_eq t m) (c.as_bytes.ensures.value ∙ c.method.ensures)) ∙ sym c.eq.ensures ∙ c.if-eq.false)
