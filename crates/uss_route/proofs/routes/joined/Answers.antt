use Rattle.std.proofs.Common.{sym}
use Rattle.uss_route.specs.Rows.{method_of}
use Rattle.uss_route.proofs.Looking.{joined_more}
use Rattle.uss_route.proofs.routes.joined.Goals as goal

pub loop-more-preserved : goal.loop-more-preserved
loop-more-preserved c = rw (c.in_ok-extend_from_slice-2.ensures.items, c.in_ok-extend_from_slice.ensures.items, c.loop-more.invariant, c.as_bytes-in-loop-more.ensures.value, c.method-in-loop-more.ensures) (sym (joined_more (method_of c.args.row) c.args.rows.now c.loop-more.more-index _ c.loop-more-test.true))
