-- The ticket is one of those whose index can rise.
use Rattle.uss_dss.proofs.Places.{item_has_by}
use Rattle.uss_dss.proofs.changes.notified.Goals as goal

pub subscriber-requires : goal.subscriber-requires
subscriber-requires c = c.requires c.t-item.result.now (rw c.t-item.is (item_has_by _ c.args.tickets.now c.loop-t.t-index c.t-item.result c.loop-t-test.true))
