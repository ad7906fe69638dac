use Rattle.uss_wire_base.proofs.Lists.{few_taken, many_refused}
use Rattle.uss_wire_base.proofs.reading.few_items.Goals as goal

pub returns-then-items-limit : goal.returns-then-items-limit
returns-then-items-limit c = few_taken c.args.limit c.args.member _ c.in_ok-items.items.now c.in_ok-items.ensures c.if-items-limit.true

pub returns-else-items-limit : goal.returns-else-items-limit
returns-else-items-limit c = λ _. many_refused c.args.limit c.args.member _ c.in_ok-items.items.now c.in_ok-items.ensures c.if-items-limit.false
