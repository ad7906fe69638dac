use Rattle.std.proofs.Common.{arith}
use Rattle.uss_wire_base.proofs.Lists.{many_items}
use Rattle.uss_wire_base.proofs.reading.only_item.Goals as goal

pub returns-in_default : goal.returns-in_default
returns-in_default c = λ _. many_items c.args.member c.args.items.now (omega arith)
