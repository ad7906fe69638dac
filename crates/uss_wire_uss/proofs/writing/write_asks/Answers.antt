use Rattle.uss_wire_uss.proofs.Plain.{asks_plain}
use Rattle.uss_wire_uss.proofs.writing.write_asks.Goals as goal

pub message-requires : goal.message-requires
message-requires c = rw c.in_ok-value.ensures (asks_plain c.args.ask.now)
