use Rattle.uss_wire_uss.proofs.Plain.{positions_plain}
use Rattle.uss_wire_uss.proofs.writing.write_positions.Goals as goal

pub message-requires : goal.message-requires
message-requires c = rw c.in_ok-value.ensures (positions_plain c.args.position.now)
