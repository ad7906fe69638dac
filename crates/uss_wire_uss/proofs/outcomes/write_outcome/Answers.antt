use Rattle.uss_wire_uss.proofs.PlainOutcomes.{outcome_plain}
use Rattle.uss_wire_uss.proofs.outcomes.write_outcome.Goals as goal

pub message-requires : goal.message-requires
message-requires c = rw c.in_ok-value.ensures (outcome_plain c.args.outcome.now)
