-- What is written of outcomes has no fraction, and isn't deep.
use Rattle.std.proofs.Common.{ℕ, refl, arith}
use Rattle.uss_outcome.specs.declared.outcome.Outcome.{Outcome}
use Rattle.uss_wire_base.specs.Writing.{IsPlain}
use Rattle.uss_wire_uss.specs.Outcomes.{outcome_json, swept_json}

pub outcome_plain : (outcome : Outcome) → IsPlain (outcome_json outcome)
unfolding outcome_json
outcome_plain outcome = record { whole = refl; shallow = omega arith }

pub swept_plain : (tried failed : ℕ) → IsPlain (swept_json tried failed)
unfolding swept_json
swept_plain tried failed = record { whole = refl; shallow = omega arith }
