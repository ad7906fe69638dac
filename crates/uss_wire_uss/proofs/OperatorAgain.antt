-- An operator's cancels and sweeps that are written are read again.
use Rattle.std.proofs.Common.{◌≡◌, ℕ, Ok, refl, arith}
use Rattle.uss_wire_base.specs.Names.{name}
use Rattle.uss_wire_base.specs.declared.refusal.Member.TheVariants.{Whole}
use Rattle.uss_wire_base.specs.Writing.{IsPlain}
use Rattle.uss_wire_uss.specs.Operator.{cancels_at, sweeps_at, cancels_json, sweeps_json}

pub cancels_again : (flight number : ℕ) → cancels_at Whole (cancels_json flight number) ≡ Ok (flight, number)
unfolding cancels_at cancels_json name
cancels_again flight number = refl

pub sweeps_again : (skip : ℕ) → sweeps_at Whole (sweeps_json skip) ≡ Ok skip
unfolding sweeps_at sweeps_json name
sweeps_again skip = refl

-- ---- no fraction, and not deep
pub cancels_plain : (flight number : ℕ) → IsPlain (cancels_json flight number)
unfolding cancels_json
cancels_plain flight number = record { whole = refl; shallow = omega arith }

pub sweeps_plain : (skip : ℕ) → IsPlain (sweeps_json skip)
unfolding sweeps_json
sweeps_plain skip = record { whole = refl; shallow = omega arith }
