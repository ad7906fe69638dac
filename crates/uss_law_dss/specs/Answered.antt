-- What answers a call: the words that a discovery service has to keep, whatever it is made of.
use Rattle.std.specs.Prelude.{ℕ, ◌≤◌, ◌≡◌, ◌⊎◌, List}
use Rattle.uss_intent.specs.declared.calls.DssAsk.{DssAsk}
use Rattle.uss_intent.specs.declared.calls.DssReply.{DssReply}
use Rattle.uss_intent.specs.declared.calls.DssReply.TheVariants.{Refused}
use Rattle.uss_intent.specs.declared.calls.DssRefusal.{DssRefusal}
use Rattle.uss_intent.specs.declared.calls.DssRefusal.TheVariants.{Full}
use Rattle.uss_intent.specs.Refusals.{refusal_number}
use Rattle.uss_law_dss.specs.Service.{Service}
use Rattle.uss_law_dss.specs.Orderly.{IsOrderly}
use Rattle.uss_law_dss.specs.Carried.{CarriedOut}
use Rattle.uss_law_dss.specs.Causes.{Cause}

-- the call is refused for a cause, no cause has a lesser number, and nothing changes
pub record IsRefused (s : Service) (client : List ℕ) (ask : DssAsk) (out : DssReply × Service) : Type 0 where
  pub refusal : DssRefusal
  pub caused : Cause s client ask refusal
  pub least : (other : DssRefusal) → Cause s client ask other → refusal_number refusal ≤ refusal_number other
  pub is : out ≡ (Refused refusal, s)

-- there is no cause to refuse the call, and it is carried out; the state stays orderly
pub record IsDone (s : Service) (client : List ℕ) (ask : DssAsk) (out : DssReply × Service) : Type 0 where
  pub no_cause : (refusal : DssRefusal) → Cause s client ask refusal → ⊥
  pub carried_out : CarriedOut s client ask out
  pub orderly : IsOrderly out.1

abbrev pub Answers : Service → List ℕ → DssAsk → DssReply × Service → Type 0
Answers s client ask out = IsRefused s client ask out ⊎ IsDone s client ask out

-- the answers are the same, but for which limit is named where a call meets two
abbrev pub SameAnswers : Service → List ℕ → DssAsk → DssReply × Service → DssReply × Service → Type 0
SameAnswers s client ask a b =
    (a ≡ b)
    ⊎ ((l : ℕ) × (m : ℕ) × Cause s client ask (Full l) × Cause s client ask (Full m) × (a ≡ (Refused (Full l), s)) × (b ≡ (Refused (Full m), s)))
