-- The states of an operational intent: which take part in strategic coordination, after ASTM F3548-21; how they are written, by the words
-- of its OpenAPI annex; and their numbers, which are this project's own.
use Rattle.std.specs.Prelude.{ℕ, Bool, true, false, ◌==◌, List, codes}
use Rattle.uss_intent.specs.declared.records.State.{State}
use Rattle.uss_intent.specs.declared.records.State.TheVariants.{Accepted, Activated, Nonconforming, Contingent}

-- an intent in these states is kept apart from others: conflict is looked at, and a change into them has to carry a key
abbrev pub is_strategic : State → Bool
is_strategic Accepted = true
is_strategic Activated = true
is_strategic Nonconforming = false
is_strategic Contingent = false

abbrev pub state_text : State → List ℕ
state_text Accepted = codes "Accepted"
state_text Activated = codes "Activated"
state_text Nonconforming = codes "Nonconforming"
state_text Contingent = codes "Contingent"

abbrev pub state_number : State → ℕ
state_number Accepted = 1
state_number Activated = 2
state_number Nonconforming = 3
state_number Contingent = 4

abbrev pub same_state : State → State → Bool
same_state a b = state_number a == state_number b
