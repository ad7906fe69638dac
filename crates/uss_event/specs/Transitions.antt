-- From which state an operational intent may go to which. After the states of ASTM F3548-21; that these changes and no others are
-- allowed is this project's own.
use Rattle.std.specs.Prelude.{Bool, true, false, Option, Some, None}
use Rattle.uss_intent.specs.declared.records.State.{State}
use Rattle.uss_intent.specs.declared.records.State.TheVariants.{Accepted, Activated, Nonconforming, Contingent}

abbrev pub goes : State → State → Bool
goes Accepted to = true
goes Activated Accepted = false
goes Activated Activated = true
goes Activated Nonconforming = true
goes Activated Contingent = true
goes Nonconforming Accepted = false
goes Nonconforming Activated = true
goes Nonconforming Nonconforming = true
goes Nonconforming Contingent = true
goes Contingent Accepted = false
goes Contingent Activated = false
goes Contingent Nonconforming = false
goes Contingent Contingent = true

abbrev pub begins : State → Bool
begins Accepted = true
begins Activated = false
begins Nonconforming = false
begins Contingent = false

-- an intent that isn't recorded begins in Accepted
abbrev pub may_go : Option State → State → Bool
may_go None to = begins to
may_go (Some from) to = goes from to
