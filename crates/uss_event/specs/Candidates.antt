-- What is held against the pairs of other flights. This project's own.
use Rattle.std.specs.Prelude.{ℕ, List, [], ◌++◌}
use Rattle.uss_vol4.specs.Volume.{Volume4D}
use Rattle.uss_intent.specs.declared.records.State.{State}
use Rattle.uss_event.specs.declared.details.Candidate.{Candidate}

-- the candidate with these volumes, followed by these off-nominal volumes, as its extents
abbrev pub candidate : ℕ → State → ℕ → List Volume4D → List Volume4D → Candidate
candidate flight state priority volumes off_nominal = record { flight = flight; state = state; priority = priority; volumes = volumes ++ off_nominal }

-- a candidate of which the state alone matters
abbrev pub flown : State → Candidate
flown state = candidate 0 state 0 [] []
