-- When a candidate may not be recorded beside an operational intent, and when two intents stand against each other. That conflict is
-- looked at in Accepted and Activated, and that the greater priority goes first, is after ASTM F3548-21 (strategic conflict
-- detection); the table and the exception are this project's own.
use Rattle.std.specs.Prelude.{ℕ, Bool, true, false, not, ◌&&◌, ◌==◌, nat_lt, List, Option, Some, None, if◌then◌else◌}
use Rattle.uss_vol4.specs.Sharing.{any_shares}
use Rattle.uss_intent.specs.declared.records.State.{State}
use Rattle.uss_intent.specs.declared.records.State.TheVariants.{Accepted, Activated, Nonconforming, Contingent}
use Rattle.uss_intent.specs.States.{is_strategic}
use Rattle.uss_intent.specs.Numbers.{is_one_of}
use Rattle.uss_event.specs.declared.rules.Verdict.{Verdict}
use Rattle.uss_event.specs.declared.rules.Verdict.TheVariants.{Clear, EqualForbidden, HigherStands}
use Rattle.uss_event.specs.declared.details.Candidate.{Candidate}
use Rattle.uss_event.specs.Plans.{extents_of}
use Rattle.uss_event.specs.Pairs.{OperationalIntent}

abbrev pub is_activated : State → Bool
is_activated Accepted = false
is_activated Activated = true
is_activated Nonconforming = false
is_activated Contingent = false

-- both are intents of different flights in such states, and some extent of one shares a point with some extent of the other
abbrev pub meet : Candidate → OperationalIntent → Bool
meet c p = (is_strategic c.state && is_strategic p.reference.state) && (not (c.flight == p.reference.flight) && any_shares c.volumes (extents_of p.details))

-- the flight is flown, and what was recorded of it before is flown and shares with the other already
abbrev pub is_excepted : Candidate → OperationalIntent → Option OperationalIntent → Bool
is_excepted c p None = false
is_excepted c p (Some previous) =
    (is_activated c.state && is_activated previous.reference.state) && any_shares (extents_of previous.details) (extents_of p.details)

-- both have one priority, at which conflict is forbidden
abbrev pub forbidden : List ℕ → Candidate → OperationalIntent → Bool
forbidden table c p = meet c p && ((c.priority == p.details.priority) && is_one_of c.priority table)

-- the other has the greater priority, and there is no exception
abbrev pub higher : Candidate → OperationalIntent → Option OperationalIntent → Bool
higher c p previous = meet c p && (nat_lt c.priority p.details.priority && not (is_excepted c p previous))

-- what comes of holding a candidate against an intent, where this is what was recorded of the candidate's flight before
abbrev pub verdict : List ℕ → Candidate → OperationalIntent → Option OperationalIntent → Verdict
verdict table c p previous = if forbidden table c p then EqualForbidden else if higher c p previous then HigherStands else Clear
