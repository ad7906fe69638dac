-- Which alternative of a request is taken. That a flight is planned only where nothing stands against it is after ASTM F3548-21
-- (strategic conflict detection); that alternatives are tried in their order, and what is said where none is clear, is this project's
-- own.
use Rattle.std.specs.Prelude.{◌≡◌, ◌<◌, length, ℕ, Bool, true, false, not, List, [], ◌∷◌, Option, Some, None}
use Rattle.std.specs.List.{list_all}
use Rattle.uss_intent.specs.declared.records.State.{State}
use Rattle.uss_event.specs.declared.details.Proposal.{Proposal}
use Rattle.uss_event.specs.declared.rules.Verdict.{Verdict}
use Rattle.uss_event.specs.declared.rules.Verdict.TheVariants.{Clear, EqualForbidden, HigherStands}
use Rattle.uss_event.specs.Pairs.{OperationalIntent}
use Rattle.uss_event.specs.Verdicts.{verdict}
use Rattle.uss_event.specs.Candidates.{candidate}
use Rattle.uss_plan.specs.declared.choice.Choice.{Choice}
use Rattle.uss_plan.specs.declared.choice.Choice.TheVariants.{Chosen, Blocked}
use Rattle.uss_plan.specs.Firsts.{first_passing}

-- what is asked for: by which table, for which flight, into which state and at which priority, and what was recorded of the flight
-- before
pub record Wanted : Type 0 where
  pub table : List ℕ
  pub flight : ℕ
  pub to : State
  pub priority : ℕ
  pub previous : Option OperationalIntent

abbrev pub wanted : List ℕ → ℕ → State → ℕ → Option OperationalIntent → Wanted
wanted table flight to priority previous = record { table = table; flight = flight; to = to; priority = priority; previous = previous }

abbrev pub is_clear : Verdict → Bool
is_clear Clear = true
is_clear EqualForbidden = false
is_clear HigherStands = false

-- what comes of holding an alternative against a pair
unfoldable pub verdict_on : Wanted → Proposal → OperationalIntent → Verdict
verdict_on w proposal p = verdict w.table (candidate w.flight w.to w.priority proposal.volumes proposal.off_nominal) p w.previous

-- the pair stands against the alternative
abbrev pub stands : Wanted → Proposal → OperationalIntent → Bool
stands w proposal p = not (is_clear (verdict_on w proposal p))

-- no pair stands against the alternative
abbrev pub is_free : Wanted → List OperationalIntent → Proposal → Bool
is_free w pairs proposal = list_all (λ p. is_clear (verdict_on w proposal p)) pairs

-- the first pair that stands against the alternative, with its verdict
abbrev pub blocked_at : Wanted → Proposal → Option (ℕ × OperationalIntent) → Choice
blocked_at w proposal (Some found) = Blocked found.0 (verdict_on w proposal found.1)
blocked_at w proposal None = Blocked 0 Clear

-- where no alternative is free: the first pair that stands against the first of them
abbrev pub blocked : Wanted → List OperationalIntent → List Proposal → Choice
blocked w pairs [] = Blocked 0 Clear
blocked w pairs (proposal ∷ _) = blocked_at w proposal (first_passing (stands w proposal) pairs)

abbrev pub chosen_or : Option (ℕ × Proposal) → Choice → Choice
chosen_or (Some found) other = Chosen found.0
chosen_or None other = other

-- the first alternative that is free, and else what blocks the first of them
abbrev pub choice : Wanted → List Proposal → List OperationalIntent → Choice
choice w proposals pairs = chosen_or (first_passing (is_free w pairs) proposals) (blocked w pairs proposals)

-- a choice is of one of the alternatives, or names a pair that stands
abbrev pub IsOf : List Proposal → List OperationalIntent → Choice → Type 0
IsOf proposals pairs (Chosen alternative) = alternative < length proposals
IsOf proposals pairs (Blocked place rule) = (place < length pairs) × (is_clear rule ≡ false)
