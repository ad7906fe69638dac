-- What a choice is worth, in plain words: above the definition of what is chosen, and this project's own.
use Rattle.std.specs.Prelude.{◌≡◌, ◌<◌, length, ℕ, Bool, true, false, List, Option, Some, None, slice_get}
use Rattle.uss_event.specs.declared.details.Proposal.{Proposal}
use Rattle.uss_event.specs.Pairs.{OperationalIntent}
use Rattle.uss_plan.specs.declared.choice.Choice.{Choice}
use Rattle.uss_plan.specs.declared.choice.Choice.TheVariants.{Chosen, Blocked}
use Rattle.uss_plan.specs.Choice.{Wanted, verdict_on, stands, is_free, choice}

-- this of the list passes, at this place, and none before it
abbrev pub IsFirst : {X : Type 0} → (X → Bool) → List X → ℕ → X → Type 0
IsFirst {X} test list place x = (slice_get list place ≡ Some x) × (test x ≡ true) × ((i : ℕ) (y : X) → i < place → slice_get list i ≡ Some y → test y ≡ false)

-- none of the list passes
abbrev pub NonePasses : {X : Type 0} → (X → Bool) → List X → Type 0
NonePasses {X} test list = (i : ℕ) (y : X) → slice_get list i ≡ Some y → test y ≡ false

abbrev pub IsFirstOrNone : {X : Type 0} → (X → Bool) → List X → Option (ℕ × X) → Type 0
IsFirstOrNone test list (Some found) = IsFirst test list found.0 found.1
IsFirstOrNone test list None = NonePasses test list

-- Chosen: nothing stands against this alternative, and something against each before it. Blocked: something stands against each
-- alternative, and against the first of them the pair at this place, by this verdict, and none before it
abbrev pub IsBest : Wanted → List Proposal → List OperationalIntent → Choice → Type 0
IsBest w proposals pairs (Chosen alternative) = (p : Proposal) × IsFirst (is_free w pairs) proposals alternative p
IsBest w proposals pairs (Blocked place rule) =
    NonePasses (is_free w pairs) proposals
    × ((first : Proposal) → slice_get proposals 0 ≡ Some first → (p : OperationalIntent) × IsFirst (stands w first) pairs place p × (verdict_on w first p ≡ rule))

-- of each list of alternatives that isn't empty, and each list of pairs
abbrev pub BestIsChosen : Type 0
BestIsChosen = (w : Wanted) (proposals : List Proposal) (pairs : List OperationalIntent) → 0 < length proposals → IsBest w proposals pairs (choice w proposals pairs)
