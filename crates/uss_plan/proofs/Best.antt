-- The choice is the best there is.
use Rattle.std.proofs.Common.{◌≡◌, ℕ, ◌<◌, true, false, List, [], ◌∷◌, length, Option, Some, None, refl, sym, ◌∙◌, arith, true≢false}
use Rattle.std.proofs.lemmas.Bool.Decides.{nat_tests}
use Rattle.uss_event.specs.declared.details.Proposal.{Proposal}
use Rattle.uss_event.specs.Pairs.{OperationalIntent}
use Rattle.uss_plan.specs.Firsts.{first_passing}
use Rattle.uss_plan.specs.Choice.{Wanted, stands, is_free, blocked_at, blocked, chosen_or, choice}
use Rattle.uss_plan.specs.Best.{IsFirstOrNone, NonePasses, IsBest}
use Rattle.uss_plan.proofs.FoundFirst.{first_is_first}
use Rattle.uss_plan.proofs.Walks.{free_without_standing}

-- where no alternative is free, a pair stands against the first
blocked_is_best : (w : Wanted) (p : Proposal) (ps : List Proposal) (pairs : List OperationalIntent) (o : Option (ℕ × OperationalIntent)) → first_passing (stands w p) pairs ≡ o → NonePasses (is_free w pairs) (p ∷ ps)
    → IsBest w (p ∷ ps) pairs (blocked_at w p o)
blocked_is_best w p ps pairs (Some found) e none =
    let found_first : IsFirstOrNone (stands w p) pairs (Some found) = rw e at (first_is_first (stands w p) pairs) in
    (none, λ first at. let same : p ≡ first = grind (arith, nat_tests) in rw (sym same) (found.1, found_first, refl))
blocked_is_best w p ps pairs None e none =
    let free : true ≡ is_free w pairs p = rw e at (free_without_standing w p 0 pairs) in
    let not_free : is_free w pairs p ≡ false = none 0 p refl in
    absurd (true≢false (free ∙ not_free))

best : (w : Wanted) (p : Proposal) (ps : List Proposal) (pairs : List OperationalIntent) (o : Option (ℕ × Proposal)) → first_passing (is_free w pairs) (p ∷ ps) ≡ o → IsBest w (p ∷ ps) pairs (chosen_or o (blocked w pairs (p ∷ ps)))
best w p ps pairs (Some found) e = (found.1, rw e at (first_is_first (is_free w pairs) (p ∷ ps)))
best w p ps pairs None e =
    let none : NonePasses (is_free w pairs) (p ∷ ps) = rw e at (first_is_first (is_free w pairs) (p ∷ ps)) in
    blocked_is_best w p ps pairs (first_passing (stands w p) pairs) refl none

pub best_is_chosen : (w : Wanted) (proposals : List Proposal) (pairs : List OperationalIntent) → 0 < length proposals → IsBest w proposals pairs (choice w proposals pairs)
best_is_chosen w [] pairs h = absurd (omega arith)
best_is_chosen w (p ∷ ps) pairs h = best w p ps pairs (first_passing (is_free w pairs) (p ∷ ps)) refl
