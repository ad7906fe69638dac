-- The first that passes, found by going through a list.
use Rattle.std.proofs.Common.{◌≡◌, ℕ, ◌+◌, ◌<◌, ◌≤◌, Bool, true, List, [], ◌∷◌, length, drop, get_or, None, is_none, refl, arith}
use Rattle.std.proofs.lemmas.Bool.Decides.{nat_tests}
use Rattle.std.proofs.lemmas.List.{at_drop_more, drop_all}
use Rattle.uss_event.specs.declared.details.Proposal.{Proposal}
use Rattle.uss_event.specs.Pairs.{OperationalIntent}
use Rattle.uss_plan.specs.Firsts.{first_from, first_passing}
use Rattle.uss_plan.specs.Choice.{Wanted, stands, is_free}

-- one further
pub first_further : {X : Type 0} (test : X → Bool) (xs : List X) (i : ℕ) (d : X) → i < length xs → first_from i test (drop i xs) ≡ first_from i test (get_or xs i d ∷ drop (i + 1) xs)
first_further test xs i d h = at_drop_more (λ rest. first_from i test rest) xs i d h

-- none stands exactly where the alternative is free
pub free_without_standing : (w : Wanted) (proposal : Proposal) (n : ℕ) (pairs : List OperationalIntent) → is_none (first_from n (stands w proposal) pairs) ≡ is_free w pairs proposal
free_without_standing w proposal n [] = refl
free_without_standing w proposal n (p ∷ ps) =
    let rest : is_none (first_from (n + 1) (stands w proposal) ps) ≡ is_free w ps proposal = free_without_standing w proposal (n + 1) ps in
    grind (arith, nat_tests)

-- having gone through all pairs, the alternative is free
pub free_at_the_end : (w : Wanted) (proposal : Proposal) (i : ℕ) (pairs : List OperationalIntent) → length pairs ≤ i → first_passing (stands w proposal) pairs ≡ first_from i (stands w proposal) (drop i pairs) → true ≡ is_free w pairs proposal
free_at_the_end w proposal i pairs past walked =
    let none : drop i pairs ≡ [] = drop_all i pairs past in
    let left : first_passing (stands w proposal) pairs ≡ None = rw none at walked in
    rw left at (free_without_standing w proposal 0 pairs)
