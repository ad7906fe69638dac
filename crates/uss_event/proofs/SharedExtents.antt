-- Lists of volumes share where one part of one shares with one part of the other.
use Rattle.std.proofs.Common.{◌≡◌, ◌||◌, List, [], ◌∷◌, ◌++◌, Option, Some, None, refl, arith}
use Rattle.std.specs.List.{list_any}
use Rattle.std.proofs.lemmas.List.Folds.{list_any-append}
use Rattle.std.proofs.lemmas.Bool.Decides.{nat_tests}
use Rattle.uss_vol4.specs.Volume.{Volume4D}
use Rattle.uss_vol4.specs.Sharing.{any_shares, shares}
use Rattle.uss_event.specs.declared.details.Candidate.{Candidate}
use Rattle.uss_event.specs.Pairs.{OperationalIntent}
use Rattle.uss_event.specs.Verdicts.{is_excepted}
use Rattle.uss_event.specs.Candidates.{flown}

pub both_share : (a b c : List Volume4D) → any_shares (a ++ b) c ≡ (any_shares a c || any_shares b c)
unfolding any_shares
both_share a b c = list_any-append (λ v. list_any (shares v) c) a b

pub shares_with_both : (a b c : List Volume4D) → any_shares a (b ++ c) ≡ (any_shares a b || any_shares a c)
unfolding any_shares
shares_with_both [] b c = refl
shares_with_both (v ∷ vs) b c =
    let rest : any_shares vs (b ++ c) ≡ (any_shares vs b || any_shares vs c) = shares_with_both vs b c in
    let first : list_any (shares v) (b ++ c) ≡ (list_any (shares v) b || list_any (shares v) c) = list_any-append (shares v) b c in
    grind (arith, nat_tests)

-- the exception looks at the candidate's state alone
pub excepted_by_state : (c : Candidate) (p : OperationalIntent) (previous : Option OperationalIntent) → is_excepted (flown c.state) p previous ≡ is_excepted c p previous
excepted_by_state c p None = refl
excepted_by_state c p (Some previous) = refl
