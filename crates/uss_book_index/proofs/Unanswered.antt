-- Which notifications a job owes, and how many.
use Rattle.std.proofs.Common.{ℕ, ◌+◌, ◌<◌, ◌≤◌, ◌==◌, ◌≢◌, Bool, true, false, not, cond, List, [], ◌∷◌, ◌++◌, ◌≡◌, length, filter, nat_le, refl, ap, subst, ◌∙◌, inl, inr, arith, Option, Some, None, zero, suc}
use Rattle.std.specs.List.{find, range_with_len}
use Rattle.std.proofs.lemmas.Bool.{cases_lt}
use Rattle.uss_event.specs.declared.entries.Ending.{Ending}
use Rattle.uss_event.specs.declared.entries.Ending.TheVariants.{Ended}
use Rattle.uss_event.specs.declared.entries.Entry.{Entry}
use Rattle.uss_event.specs.declared.entries.Entry.TheVariants.{Held, Done}
use Rattle.uss_law_dss.proofs.Tests.{not_le}
use Rattle.uss_event.specs.declared.entries.Holding.{Holding}
use Rattle.uss_event.specs.declared.entries.Closing.{Closing}
use Rattle.uss_law_book.specs.Lists.{holdings, endings}
use Rattle.uss_law_book.specs.Contents.{holding_of, ending_of, owed_at_end, owed_by, owed_of, is_sent, unsent}
use Rattle.uss_law_book.specs.Coding.{IsEnding}
use Rattle.uss_law_book.specs.Legal.{IsLegal, MayAllFollow}
use Rattle.uss_book_index.proofs.Fits.{at_most}

-- ---- the first of a range that passes, from a place on

step_some : (from k s : ℕ) (b : Bool) (xs : List ℕ) → s ≤ k → from ≤ k → (s ≡ k → b ≡ true) → (from ≤ s → s < k → b ≡ false) → (s + 1 ≤ k → find (nat_le from) xs ≡ Some k) → find (nat_le from) (cond b (s ∷ xs) xs) ≡ Some k
step_some from k s false xs a c passes fails rest =
    let other : s ≢ k = λ same. (let w : false ≡ true = passes same in cc) in
    rest (omega arith)
step_some from k s true xs a c passes fails rest = go (nat_le from s) refl
  where
    go : (l : Bool) → nat_le from s ≡ l → cond l (Some s) (find (nat_le from) xs) ≡ Some k
    go true h =
        let f : from ≤ s = at_most from s h in
        let other : s < k → ⊥ = λ less. (let w : true ≡ false = fails f less in cc) in
        let same : s ≡ k = omega arith in
        ap Some same
    go false h =
        let f : s < from = not_le from s h in
        rest (omega arith)

step_none : (from s : ℕ) (b : Bool) (xs : List ℕ) → (from ≤ s → b ≡ false) → find (nat_le from) xs ≡ None → find (nat_le from) (cond b (s ∷ xs) xs) ≡ None
step_none from s false xs fails rest = rest
step_none from s true xs fails rest = go (nat_le from s) refl
  where
    go : (l : Bool) → nat_le from s ≡ l → cond l (Some s) (find (nat_le from) xs) ≡ None
    go true h = let w : true ≡ false = fails (at_most from s h) in cc
    go false h = rest

first_from : (p : ℕ → Bool) (from k s n : ℕ) → s ≤ k → k < s + n → from ≤ k → p k ≡ true → ((j : ℕ) → from ≤ j → j < k → p j ≡ false) → find (nat_le from) (filter p (range_with_len s n)) ≡ Some k
first_from p from k s zero a b c passes fails = absurd (omega arith)
first_from p from k s (suc n) a b c passes fails =
    step_some from k s (p s) (filter p (range_with_len (s + 1) n)) a c (λ same. ap p same ∙ passes) (λ f less. fails s f less)
    (λ next. first_from p from k (s + 1) n next (omega arith) c passes fails)

none_from : (p : ℕ → Bool) (from s n : ℕ) → ((j : ℕ) → from ≤ j → j < s + n → p j ≡ false) → find (nat_le from) (filter p (range_with_len s n)) ≡ None
none_from p from s zero fails = refl
none_from p from s (suc n) fails =
    step_none from s (p s) (filter p (range_with_len (s + 1) n)) (λ f. fails s f (omega arith)) (none_from p from (s + 1) n (λ j f less. fails j f (omega arith)))

pub unsent_at : (job from k : ℕ) (es : List Entry) → from ≤ k → k < length (owed_of job es) → is_sent job k es ≡ false → ((j : ℕ) → from ≤ j → j < k → is_sent job j es ≡ true) → find (nat_le from) (unsent job es) ≡ Some k
unfolding unsent
unsent_at job from k es f less unanswered told =
    first_from (λ place. not (is_sent job place es)) from k 0 (length (owed_of job es)) (omega arith) (omega arith) f (ap not unanswered) (λ j g h. ap not (told j g h))

pub unsent_none : (job from : ℕ) (es : List Entry) → ((j : ℕ) → from ≤ j → j < length (owed_of job es) → is_sent job j es ≡ true) → find (nat_le from) (unsent job es) ≡ None
unfolding unsent
unsent_none job from es told = none_from (λ place. not (is_sent job place es)) from 0 (length (owed_of job es)) (λ j g h. ap not (told j g (omega arith)))

-- one more place was told
pub sent_more : (job from place : ℕ) (es : List Entry) → ((k : ℕ) → from ≤ k → k < place → is_sent job k es ≡ true) → is_sent job place es ≡ true → (k : ℕ) → from ≤ k → k < place + 1 → is_sent job k es ≡ true
sent_more job from place es told here k f h = elim (cases_lt k place) [
  | inl less ↦ told k f less
  | inr over ↦ (let same : place ≡ k = omega arith in subst (λ n. is_sent job n es ≡ true) same here)
]

-- ---- a job owes few

few_held : (b : Bool) (x : Holding) (o : Option Holding) → length x.owed ≤ 8192 → length (owed_by o None) ≤ 8192 → length (owed_by (cond b (Some x) o) None) ≤ 8192
few_held true x o h k = h
few_held false x o h k = k

held_few : (job : ℕ) (before es : List Entry) → MayAllFollow before es → length (owed_by (find (λ h. h.job == job) (holdings es)) None) ≤ 8192
held_few job before [] m = omega arith
held_few job before (Held holding ∷ es) m =
    few_held (holding.job == job) holding (find (λ (h : Holding). h.job == job) (holdings es)) m.0.coding.valid_owed.0
    (held_few job (before ++ Held holding ∷ []) es m.1)
held_few job before (e ∷ es) m = held_few job (before ++ e ∷ []) es m.1

few_at_end : (end : Ending) → IsEnding end → length (owed_at_end end) ≤ 8192
few_at_end (Ended owed) h = h.0
few_at_end _ h = omega arith

few_ended : (b : Bool) (x : Closing) (o : Option Closing) → length (owed_at_end x.end) ≤ 8192 → length (owed_by None o) ≤ 8192 → length (owed_by None (cond b (Some x) o)) ≤ 8192
few_ended true x o h k = h
few_ended false x o h k = k

ended_few : (job : ℕ) (before es : List Entry) → MayAllFollow before es → length (owed_by None (find (λ d. d.job == job) (endings es))) ≤ 8192
ended_few job before [] m = omega arith
ended_few job before (Done ending ∷ es) m =
    few_ended (ending.job == job) ending (find (λ (d : Closing). d.job == job) (endings es)) (few_at_end ending.end m.0.coding.1)
    (ended_few job (before ++ Done ending ∷ []) es m.1)
ended_few job before (e ∷ es) m = ended_few job (before ++ e ∷ []) es m.1

few_by : (h : Option Holding) (d : Option Closing) → length (owed_by h None) ≤ 8192 → length (owed_by None d) ≤ 8192 → length (owed_by h d) ≤ 8192
few_by (Some x) d a b = a
few_by None d a b = b

pub owed_few : (job : ℕ) (es : List Entry) → IsLegal es → length (owed_of job es) ≤ 8192
unfolding owed_of holding_of ending_of
owed_few job es l = few_by (find (λ (h : Holding). h.job == job) (holdings es)) (find (λ (d : Closing). d.job == job) (endings es)) (held_few job [] es l) (ended_few job [] es l)
