-- How many landings of a flight there are up to one of them.
use Rattle.std.proofs.Common.{ℕ, ◌<◌, ◌+◌, ◌^◌, ◌==◌, ◌≡◌, ◌⊎◌, inl, inr, Bool, true, false, cond, List, [], ◌∷◌, ◌++◌, length, refl, ap, sym, ◌∙◌, arith, Option, Some, None}
use Rattle.std.specs.Prelude.{count_by}
use Rattle.std.proofs.lemmas.List.Sums.{sum_by-cons}
use Rattle.uss_intent.specs.Same.{same_text}
use Rattle.uss_intent.specs.declared.records.Landing.{Landing}
use Rattle.uss_law_dss.specs.Lists.{Has}
use Rattle.uss_law_dss.specs.Service.{ovn_of}
use Rattle.uss_law_dss.specs.Orderly.{AreNumbered, later, last_of}
use Rattle.uss_law_dss.proofs.Lists.{has_last}
use Rattle.uss_law_dss.proofs.Tests.{same_bytes, equal_bytes, equal_number, some_same, not_both}
use Rattle.uss_law_dss.proofs.History.{has_numbered, last_has, count_none}
use Rattle.uss_law_dss.proofs.Ovns.{ovns_differ}
use Rattle.uss_law_world.specs.Claims.{counts_for, rank_of}

-- a later landing has another OVN than the first
first_differs : (n : ℕ) (l : Landing) (ls : List Landing) (m : Landing) → AreNumbered n (l ∷ ls) → n + length (l ∷ ls) < 10 ^ 16 → Has ls m → l.ovn ≡ m.ovn → ⊥
first_differs n l ls m a r h e =
    let k = has_numbered (n + 1) ls m a.1 h in
    let o : ovn_of (n + 1) ≡ ovn_of k.0 = sym a.0 ∙ (e ∙ k.1) in
    let q = k.2 in
    let q' = k.3 in
    let x : n + 1 ≡ k.0 = ovns_differ (n + 1) k.0 (omega (arith, r)) (omega (arith, r, q')) o in
    omega (arith, x, q)

differs : (a b : List ℕ) → (a ≡ b → ⊥) → same_text a b ≡ false
differs a b f = go (same_text a b) refl
  where
    go : (x : Bool) → same_text a b ≡ x → x ≡ false
    go false e = refl
    go true e = absurd (f (same_bytes a b e))

-- what was there keeps its rank
pub rank_kept : (flight : ℕ) (ovn : List ℕ) (ls more : List Landing) (l : Landing) → Has ls l → l.ovn ≡ ovn → rank_of flight ovn (ls ++ more) ≡ rank_of flight ovn ls
rank_kept flight ovn [] more l h e = absurd h
rank_kept flight ovn (x ∷ ls) more l (inl q) e =
    let s : same_text x.ovn ovn ≡ true = equal_bytes x.ovn ovn (ap (λ (z : Landing). z.ovn) q ∙ e) in
    rw s refl
rank_kept flight ovn (x ∷ ls) more l (inr h) e = go (same_text x.ovn ovn) (rank_kept flight ovn ls more l h e)
  where
    go : (b : Bool) → rank_of flight ovn (ls ++ more) ≡ rank_of flight ovn ls → cond b (counts_for flight x) (counts_for flight x + rank_of flight ovn (ls ++ more)) ≡ cond b (counts_for flight x) (counts_for flight x + rank_of flight ovn ls)
    go true r = refl
    go false r = ap (λ n. counts_for flight x + n) r

count_first : (flight : ℕ) (x : Landing) (ls : List Landing) → count_by (λ (z : Landing). z.flight == flight) (x ∷ ls) ≡ counts_for flight x + count_by (λ (z : Landing). z.flight == flight) ls
count_first flight x ls = sum_by-cons (λ (z : Landing). cond (z.flight == flight) 1 0) x ls

-- a new landing's rank counts all of its flight
pub rank_of_new : (flight n : ℕ) (ls : List Landing) (l : Landing) → AreNumbered n (ls ++ l ∷ []) → n + length (ls ++ l ∷ []) < 10 ^ 16
    → rank_of flight l.ovn (ls ++ l ∷ []) ≡ count_by (λ (z : Landing). z.flight == flight) (ls ++ l ∷ [])
rank_of_new flight n [] l a r =
    let s : same_text l.ovn l.ovn ≡ true = equal_bytes l.ovn l.ovn refl in
    let c = count_first flight l [] in
    rw s (sym (c ∙ omega arith))
rank_of_new flight n (x ∷ ls) l a r =
    let s : same_text x.ovn l.ovn ≡ false = differs x.ovn l.ovn (first_differs n x (ls ++ l ∷ []) l a r (has_last ls l)) in
    let i = rank_of_new flight (n + 1) ls l a.1 (omega (arith, r)) in
    let c = count_first flight x (ls ++ l ∷ []) in
    rw s (ap (λ k. counts_for flight x + k) i ∙ sym c)

-- the last of a flight's landings has the rank of their number
no_last : (flight : ℕ) (ls : List Landing) → last_of flight ls ≡ None → (l : Landing) → Has ls l → l.flight ≡ flight → ⊥
no_last flight [] e l h f = h
no_last flight (x ∷ ls) e l h f = go (last_of flight ls) refl (x.flight == flight) refl (λ p k. no_last flight ls p l k f) e h
  where
    go : (y : Option Landing) → last_of flight ls ≡ y → (b : Bool) → (x.flight == flight) ≡ b → (last_of flight ls ≡ None → Has ls l → ⊥) → later y x flight ≡ None → (x ≡ l) ⊎ Has ls l → ⊥
    go (Some m) p b q rec z k = cc
    go None p true q rec z k = let w : cond true (Some x) None ≡ None = sym (ap (λ t. cond t (Some x) None) q) ∙ z in cc
    go None p false q rec z (inl k) = not_both (x.flight == flight) (equal_number x.flight flight (ap (λ (t : Landing). t.flight) k ∙ f)) q
    go None p false q rec z (inr k) = rec p k

pub rank_of_last : (flight n : ℕ) (ls : List Landing) (l : Landing) → AreNumbered n ls → n + length ls < 10 ^ 16 → last_of flight ls ≡ Some l
    → rank_of flight l.ovn ls ≡ count_by (λ (z : Landing). z.flight == flight) ls
rank_of_last flight n [] l a r e = cc
rank_of_last flight n (x ∷ ls) l a r e = go (last_of flight ls) refl (rank_of_last flight (n + 1) ls l a.1 (omega (arith, r))) e
  where
    go : (y : Option Landing) → last_of flight ls ≡ y → (last_of flight ls ≡ Some l → rank_of flight l.ovn ls ≡ count_by (λ (z : Landing). z.flight == flight) ls) → later y x flight ≡ Some l
        → rank_of flight l.ovn (x ∷ ls) ≡ count_by (λ (z : Landing). z.flight == flight) (x ∷ ls)
    go (Some m) p rec k =
        let q : last_of flight ls ≡ Some l = p ∙ k in
        let s : same_text x.ovn l.ovn ≡ false = differs x.ovn l.ovn (first_differs n x ls l a r (last_has flight ls l q)) in
        rw s (ap (λ t. counts_for flight x + t) (rec q) ∙ sym (count_first flight x ls))
    go None p rec k = at (x.flight == flight) refl k
      where
        at : (b : Bool) → (x.flight == flight) ≡ b → cond b (Some x) None ≡ Some l → rank_of flight l.ovn (x ∷ ls) ≡ count_by (λ (z : Landing). z.flight == flight) (x ∷ ls)
        at false q k = cc
        at true q k =
            let same : x ≡ l = some_same x l k in
            let s : same_text x.ovn l.ovn ≡ true = equal_bytes x.ovn l.ovn (ap (λ (z : Landing). z.ovn) same) in
            let c = count_none flight ls (λ m h f. no_last flight ls p m h f) in
            let t : count_by (λ (z : Landing). z.flight == flight) ls ≡ 0 = c in
            rw s (sym (count_first flight x ls ∙ ap (λ u. counts_for flight x + u) t ∙ omega arith))
