-- The landings, oldest first.
use Rattle.std.proofs.Common.{ℕ, ◌<◌, ◌≤◌, ◌+◌, ◌^◌, ◌==◌, Bool, true, false, cond, List, [], ◌∷◌, ◌++◌, ◌≡◌, ◌≢◌, inl, inr, length, zero-add, refl, ap, sym, ◌∙◌, arith, Option, Some, None, if◌then◌else◌}
use Rattle.std.specs.Prelude.{count_by}
use Rattle.std.proofs.lemmas.List.Sums.{sum_by-append, sum_by-cons}
use Rattle.uss_intent.specs.declared.records.Landing.{Landing}
use Rattle.uss_law_dss.specs.Lists.{Has}
use Rattle.uss_law_dss.specs.Service.{ovn_of}
use Rattle.uss_law_dss.specs.Orderly.{AreNumbered, later, last_of}
use Rattle.uss_law_dss.proofs.Ovns.{ovns_differ}
use Rattle.uss_law_dss.proofs.Tests.{equal_number, unequal_number}

-- a landing has the OVN of some number after n, up to their count
pub has_numbered : (n : ℕ) (ls : List Landing) (l : Landing) → AreNumbered n ls → Has ls l → (k : ℕ) × (l.ovn ≡ ovn_of k) × (n < k) × (k ≤ n + length ls)
has_numbered n [] l a h = absurd h
has_numbered n (m ∷ ls) l a (inl e) = (n + 1, ap (λ (z : Landing). z.ovn) (sym e) ∙ a.0, omega arith, omega arith)
has_numbered n (m ∷ ls) l a (inr h) = let r = has_numbered (n + 1) ls l a.1 h in (r.0, r.1, (let b = r.2 in omega arith), (let b = r.3 in omega arith))

-- an OVN is that of one landing
pub numbered_once : (n : ℕ) (ls : List Landing) (l m : Landing) → AreNumbered n ls → n + length ls < 10 ^ 16 → Has ls l → Has ls m → l.ovn ≡ m.ovn → l ≡ m
numbered_once n [] l m a few h i e = absurd h
numbered_once n (x ∷ ls) l m a few (inl h) (inl i) e = sym h ∙ i
numbered_once n (x ∷ ls) l m a few (inl h) (inr i) e =
    let r = has_numbered (n + 1) ls m a.1 i in
    let low = r.2 in
    let high = r.3 in
    let same : n + 1 ≡ r.0 = ovns_differ (n + 1) r.0 (omega arith) (omega arith) (sym a.0 ∙ ap (λ (z : Landing). z.ovn) h ∙ e ∙ r.1) in
    absurd (omega arith)
numbered_once n (x ∷ ls) l m a few (inr h) (inl i) e =
    let r = has_numbered (n + 1) ls l a.1 h in
    let low = r.2 in
    let high = r.3 in
    let same : n + 1 ≡ r.0 = ovns_differ (n + 1) r.0 (omega arith) (omega arith) (sym a.0 ∙ ap (λ (z : Landing). z.ovn) i ∙ sym e ∙ r.1) in
    absurd (omega arith)
numbered_once n (x ∷ ls) l m a few (inr h) (inr i) e = numbered_once (n + 1) ls l m a.1 (omega arith) h i e

pub numbered_push : (n : ℕ) (ls : List Landing) (l : Landing) → AreNumbered n ls → l.ovn ≡ ovn_of (n + length ls + 1) → AreNumbered n (ls ++ l ∷ [])
numbered_push n [] l a e = (e ∙ ap ovn_of (omega arith), tt)
numbered_push n (m ∷ ls) l a e = (a.0, numbered_push (n + 1) ls l a.1 (e ∙ ap ovn_of (omega arith)))

-- after one more landing

pub last_pushed : (flight : ℕ) (ls : List Landing) (l : Landing) → l.flight ≡ flight → last_of flight (ls ++ l ∷ []) ≡ Some l
last_pushed flight [] l e = rw (equal_number l.flight flight e) refl
last_pushed flight (m ∷ ls) l e = ap (λ o. later o m flight) (last_pushed flight ls l e)

pub last_kept : (flight : ℕ) (ls : List Landing) (l : Landing) → l.flight ≢ flight → last_of flight (ls ++ l ∷ []) ≡ last_of flight ls
last_kept flight [] l d = rw (unequal_number l.flight flight d) refl
last_kept flight (m ∷ ls) l d = ap (λ o. later o m flight) (last_kept flight ls l d)

later_has : (o : Option Landing) (m : Landing) (flight : ℕ) (ls : List Landing) (l : Landing) → ((k : Landing) → o ≡ Some k → Has ls k) → later o m flight ≡ Some l → Has (m ∷ ls) l
later_has (Some k) m flight ls l h e = inr (h l e)
later_has None m flight ls l h e = go (m.flight == flight) e
  where
    go : (b : Bool) → (if b then Some m else None) ≡ Some l → Has (m ∷ ls) l
    go true f = inl (cc)
    go false f = cc

-- it is one of them
pub last_has : (flight : ℕ) (ls : List Landing) (l : Landing) → last_of flight ls ≡ Some l → Has ls l
last_has flight [] l e = cc
last_has flight (m ∷ ls) l e = later_has (last_of flight ls) m flight ls l (λ k f. last_has flight ls k f) e

count_push : (p : Landing → Bool) (ls : List Landing) (l : Landing) → count_by p (ls ++ l ∷ []) ≡ count_by p ls + (if p l then 1 else 0)
count_push p ls l = sum_by-append (λ x. cond (p x) 1 0) ls (l ∷ []) ∙ ap (λ n. count_by p ls + n) (zero-add (if p l then 1 else 0))

pub count_more : (flight : ℕ) (ls : List Landing) (l : Landing) → l.flight ≡ flight → count_by (λ m. m.flight == flight) (ls ++ l ∷ []) ≡ count_by (λ m. m.flight == flight) ls + 1
count_more flight ls l e = count_push (λ m. m.flight == flight) ls l ∙ rw (equal_number l.flight flight e) refl

pub count_same : (flight : ℕ) (ls : List Landing) (l : Landing) → l.flight ≢ flight → count_by (λ m. m.flight == flight) (ls ++ l ∷ []) ≡ count_by (λ m. m.flight == flight) ls
count_same flight ls l d = count_push (λ m. m.flight == flight) ls l ∙ rw (unequal_number l.flight flight d) (omega arith)

pub count_none : (flight : ℕ) (ls : List Landing) → ((l : Landing) → Has ls l → l.flight ≢ flight) → count_by (λ m. m.flight == flight) ls ≡ 0
count_none flight [] h = refl
count_none flight (l ∷ ls) h =
    let front = sum_by-cons (λ (m : Landing). cond (m.flight == flight) 1 0) l ls in
    let here : (l.flight == flight) ≡ false = unequal_number l.flight flight (h l (inl refl)) in
    front ∙ rw here (let rest = count_none flight ls (λ m k. h m (inr k)) in omega arith)
