-- The open job of a flight is that of its last request.
use Rattle.std.proofs.Common.{ℕ, ◌==◌, Bool, true, false, cond, not, nat_lt, List, [], ◌∷◌, ◌++◌, ◌≡◌, inl, inr, refl, ap, sym, subst, ◌∙◌, Option, Some, None}
use Rattle.std.specs.List.{find}
use Rattle.uss_event.specs.declared.entries.Entry.{Entry}
use Rattle.uss_event.specs.declared.entries.Entry.TheVariants.{Opened}
use Rattle.uss_law_dss.specs.Lists.{Has}
use Rattle.uss_law_dss.proofs.Lists.{find_has, has_filter, has_passed}
use Rattle.uss_law_dss.proofs.Tests.{same_number, not_true, some_same}
use Rattle.uss_event.specs.declared.entries.Opening.{Opening}
use Rattle.uss_law_book.specs.Lists.{openings}
use Rattle.uss_law_book.specs.Contents.{is_closed, jobs_of, open_job_of, greater, greatest, last_of}
use Rattle.uss_law_book.specs.Legal.{IsDue, MayFollow, IsLegal}
use Rattle.uss_law_book.specs.Orderly.{IsOrderly}
use Rattle.uss_law_book.proofs.Entries.{which_opening, unclosed_before}
use Rattle.uss_law_book.proofs.Greatest.{each_is_closed}
use Rattle.uss_law_book.proofs.Held.{open_job_is_found}
use Rattle.uss_law_book.proofs.EachOrderly.{legal_is_orderly}
use Rattle.uss_law_book.proofs.EachLegal.{each_legal}
use Rattle.uss_law_book.proofs.Grown.{last_else, last_new}

-- an open job is that of its flight's last request
abbrev IsLastOpen : List Entry → Type 0
IsLastOpen es = (o : Opening) → Has (openings es) o → is_closed o.job es ≡ false → last_of o.ask.flight es ≡ Some o

old_is_last : (es : List Entry) (e : Entry) → IsOrderly es → IsDue es e → IsLastOpen es → (o : Opening) → Has (openings es) o → is_closed o.job (es ++ e ∷ []) ≡ false → last_of o.ask.flight (es ++ e ∷ []) ≡ Some o
old_is_last es (Opened opening) s d was o h u =
    let before = unclosed_before o.job es (Opened opening ∷ []) u in
    last_else o.ask.flight es (Opened opening) (λ p k. other p k (p.ask.flight == o.ask.flight) refl before) ∙ was o h before
  where
    other : (p : Opening) → Has (opening ∷ []) p → (b : Bool) → (p.ask.flight == o.ask.flight) ≡ b → is_closed o.job es ≡ false → b ≡ false
    other p (inl q) true e v =
        let same : o.ask.flight ≡ opening.ask.flight = sym (ap (λ (x : Opening). x.ask.flight) q ∙ same_number p.ask.flight o.ask.flight e) in
        let c = each_is_closed es opening.ask.flight o d.free h same in
        absurd (let t : true ≡ false = sym c ∙ v in cc)
    other p (inr n) true e v = absurd n
    other p k false e v = refl
old_is_last es e s d was o h u =
    last_else o.ask.flight es e (λ p k. absurd k) ∙ was o h (unclosed_before o.job es (e ∷ []) u)

new_is_last : (es : List Entry) (e : Entry) → IsDue es e → (o : Opening) → Has (openings (e ∷ [])) o → last_of o.ask.flight (es ++ e ∷ []) ≡ Some o
new_is_last es (Opened opening) d o (inl q) =
    subst (λ (x : Opening). last_of x.ask.flight (es ++ Opened opening ∷ []) ≡ Some x) q (last_new es opening d)
new_is_last es (Opened opening) d o (inr n) = absurd n
new_is_last es _ d o h = absurd h

pub last_is_open : (es : List Entry) → IsLegal es → IsLastOpen es
last_is_open es l = each_legal IsLastOpen (λ o h u. absurd h) step es l
  where
    step : (es : List Entry) (e : Entry) → IsLegal es → MayFollow es e → IsLastOpen es → IsLastOpen (es ++ e ∷ [])
    step es e l m was = λ o h u. elim (which_opening es (e ∷ []) o h) [
      | inl a ↦ old_is_last es e (legal_is_orderly es l) m.due was o a u
      | inr b ↦ new_is_last es e m.due o b
    ]

-- the last request where its job is open
abbrev pub unless_closed : List Entry → Option Opening → Option Opening
unless_closed es None = None
unless_closed es (Some o) = cond (is_closed o.job es) None (Some o)

greatest_has : (os : List Opening) (o : Opening) → greatest os ≡ Some o → Has os o
greatest_has [] o h = absurd (let n : None ≡ Some o = h in cc)
greatest_has (p ∷ os) o h = go (greatest os) (greatest_has os o) h
  where
    go : (r : Option Opening) → (r ≡ Some o → Has os o) → greater p r ≡ Some o → Has (p ∷ os) o
    go None rec k = inl (some_same p o k)
    go (Some q) rec k = by (nat_lt p.ask.number q.ask.number) k
      where
        by : (b : Bool) → cond b (Some q) (Some p) ≡ Some o → Has (p ∷ os) o
        by true j = inr (rec j)
        by false j = inl (some_same p o j)

pub open_job_is_last : (flight : ℕ) (es : List Entry) → IsLegal es → unless_closed es (last_of flight es) ≡ open_job_of flight es
unfolding open_job_of last_of jobs_of
open_job_is_last flight es l = go (find test (jobs_of flight es)) refl
  where
    test : Opening → Bool
    test o = not (is_closed o.job es)

    own : (o : Opening) → Has (jobs_of flight es) o → Has (openings es) o × (o.ask.flight ≡ flight)
    own o h = (has_filter (λ (x : Opening). x.ask.flight == flight) (openings es) o h, same_number o.ask.flight flight (has_passed (λ (x : Opening). x.ask.flight == flight) (openings es) o h))

    go : (f : Option Opening) → find test (jobs_of flight es) ≡ f → unless_closed es (greatest (jobs_of flight es)) ≡ f
    go (Some o) e =
        let f = find_has test (jobs_of flight es) o e in
        let k = own o f.0 in
        let u : is_closed o.job es ≡ false = not_true (is_closed o.job es) f.1 in
        let last : greatest (jobs_of flight es) ≡ Some o = subst (λ g. greatest (jobs_of g es) ≡ Some o) k.1 (last_is_open es l o k.0 u) in
        rw (last, u) refl
    go None e = at (greatest (jobs_of flight es)) refl
      where
        at : (g : Option Opening) → greatest (jobs_of flight es) ≡ g → unless_closed es g ≡ None
        at None q = refl
        at (Some o) q = by (is_closed o.job es) refl
          where
            by : (b : Bool) → is_closed o.job es ≡ b → cond b None (Some o) ≡ None
            by true u = refl
            by false u =
                let k = own o (greatest_has (jobs_of flight es) o q) in
                let f = open_job_is_found es o (legal_is_orderly es l) k.0 u in
                let g : find test (jobs_of flight es) ≡ Some o = subst (λ n. find test (jobs_of n es) ≡ Some o) k.1 f in
                absurd (let n : Some o ≡ None = sym g ∙ e in cc)
