-- The index, as entries come.
use Rattle.std.proofs.Common.{ℕ, ◌+◌, ◌^◌, ◌<◌, ◌≤◌, ◌==◌, List, [], ◌∷◌, ◌++◌, ◌≡◌, length, length-append, ap, sym, ◌∙◌, arith, Option, Some, None, slice_get}
use Rattle.std.specs.Option.{option_and_then}
use Rattle.std.specs.Ordering.{nat_cmp}
use Rattle.std.specs.BTreeMap as tree
use Rattle.uss_event.specs.declared.entries.Entry.{Entry}
use Rattle.uss_event.specs.declared.entries.Entry.TheVariants.{Opened, Pending}
use Rattle.uss_law_dss.proofs.Lists.{length-filter_le}
use Rattle.uss_event.specs.declared.entries.Trial.{Trial}
use Rattle.uss_law_book.specs.Lists.{openings, trials}
use Rattle.uss_law_book.specs.Contents.{trials_of}
use Rattle.uss_law_book.specs.Legal.{MayFollow}
use Rattle.uss_law_book.proofs.Entries.{openings_append, trials_append}
use Rattle.uss_book_rules.specs.Speaks.{job_of}
use Rattle.uss_book_index.specs.Firsts.{IsAt}
use Rattle.uss_book_index.specs.Tallies.{AreTallies, CanGrow}
use Rattle.uss_book_index.specs.declared.tally.Tally.{Tally}
use Rattle.std.specs.BTreeMap.{BTreeMap}
use Rattle.uss_book_index.specs.Index.{job_after, tag_after}

-- what a place finds
pub got_first : (es : List Entry) (w : Option ℕ) (o : Option Entry) → IsAt es (Some w) o → option_and_then (slice_get es) w ≡ o
got_first es None o h = sym h
got_first es (Some n) o h = h.0

openings_more : (es : List Entry) (e : Entry) → length (openings (es ++ e ∷ [])) ≡ length (openings es) + length (openings (e ∷ []))
openings_more es e = ap length (openings_append es (e ∷ [])) ∙ length-append (openings es) (openings (e ∷ []))

trials_more : (es : List Entry) (e : Entry) → length (trials (es ++ e ∷ [])) ≡ length (trials es) + length (trials (e ∷ []))
trials_more es e = ap length (trials_append es (e ∷ [])) ∙ length-append (trials es) (trials (e ∷ []))

pub jobs_numbered : (es : List Entry) (e : Entry) (n : ℕ) → MayFollow es e → n ≡ length (openings es) → job_after n e ≡ length (openings (es ++ e ∷ []))
jobs_numbered es (Opened o) n m is =
    let g = openings_more es (Opened o) in
    let d = m.due.next in
    d ∙ sym g
jobs_numbered es e n m is = let g = openings_more es e in is ∙ omega (arith, g)

pub tags_numbered : (es : List Entry) (e : Entry) (n : ℕ) → MayFollow es e → n ≡ length (trials es) → tag_after n e ≡ length (trials (es ++ e ∷ []))
tags_numbered es (Pending t) n m is =
    let g = trials_more es (Pending t) in
    let d = m.due.next in
    d ∙ sym g
tags_numbered es e n m is = let g = trials_more es e in is ∙ omega (arith, g)

fewer_trials : (es : List Entry) → length (trials es) ≤ length es
fewer_trials [] = omega arith
fewer_trials (Pending t ∷ es) = let r = fewer_trials es in omega (arith, r)
fewer_trials (_ ∷ es) = let r = fewer_trials es in omega (arith, r)

fewer_of_job : (job : ℕ) (es : List Entry) → length (trials_of job es) ≤ length (trials es)
unfolding trials_of
fewer_of_job job es = length-filter_le (λ (t : Trial). t.job == job) (trials es)

-- the attempts of a job fit
attempts_fit : (es : List Entry) (e : Entry) → MayFollow es e → length es < 2 ^ 64 → length (trials_of (job_of e) es) + length (trials_of (job_of e) (e ∷ [])) < 2 ^ 64
unfolding trials_of
attempts_fit es (Pending trial) m h =
    let a = length-filter_le (λ (t : Trial). t.job == trial.job) (trials es) in
    let b = length-filter_le (λ (t : Trial). t.job == trial.job) (trials (Pending trial ∷ [])) in
    let n : trial.tag ≡ length (trials es) + 1 = m.due.next in
    let f : trial.tag < 2 ^ 64 = m.coding.tag_fits in
    omega (arith, a, b, n, f)
attempts_fit es e m h =
    let a = length-filter_le (λ (t : Trial). t.job == job_of e) (trials es) in
    let b = fewer_trials es in
    omega (arith, a, b, h)

pub can_grow : (tallies : BTreeMap ℕ Tally) (es : List Entry) (e : Entry) → AreTallies tallies es → MayFollow es e → length es < 2 ^ 64 → CanGrow (tree.get nat_cmp tallies (job_of e)) e
can_grow tallies es e are m h =
    let t = are (job_of e) in
    let a = attempts_fit es e m h in
    record {
      attempts = rw t.attempts a;
      bytes = (let s = t.small in omega (arith, s, h));
    }
