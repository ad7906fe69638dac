-- What is counted of each job, as entries come.
use Rattle.std.proofs.Common.{ℕ, ◌+◌, ◌≤◌, ◌==◌, Bool, true, false, cond, List, [], ◌∷◌, ◌++◌, ◌≡◌, length, filter, length-append, refl, ap, sym, subst, ◌∙◌, arith, Option, Some}
use Rattle.std.specs.Prelude.{sum_by}
use Rattle.std.specs.Ordering.{nat_cmp}
use Rattle.std.specs.Cmp.{unsigned_ties}
use Rattle.std.specs.BTreeMap as tree
use Rattle.std.specs.BTreeMap.{BTreeMap, is_at}
use Rattle.std.proofs.lemmas.List.Elements.{filter-append}
use Rattle.uss_event.specs.declared.entries.Entry.{Entry}
use Rattle.uss_event.specs.declared.entries.Entry.TheVariants as Enters
use Rattle.uss_law_dss.proofs.Tests.{same_number}
use Rattle.uss_event.specs.declared.entries.Trial.{Trial}
use Rattle.uss_law_book.specs.Lists.{trials}
use Rattle.uss_law_book.specs.Contents.{trials_of}
use Rattle.uss_law_book.specs.Coding.{record_length}
use Rattle.uss_law_book.proofs.Entries.{trials_append}
use Rattle.uss_law_book.proofs.Bytes.{bytes_grow}
use Rattle.uss_book_rules.specs.Speaks.{job_of}
use Rattle.uss_book_index.specs.declared.tally.Tally.{Tally}
use Rattle.uss_law_book.specs.Changes.{is_later_of, bytes_of}
use Rattle.uss_book_index.specs.Tallies.{IsTally, AreTallies}

pub attempts_grow : (job : ℕ) (es : List Entry) (e : Entry) → length (trials_of job (es ++ e ∷ [])) ≡ length (trials_of job es) + length (trials_of job (e ∷ []))
unfolding trials_of
attempts_grow job es e =
    ap (λ (l : List Trial). length (filter (λ t. t.job == job) l)) (trials_append es (e ∷ []))
    ∙ ap length (filter-append (λ (t : Trial). t.job == job) (trials es) (trials (e ∷ [])))
    ∙ length-append (filter (λ (t : Trial). t.job == job) (trials es)) (filter (λ (t : Trial). t.job == job) (trials (e ∷ [])))

-- an entry counts for its job alone
not_later : (job : ℕ) (e : Entry) → (job_of e == job) ≡ false → sum_by record_length (filter (is_later_of job) (e ∷ [])) ≡ 0
not_later job (Enters.Owner owner) h = refl
not_later job (Enters.Opened o) h = refl
not_later job (Enters.TicketOpen j) h = rw h refl
not_later job (Enters.Pending t) h = rw h refl
not_later job (Enters.Held holding) h = rw h refl
not_later job (Enters.Deciding d) h = rw h refl
not_later job (Enters.Done d) h = rw h refl
not_later job (Enters.TicketGone j) h = rw h refl
not_later job (Enters.Sent n) h = rw h refl

not_tried : (job : ℕ) (e : Entry) → (job_of e == job) ≡ false → length (trials_of job (e ∷ [])) ≡ 0
unfolding trials_of
not_tried job (Enters.Pending t) h = rw h refl
not_tried job _ h = refl

pub counted : (old new : BTreeMap ℕ Tally) (es : List Entry) (e : Entry) (t u : Tally) → AreTallies old es → tree.get nat_cmp old (job_of e) ≡ Some t → u.attempts ≡ t.attempts + length (trials_of (job_of e) (e ∷ []))
    → u.bytes ≡ t.bytes + sum_by record_length (filter (is_later_of (job_of e)) (e ∷ [])) → u.bytes ≤ t.bytes + 2085482354
    → ((q : ℕ) → tree.get nat_cmp new q ≡ cond (is_at (nat_cmp (job_of e)) q) (Some u) (tree.get nat_cmp old q)) → AreTallies new (es ++ e ∷ [])
counted old new es e t u are here attempts bytes small put = λ job. go job (job_of e == job) refl
  where
    got : (job : ℕ) (b : Bool) → (job_of e == job) ≡ b → tree.get nat_cmp new job ≡ cond b (Some u) (tree.get nat_cmp old job)
    got job b h = put job ∙ ap (λ x. cond x (Some u) (tree.get nat_cmp old job)) (sym (unsigned_ties (job_of e) job) ∙ h)

    at_job : IsTally (es ++ e ∷ []) (job_of e) (Some u)
    at_job =
        let was : IsTally es (job_of e) (Some t) = subst (λ (o : Option Tally). IsTally es (job_of e) o) here (are (job_of e)) in
        record {
          attempts = attempts ∙ ap (λ n. n + length (trials_of (job_of e) (e ∷ []))) was.attempts ∙ sym (attempts_grow (job_of e) es e);
          bytes = bytes ∙ ap (λ n. n + sum_by record_length (filter (is_later_of (job_of e)) (e ∷ []))) was.bytes ∙ sym (bytes_grow (job_of e) es e);
          small = (let l = length-append es (e ∷ []) in let w = was.small in omega (arith, l, w, small));
        }

    at_other : (job : ℕ) → (job_of e == job) ≡ false → IsTally (es ++ e ∷ []) job (tree.get nat_cmp old job)
    at_other job h =
        let a = attempts_grow job es e in
        let b = bytes_grow job es e in
        let c = not_tried job e h in
        let d = not_later job e h in
        let was = are job in
        record { attempts = was.attempts ∙ omega (arith, a, c); bytes = was.bytes ∙ omega (arith, b, d); small = (let l = length-append es (e ∷ []) in let w = was.small in omega (arith, l, w)) }

    go : (job : ℕ) (b : Bool) → (job_of e == job) ≡ b → IsTally (es ++ e ∷ []) job (tree.get nat_cmp new job)
    go job true h =
        subst (λ (o : Option Tally). IsTally (es ++ e ∷ []) job o) (sym (got job true h)) (subst (λ j. IsTally (es ++ e ∷ []) j (Some u)) (same_number (job_of e) job h) at_job)
    go job false h = subst (λ (o : Option Tally). IsTally (es ++ e ∷ []) job o) (sym (got job false h)) (at_other job h)

pub none_counted : (m : BTreeMap ℕ Tally) → m.entries ≡ [] → AreTallies m []
unfolding trials_of bytes_of
none_counted m none = λ job. rw none (record { attempts = refl; bytes = refl; small = omega arith })

-- the same, by the job's number
pub counted_at : (old new : BTreeMap ℕ Tally) (es : List Entry) (e : Entry) (job : ℕ) (t u : Tally) → job ≡ job_of e → AreTallies old es → tree.get nat_cmp old job ≡ Some t
    → u.attempts ≡ t.attempts + length (trials_of (job_of e) (e ∷ [])) → u.bytes ≡ t.bytes + sum_by record_length (filter (is_later_of (job_of e)) (e ∷ [])) → u.bytes ≤ t.bytes + 2085482354
    → ((q : ℕ) → tree.get nat_cmp new q ≡ cond (is_at (nat_cmp job) q) (Some u) (tree.get nat_cmp old q)) → AreTallies new (es ++ e ∷ [])
counted_at old new es e job t u of are here attempts bytes small put =
    counted old new es e t u are (subst (λ j. tree.get nat_cmp old j ≡ Some t) of here) attempts bytes small
    (λ q. subst (λ j. tree.get nat_cmp new q ≡ cond (is_at (nat_cmp j) q) (Some u) (tree.get nat_cmp old q)) of (put q))
