-- That an exchange makes no more calls than its rounds and what is found allow.
use Rattle.std.proofs.Common.{ℕ, zero, suc, ℤ, ◌+◌, ◌*◌, ◌≤◌, ◌≡◌, inl, inr, List, [], ◌∷◌, length, max, refl, ap, sym, subst, ◌∙◌, arith}
use Rattle.uss_event.specs.declared.asks.AskRefusal.{AskRefusal}
use Rattle.uss_event.specs.declared.asks.Conform.{Conform}
use Rattle.uss_event.specs.declared.events.Answer.TheVariants as Answers
use Rattle.uss_event.specs.declared.events.Said.TheVariants as Says
use Rattle.uss_event.specs.declared.events.Event.{Event}
use Rattle.uss_event.specs.declared.events.Event.TheVariants as Comes
use Rattle.uss_law_dss.proofs.Tests.{some_same}
use Rattle.uss_event.specs.declared.entries.Opening.{Opening}
use Rattle.uss_law_book.specs.Contents.{open_job_of, rounds_of}
use Rattle.uss_law_duty.specs.Duties.{clamped}
use Rattle.uss_law_supplier.specs.Turns.{Standing, Turn}
use Rattle.uss_law_supplier.specs.Asks.{refusing}
use Rattle.uss_law_asking.specs.Exchange.{Exchanged, turn_of, stands_then, IsBegun, calls_made, AllFit, most_found, found_before, call_bound, CallsAreBounded, CallsOfJobsAreBounded}
use Rattle.uss_law_asking.specs.Refused.{ask_refusal}
use Rattle.uss_law_asking.proofs.Budget.{cost, IsWithin}
use Rattle.uss_law_asking.proofs.Bounded.{goes_within, ends_within, bounded}
use Rattle.uss_law_asking.proofs.First.{OfJob, FirstStep, FirstIs, IsFor, named_end, first_step, of_ask}
use Rattle.uss_law_asking.proofs.Outcomes.{refuses_none, steady_none, most}

cost_is : (r n : ℕ) → cost r n ≡ r * (2 + n)
cost_is zero n = omega arith
cost_is (suc r) n = let e = cost_is r n in grind (arith, e)

-- where the first step is of a job
by_job : (s : Standing) (moment : ℤ) (event : Event) (o : Opening) (xs : List Exchanged) → OfJob s event o (turn_of s moment event) → IsBegun s moment event xs → AllFit xs
    → calls_made s moment event xs ≤ call_bound (rounds_of o.ask.wish) (max (found_before s.values (open_job_of o.ask.flight s.book)) (most_found xs))
by_job s moment event o xs j begun fit =
    let f = found_before s.values (open_job_of o.ask.flight s.book) in
    let n = max f (most_found xs) in
    let m = most f (most_found xs) in
    let l = at xs n m.1 begun fit (j.within n m.0) in
    let c = cost_is (rounds_of o.ask.wish) n in
    subst (λ k. calls_made s moment event xs ≤ 4 + k) c (omega (arith, l))
  where
    at : (xs : List Exchanged) (n : ℕ) → most_found xs ≤ n → IsBegun s moment event xs → AllFit xs → IsWithin n s o (turn_of s moment event) (5 + cost (rounds_of o.ask.wish) n)
        → suc (calls_made s moment event xs) ≤ 5 + cost (rounds_of o.ask.wish) n
    at [] n few begun fit w = let l = ends_within n s o (turn_of s moment event) (5 + cost (rounds_of o.ask.wish) n) (omega arith) w in omega (arith, l)
    at (x ∷ xs) n few begun fit w =
        let t = turn_of s moment event in
        let l = goes_within n moment s o t x xs (5 + cost (rounds_of o.ask.wish) n) (λ c w. bounded n moment (stands_then s t) o x xs c w begun.2 fit few) w begun.1 in
        omega (arith, l)

-- where it makes no call
no_call : (s : Standing) (moment : ℤ) (event : Event) (b : ℕ) → (turn_of s moment event).sends ≡ [] → calls_made s moment event [] ≤ b
no_call s moment event b e = let l : length (turn_of s moment event).sends ≡ 0 = ap length e in omega (arith, l)

by_refusal : (s : Standing) (moment : ℤ) (event : Event) (r : AskRefusal) (xs : List Exchanged) (b : ℕ) → turn_of s moment event ≡ refusing s r → IsBegun s moment event xs → calls_made s moment event xs ≤ b
by_refusal s moment event r [] b q begun = no_call s moment event b (ap (λ (t : Turn). t.sends) q)
by_refusal s moment event r (x ∷ xs) b q begun = refuses_none s r (turn_of s moment event) q begun.0

by_steady : (s : Standing) (moment : ℤ) (event : Event) (f : Conform) (xs : List Exchanged) (b : ℕ) → (turn_of s moment event).said ≡ Says.Answer (Answers.Steady f) → (turn_of s moment event).sends ≡ [] → IsBegun s moment event xs
    → calls_made s moment event xs ≤ b
by_steady s moment event f [] b q n begun = no_call s moment event b n
by_steady s moment event f (x ∷ xs) b q n begun = steady_none f (turn_of s moment event).said q begun.0

pub calls_are_bounded : CallsAreBounded
calls_are_bounded s moment ask xs sound begun fit = go (of_ask s (Comes.Ask ask) (clamped moment) ask (λ book. refl) sound)
  where
    go : FirstIs (IsFor ask) s (Comes.Ask ask) (ask_refusal s.book (clamped moment) ask) (turn_of s moment (Comes.Ask ask))
        → calls_made s moment (Comes.Ask ask) xs ≤ call_bound (rounds_of ask.wish) (max (found_before s.values (open_job_of ask.flight s.book)) (most_found xs))
    go (inl (r, e, q)) = by_refusal s moment (Comes.Ask ask) r xs (call_bound (rounds_of ask.wish) (max (found_before s.values (open_job_of ask.flight s.book)) (most_found xs))) q begun
    go (inr (e, o, p, j)) =
        subst (λ k. calls_made s moment (Comes.Ask ask) xs ≤ call_bound k (max (found_before s.values (open_job_of ask.flight s.book)) (most_found xs))) p.rounds
        (subst (λ f. calls_made s moment (Comes.Ask ask) xs ≤ call_bound (rounds_of o.ask.wish) (max (found_before s.values (open_job_of f s.book)) (most_found xs))) p.flight (by_job s moment (Comes.Ask ask) o xs j begun fit))

pub calls_of_jobs_are_bounded : CallsOfJobsAreBounded
calls_of_jobs_are_bounded s moment event xs o operators sound begun fit named = go (first_step s (clamped moment) event operators sound)
  where
    go : FirstStep s (clamped moment) event (turn_of s moment event) → calls_made s moment event xs ≤ call_bound (rounds_of o.ask.wish) (max (found_before s.values (open_job_of o.ask.flight s.book)) (most_found xs))
    go (inl (inl (r, e, q))) = by_refusal s moment event r xs (call_bound (rounds_of o.ask.wish) (max (found_before s.values (open_job_of o.ask.flight s.book)) (most_found xs))) q begun
    go (inl (inr (e, p, t, j))) =
        let same : p ≡ o = some_same p o (sym (named_end event event s moment xs p j.named) ∙ named) in
        subst (λ (x : Opening). calls_made s moment event xs ≤ call_bound (rounds_of x.ask.wish) (max (found_before s.values (open_job_of x.ask.flight s.book)) (most_found xs))) same (by_job s moment event p xs j begun fit)
    go (inr (e, f, a, q, n)) = by_steady s moment event f xs (call_bound (rounds_of o.ask.wish) (max (found_before s.values (open_job_of o.ask.flight s.book)) (most_found xs))) q n begun
