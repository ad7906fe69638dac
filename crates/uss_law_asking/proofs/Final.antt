-- That a final answer of an exchange is what the book keeps; and when an exchange refuses, or says that no change is asked for.
use Rattle.std.proofs.Common.{ℕ, ℤ, ◌≡◌, inl, inr, true, false, List, [], ◌∷◌, refl, ap, sym, subst, ◌∙◌, Option, Some, None}
use Rattle.uss_event.specs.Pairs.{OperationalIntent}
use Rattle.uss_event.specs.declared.asks.AskRefusal.{AskRefusal}
use Rattle.uss_event.specs.declared.asks.Conform.{Conform}
use Rattle.uss_event.specs.declared.asks.Wish.{Wish}
use Rattle.uss_event.specs.declared.entries.Owner.{Owner}
use Rattle.uss_event.specs.declared.entries.Entry.{Entry}
use Rattle.uss_event.specs.declared.events.Answer.{Answer}
use Rattle.uss_event.specs.declared.events.Answer.TheVariants as Answers
use Rattle.uss_event.specs.declared.events.Said.{Said}
use Rattle.uss_event.specs.declared.events.Said.TheVariants as Says
use Rattle.uss_event.specs.declared.events.Event.{Event}
use Rattle.uss_law_dss.proofs.Tests.{some_same, not_both}
use Rattle.uss_event.specs.declared.entries.Opening.{Opening}
use Rattle.uss_event.specs.declared.entries.Trial.{Trial}
use Rattle.uss_event.specs.declared.entries.Holding.{Holding}
use Rattle.uss_event.specs.declared.entries.Closing.{Closing}
use Rattle.uss_law_book.specs.Contents.{is_closed, trial_of, holding_of, ending_of}
use Rattle.uss_law_duty.specs.Duties.{says_something, clamped}
use Rattle.uss_law_duty.specs.Answers.{is_final, flight_of, by_trial, by_end, by_close, kept_answer}
use Rattle.uss_law_duty.specs.Sayings.{IsKeptAnswer}
use Rattle.uss_law_supplier.specs.Turns.{Standing}
use Rattle.uss_law_supplier.specs.Positions.{acting_as, judged_unless, positioned_for, positioned_with}
use Rattle.uss_law_supplier.specs.Step.{stepped}
use Rattle.uss_law_asking.specs.Exchange.{Exchanged, IsExchange, turn_of}
use Rattle.uss_law_asking.specs.Refused.{refusal_at, finding_at}
use Rattle.uss_law_asking.specs.Causes.{outcome, book_then, is_answer, is_ending, IsDoneSo, AsksForNoChange, FinalAnswersAreKept, EndsAreDone, SteadyAsksForNoChange, RefusalsAreByBook, RefusalsComeFirst}
use Rattle.uss_law_asking.proofs.Ends.{none_done}
use Rattle.uss_law_asking.proofs.Caused.{kept_final, open_keeps_none, why_stops, stop_is, said_is, refused_not, same_job, final_is_answer, none_some}
use Rattle.uss_law_asking.proofs.Alone.{quiet_or_not}
use Rattle.uss_law_asking.proofs.Stops.{IsOnce}
use Rattle.uss_law_asking.proofs.Outcomes.{Outcome, outcome_of}
use Rattle.uss_law_asking.proofs.Outcomes.Outcome.{Refused, Steady, Kept, Stopped}

-- the final answers

pub final_answers_are_kept : FinalAnswersAreKept
final_answers_are_kept s moment event xs a c f = (λ h. to (outcome_of s moment event xs c) h, λ h. from (outcome_of s moment event xs c) h.0 h.1)
  where
    to : Outcome s moment event xs → outcome s moment event xs ≡ Says.Answer a → (is_answer (outcome s moment event xs) ≡ true) × IsKeptAnswer s.owner (book_then s moment event xs) event a
    to (Refused r) h = refused_not r.refusal a (outcome s moment event xs) r.is h
    to (Steady r) h = not_both (is_final a) f (ap is_final (said_is a (Answers.Steady r.finding) (outcome s moment event xs) h r.is))
    to (Kept r) h =
        let e = said_is r.answer a (outcome s moment event xs) r.is h in
        (ap is_answer h ∙ final_is_answer a f, record { opening = r.opening; named = r.named; kept = r.kept ∙ ap Some e })
    to (Stopped r) h =
        let e = said_is a r.answer (outcome s moment event xs) h r.is in
        not_both (is_final a) f (ap is_final e ∙ (stop_is s.owner r.opening (book_then s moment event xs) r.last r.answer (why_stops s.owner r.opening (book_then s moment event xs) r.last r.answer r.stops)).0)

    from : Outcome s moment event xs → is_answer (outcome s moment event xs) ≡ true → IsKeptAnswer s.owner (book_then s moment event xs) event a → outcome s moment event xs ≡ Says.Answer a
    from (Refused r) h k = not_both (is_answer (outcome s moment event xs)) h (ap is_answer r.is)
    from (Steady r) h k = not_both (is_answer (outcome s moment event xs)) h (ap is_answer r.is)
    from (Kept r) h k =
        let o = same_job event (book_then s moment event xs) r.opening k.opening r.named k.named in
        let e : r.answer ≡ a = some_same r.answer a (sym r.kept ∙ ap (λ (p : Opening). kept_answer s.owner p (book_then s moment event xs)) o ∙ k.kept) in
        r.is ∙ ap (λ (x : Answer). Says.Answer x) e
    from (Stopped r) h k =
        let o = same_job event (book_then s moment event xs) r.opening k.opening r.named k.named in
        let n = open_keeps_none s.owner k.opening (book_then s moment event xs) (subst (λ (p : Opening). is_closed p.job (book_then s moment event xs) ≡ false) o r.unclosed) in
        none_some (kept_answer s.owner k.opening (book_then s moment event xs)) a n k.kept

-- the ends of jobs

end_is_final : (a : Answer) → is_ending a ≡ true → is_final a ≡ true
end_is_final (Answers.Conflict flight manager rule) h = refl
end_is_final (Answers.Stale missing) h = refl
end_is_final Answers.Cancelled h = refl
end_is_final (Answers.Ended flight) h = refl
end_is_final (Answers.Planned flight tag alternative ovn version) h = cc
end_is_final (Answers.Changed flight tag alternative ovn version) h = cc
end_is_final (Answers.Steady f) h = cc
end_is_final (Answers.Crowded count) h = cc
end_is_final (Answers.DssRefused number) h = cc
end_is_final (Answers.PeerRefused peer status) h = cc
end_is_final (Answers.Unsettled tag) h = cc

trial_no_end : {P : Type 0} (flight : ℕ) (h : Holding) (x : Option Trial) (a : Answer) → by_trial flight h x ≡ Some a → is_ending a ≡ true → P
trial_no_end flight h None a e i = cc
trial_no_end {P} flight h (Some t) a e i = go t.previous e
  where
    go : (p : Option (List ℕ)) → by_trial flight h (Some (record t { previous = p })) ≡ Some a → P
    go None q = not_both (is_ending a) i (ap is_ending (sym (some_same (Answers.Planned flight h.tag t.alternative h.ovn h.version) a q)))
    go (Some p) q = not_both (is_ending a) i (ap is_ending (sym (some_same (Answers.Changed flight h.tag t.alternative h.ovn h.version) a q)))

abbrev Closes : ℕ → Option Closing → Answer → Type 0
Closes flight x a = (d : Closing) × (x ≡ Some d) × (by_end flight d.end ≡ a)

closes_so : (book : List Entry) (flight : ℕ) (h : Option Holding) (x : Option Closing) (a : Answer) → by_close book flight h x ≡ Some a → is_ending a ≡ true → Closes flight x a
closes_so book flight (Some h) x a e i = trial_no_end flight h (trial_of h.tag book) a e i
closes_so book flight None (Some d) a e i = (d, refl, some_same (by_end flight d.end) a e)
closes_so book flight None None a e i = cc

kept_end_is : (owner : Owner) (o : Opening) (book : List Entry) (a : Answer) → kept_answer owner o book ≡ Some a → is_ending a ≡ true → Closes (flight_of owner o) (ending_of o.job book) a
unfolding kept_answer
kept_end_is owner o book a e i = closes_so book (flight_of owner o) (holding_of o.job book) (ending_of o.job book) a e i

keeps_end : (owner : Owner) (o : Opening) (book : List Entry) (d : Closing) → IsOnce o.job book → ending_of o.job book ≡ Some d → kept_answer owner o book ≡ Some (by_end (flight_of owner o) d.end)
unfolding kept_answer
keeps_end owner o book d (inl h) e = rw (h, e) refl
keeps_end owner o book d (inr n) e = none_some (ending_of o.job book) d n e

pub ends_are_done : EndsAreDone
ends_are_done s moment event xs a c i = (to, λ h. from (outcome_of s moment event xs c) h.0 h.1)
  where
    to : outcome s moment event xs ≡ Says.Answer a → (is_answer (outcome s moment event xs) ≡ true) × IsDoneSo s.owner (book_then s moment event xs) event a
    to h =
        let k = (final_answers_are_kept s moment event xs a c (end_is_final a i)).0 h in
        let d = kept_end_is s.owner k.1.opening (book_then s moment event xs) a k.1.kept i in
        (k.0, record { opening = k.1.opening; named = k.1.named; done = d.0; ended = d.1; is = d.2 })

    from : Outcome s moment event xs → is_answer (outcome s moment event xs) ≡ true → IsDoneSo s.owner (book_then s moment event xs) event a → outcome s moment event xs ≡ Says.Answer a
    from (Refused r) h k = not_both (is_answer (outcome s moment event xs)) h (ap is_answer r.is)
    from (Steady r) h k = not_both (is_answer (outcome s moment event xs)) h (ap is_answer r.is)
    from (Kept r) h k =
        let o = same_job event (book_then s moment event xs) r.opening k.opening r.named k.named in
        let once = subst (λ (p : Opening). IsOnce p.job (book_then s moment event xs)) o r.once in
        let e = keeps_end s.owner k.opening (book_then s moment event xs) k.done once k.ended ∙ ap Some k.is in
        let q : r.answer ≡ a = some_same r.answer a (sym r.kept ∙ ap (λ (p : Opening). kept_answer s.owner p (book_then s moment event xs)) o ∙ e) in
        r.is ∙ ap (λ (x : Answer). Says.Answer x) q
    from (Stopped r) h k =
        let o = same_job event (book_then s moment event xs) r.opening k.opening r.named k.named in
        let n = none_done k.opening.job (book_then s moment event xs) (subst (λ (p : Opening). is_closed p.job (book_then s moment event xs) ≡ false) o r.unclosed) in
        none_some (ending_of k.opening.job (book_then s moment event xs)) k.done n k.ended

-- the refusals

refusal_is : (q r : AskRefusal) (said : Said) → said ≡ Says.Refused q → said ≡ Says.Refused r → q ≡ r
refusal_is q r said h k = let e : Says.Refused q ≡ Says.Refused r = sym h ∙ k in cc (e)

answer_not : {P : Type 0} (r : AskRefusal) (a : Answer) (said : Said) → said ≡ Says.Answer a → said ≡ Says.Refused r → P
answer_not r a said h k = refused_not r a said k h

pub refusals_are_by_book : RefusalsAreByBook
refusals_are_by_book s moment event xs refusal c = (λ h. to (outcome_of s moment event xs c) h, λ h. from (outcome_of s moment event xs c) h)
  where
    to : Outcome s moment event xs → outcome s moment event xs ≡ Says.Refused refusal → refusal_at s (clamped moment) event ≡ Some refusal
    to (Refused r) h = r.by_book ∙ ap Some (refusal_is r.refusal refusal (outcome s moment event xs) r.is h)
    to (Steady r) h = answer_not refusal (Answers.Steady r.finding) (outcome s moment event xs) r.is h
    to (Kept r) h = answer_not refusal r.answer (outcome s moment event xs) r.is h
    to (Stopped r) h = answer_not refusal r.answer (outcome s moment event xs) r.is h

    from : Outcome s moment event xs → refusal_at s (clamped moment) event ≡ Some refusal → outcome s moment event xs ≡ Says.Refused refusal
    from (Refused r) h = r.is ∙ ap (λ (x : AskRefusal). Says.Refused x) (some_same r.refusal refusal (sym r.by_book ∙ h))
    from (Steady r) h = none_some (refusal_at s (clamped moment) event) refusal r.accepted h
    from (Kept r) h = none_some (refusal_at s (clamped moment) event) refusal r.accepted h
    from (Stopped r) h = none_some (refusal_at s (clamped moment) event) refusal r.accepted h

pub refusals_come_first : RefusalsComeFirst
refusals_come_first s moment event xs refusal c h = go (outcome_of s moment event xs c)
  where
    go : Outcome s moment event xs → xs ≡ []
    go (Refused r) = r.at_once
    go (Steady r) = r.at_once
    go (Kept r) = answer_not refusal r.answer (outcome s moment event xs) r.is h
    go (Stopped r) = answer_not refusal r.answer (outcome s moment event xs) r.is h

-- no change

steady_so : (s : Standing) (at : ℤ) (event : Event) (finding : Conform) → AsksForNoChange s at event finding → (stepped s at event).said ≡ Says.Answer (Answers.Steady finding)
steady_so s at event finding a =
    let p = a.position in
    ap (λ (e : Event). (stepped s at e).said) a.is
    ∙ ap (λ (x : Option OperationalIntent). (positioned_with s at p x).said) a.is_held
    ∙ ap (λ (x : Option Opening). (positioned_for s at p a.pair x).said) a.no_job
    ∙ ap (λ (x : Option ℤ). (judged_unless s at p a.pair x).said) a.not_late
    ∙ ap (λ (x : Option Wish). (acting_as s at p (finding_at s at p a.pair) x).said) a.no_change
    ∙ ap (λ (f : Conform). Says.Answer (Answers.Steady f)) a.finds

pub steady_asks_for_no_change : SteadyAsksForNoChange
steady_asks_for_no_change s moment event xs finding c = (λ h. to (outcome_of s moment event xs c) h, λ a. from xs c.exchange a)
  where
    to : Outcome s moment event xs → outcome s moment event xs ≡ Says.Answer (Answers.Steady finding) → AsksForNoChange s (clamped moment) event finding
    to (Refused r) h = refused_not r.refusal (Answers.Steady finding) (outcome s moment event xs) r.is h
    to (Steady r) h =
        let e : r.finding ≡ finding = (let q = said_is (Answers.Steady r.finding) (Answers.Steady finding) (outcome s moment event xs) r.is h in cc (q)) in
        subst (AsksForNoChange s (clamped moment) event) e r.asks
    to (Kept r) h =
        not_both (is_final r.answer) (kept_final s.owner r.opening (book_then s moment event xs) r.answer r.kept) (ap is_final (said_is r.answer (Answers.Steady finding) (outcome s moment event xs) r.is h))
    to (Stopped r) h =
        let w = stop_is s.owner r.opening (book_then s moment event xs) r.last r.answer (why_stops s.owner r.opening (book_then s moment event xs) r.last r.answer r.stops) in
        not_both (is_answer (Says.Answer r.answer)) w.1 (ap (λ (x : Answer). is_answer (Says.Answer x)) (said_is r.answer (Answers.Steady finding) (outcome s moment event xs) r.is h))

    from : (ys : List Exchanged) → IsExchange s moment event ys → AsksForNoChange s (clamped moment) event finding → outcome s moment event ys ≡ Says.Answer (Answers.Steady finding)
    from [] ex a = steady_so s (clamped moment) event finding a
    from (y ∷ ys) ex a = quiet_or_not (turn_of s moment event).said ex.0.0 (ap says_something (steady_so s (clamped moment) event finding a))
