-- That Conflict names the pair by which a choice of the exchange was blocked.
use Rattle.std.proofs.Common.{ℕ, ℤ, ◌+◌, ◌≤◌, ◌==◌, ◌≡◌, ◌⊎◌, inl, inr, Bool, true, false, List, [], ◌∷◌, ◌++◌, length, max, refl, ap, sym, subst, ◌∙◌, arith, Option, Some, None}
use Rattle.std.specs.List.{find}
use Rattle.std.specs.Option.{option_or}
use Rattle.std.proofs.lemmas.List.{append-nil, append_assoc}
use Rattle.std.proofs.lemmas.List.Folds.{find-append}
use Rattle.uss_event.specs.declared.rules.Verdict.{Verdict}
use Rattle.uss_event.specs.declared.asks.Wish.{Wish}
use Rattle.uss_event.specs.declared.asks.Wish.TheVariants.{Put, End}
use Rattle.uss_event.specs.declared.entries.Entry.{Entry}
use Rattle.uss_event.specs.declared.entries.Entry.TheVariants as Enters
use Rattle.uss_event.specs.declared.entries.Ending.{Ending}
use Rattle.uss_event.specs.declared.entries.Ending.TheVariants as Ends
use Rattle.uss_event.specs.declared.calls.PeerCall.TheVariants as Calls
use Rattle.uss_event.specs.declared.events.Answer.TheVariants as Answers
use Rattle.uss_event.specs.declared.events.Said.TheVariants as Says
use Rattle.uss_event.specs.declared.events.Event.{Event}
use Rattle.uss_event.specs.declared.events.Event.TheVariants as Comes
use Rattle.uss_law_dss.proofs.Tests.{equal_number, not_both, some_same}
use Rattle.uss_event.specs.declared.entries.Opening.{Opening}
use Rattle.uss_event.specs.declared.entries.Closing.{Closing}
use Rattle.uss_law_book.specs.Lists.{decisions, endings}
use Rattle.uss_law_book.specs.Legal.{IsDue, MayFollow, MayAllFollow, IsLegal, EndsWish}
use Rattle.uss_law_book.specs.Contents.{is_put, opening_of, is_ticket_open, is_closed, open_job_of, rounds_of, trials_of, decision_of, ending_of}
use Rattle.uss_law_book.proofs.Entries.{endings_append}
use Rattle.uss_law_book.proofs.Finds.{find_kept}
use Rattle.uss_law_book.proofs.Kept.{opening_has}
use Rattle.uss_law_book.proofs.Others.{decisions_append}
use Rattle.uss_law_book.proofs.Known.{Known, legal_known, decided_tried, decided_ticketed, ticket_puts}
use Rattle.uss_law_book.proofs.EachOrderly.{legal_rest, legal_longer}
use Rattle.uss_law_duty.specs.Duties.{book_after, clamped}
use Rattle.uss_law_duty.specs.Answers.{flight_of, by_end, job_named}
use Rattle.uss_law_supplier.specs.Turns.{Standing, Turn}
use Rattle.uss_law_supplier.specs.Typed.{IsEvent}
use Rattle.uss_law_asking.specs.Exchange.{Exchanged, call_in, event_in, turn_of, stands_then, stands_after, IsBegun, AllFit, AllTyped, most_found, found_before}
use Rattle.uss_law_asking.specs.Exchange.Exchanged.{OfDss, OfPeer}
use Rattle.uss_law_asking.specs.Causes.{IsCarriedOut, outcome, book_then, taken_in, IsBlockedBy, AtSomeStep, ConflictNamesThePair}
use Rattle.uss_law_asking.proofs.Budget.{cost, IsWaiting}
use Rattle.uss_law_asking.proofs.Bounded.{steps, first_fits, first_few}
use Rattle.uss_law_asking.proofs.Ends.{none_done}
use Rattle.uss_law_asking.proofs.Blocked.{is_conflict, is_in_conflict, ByChoice, Conflicts, conflicts_by_peer, conflicts_by_dss}
use Rattle.uss_law_asking.proofs.Blocked.Conflicts.{Free, Chooses, Keeps}
use Rattle.uss_law_asking.proofs.First.{FirstStep, named_end, first_step}
use Rattle.uss_law_asking.proofs.Outcomes.{dss_turn, peer_turn, refuses_none, steady_none, most}
use Rattle.uss_law_asking.proofs.Caused.{none_some, refused_not}
use Rattle.uss_law_asking.proofs.Final.{ends_are_done}
use Rattle.uss_law_asking.proofs.Sound.{IsSoundAt, waits_for, sound_then}
use Rattle.uss_law_asking.proofs.Stale.{new_ending, new_decision, decision_kept_after, decision_end}

-- a legal book ends a job as that decided, if it did

abbrev EndsAsDecided : List Entry → Type 0
EndsAsDecided book = (job : ℕ) (d c : Closing) → decision_of job book ≡ Some d → ending_of job book ≡ Some c → c.end ≡ d.end

no_trials : {P : Type 0} (job : ℕ) (book : List Entry) (d : Closing) → Known book → decision_of job book ≡ Some d → trials_of job book ≡ [] → P
no_trials job book d k e n = let l = decided_tried job book k (rw e refl) in let z : length (trials_of job book) ≡ 0 = ap length n in absurd (omega (arith, l, z))

as_decided : (book : List Entry) (job : ℕ) (d : Closing) (end : Ending) (o : Opening) (wish : Wish) → Known book → decision_of job book ≡ Some d → o.ask.wish ≡ wish → is_put wish ≡ true → EndsWish book job end wish → end ≡ d.end
as_decided book job d end o (Put to priority rounds proposals) k e w p (inl h) = ap (λ (x : Closing). x.end) (some_same (record { job = job; end = end }) d (sym h ∙ e))
as_decided book job d end o (Put to priority rounds proposals) k e w p (inr n) = no_trials job book d k e n.0
as_decided book job d end o End k e w p h = cc

may_end_so : (book : List Entry) (job : ℕ) (d : Closing) (end : Ending) → Known book → decision_of job book ≡ Some d → IsDue book (Enters.Done (record { job = job; end = end })) → end ≡ d.end
may_end_so book job d end known e due =
    let has = opening_has book job due.opening due.opened in
    let opened : opening_of due.opening.job book ≡ Some due.opening = ap (λ j. opening_of j book) has.1 ∙ due.opened in
    let ticket : is_ticket_open due.opening.job book ≡ true = ap (λ j. is_ticket_open j book) has.1 ∙ decided_ticketed job book known (rw e refl) in
    as_decided book job d end due.opening due.opening.ask.wish known e refl (ticket_puts book due.opening known opened ticket) due.wish

not_undone : {P : Type 0} (book : List Entry) (job : ℕ) (c : Closing) → is_closed job book ≡ false → ending_of job book ≡ Some c → P
not_undone book job c u h = none_some (ending_of job book) c (none_done job book u) h

decided_then : (book : List Entry) (e : Entry) → Known book → MayFollow book e → EndsAsDecided book → EndsAsDecided (book ++ e ∷ [])
decided_then book e known f old job d c a b = go (new_decision job book e d a) (new_ending job book e c b)
  where
    go : (decision_of job book ≡ Some d) ⊎ (e ≡ Enters.Deciding (record { job = job; end = d.end })) → (ending_of job book ≡ Some c) ⊎ (e ≡ Enters.Done (record { job = job; end = c.end })) → c.end ≡ d.end
    go (inl q) (inl r) = old job d c q r
    go (inl q) (inr r) = may_end_so book job d c.end known q (subst (λ (x : Entry). IsDue book x) r f.due)
    go (inr q) (inl r) = not_undone book job c (subst (λ (x : Entry). IsDue book x) q f.due).unfinished.unclosed r
    go (inr q) (inr r) = let w : Enters.Deciding (record { job = job; end = d.end }) ≡ Enters.Done (record { job = job; end = c.end }) = sym q ∙ r in cc (w)

decided_from : (before es : List Entry) → IsLegal before → EndsAsDecided before → MayAllFollow before es → EndsAsDecided (before ++ es)
decided_from before [] l p h = subst EndsAsDecided (sym (append-nil before)) p
decided_from before (e ∷ es) l p h =
    subst EndsAsDecided (append_assoc before (e ∷ []) es) (decided_from (before ++ e ∷ []) es (legal_longer [] before e l h.0) (decided_then before e (legal_known before l) h.0 p) h.1)

ends_as_decided : (book : List Entry) → IsLegal book → EndsAsDecided book
unfolding ending_of
ends_as_decided book h = decided_from [] book tt (λ job d c a b. cc) h

-- what the entry of a step decides and ends

decided_now : (job : ℕ) (book : List Entry) (end : Ending) → decision_of job book ≡ None → decision_of job (book ++ Enters.Deciding (record { job = job; end = end }) ∷ []) ≡ Some (record { job = job; end = end })
unfolding decision_of
decided_now job book end n =
    let p : Closing → Bool = λ c. c.job == job in
    ap (find p) (decisions_append book (Enters.Deciding (record { job = job; end = end }) ∷ [])) ∙ find-append p (decisions book) (record { job = job; end = end } ∷ []) ∙ ap (λ x. option_or x (find p (record { job = job; end = end } ∷ []))) n ∙ rw (equal_number job job refl) refl

ended_now : (job : ℕ) (book : List Entry) (end : Ending) → ending_of job book ≡ None → ending_of job (book ++ Enters.Done (record { job = job; end = end }) ∷ []) ≡ Some (record { job = job; end = end })
unfolding ending_of
ended_now job book end n =
    let p : Closing → Bool = λ c. c.job == job in
    ap (find p) (endings_append book (Enters.Done (record { job = job; end = end }) ∷ [])) ∙ find-append p (endings book) (record { job = job; end = end } ∷ []) ∙ ap (λ x. option_or x (find p (record { job = job; end = end } ∷ []))) n ∙ rw (equal_number job job refl) refl

ending_kept_after : (job : ℕ) (book : List Entry) (x : Option Entry) (c : Closing) → ending_of job book ≡ Some c → ending_of job (book_after book x) ≡ Some c
unfolding ending_of
ending_kept_after job book None c h = h
ending_kept_after job book (Some e) c h = ap (find (λ (c : Closing). c.job == job)) (endings_append book (e ∷ [])) ∙ find_kept (λ (c : Closing). c.job == job) (endings book) (endings (e ∷ [])) c h

ending_end : (job : ℕ) (from : Event) (s : Standing) (moment : ℤ) (xs : List Exchanged) (c : Closing) → ending_of job (book_after s.book (turn_of s moment from).entry) ≡ Some c → ending_of job (stands_after s moment from xs).book ≡ Some c
ending_end job from s moment [] c h = h
ending_end job from s moment (x ∷ xs) c h =
    let t = stands_then s (turn_of s moment from) in
    ending_end job (event_in x) t moment xs c (ending_kept_after job t.book (turn_of t moment (event_in x)).entry c h)

-- the supplier is sound at the end
sound_end : (s : Standing) (moment : ℤ) (event : Event) (xs : List Exchanged) → IsSoundAt s → IsEvent event → AllTyped xs → IsSoundAt (stands_after s moment event xs)
sound_end s moment event [] sound typed all = sound_then s moment event sound typed
sound_end s moment event (x ∷ xs) sound typed all = sound_end (stands_then s (turn_of s moment event)) moment (event_in x) xs (sound_then s moment event sound typed) all.0 all.1

-- how a reply comes to a conflict

conflicts_at : (n : ℕ) (s : Standing) (moment : ℤ) (o : Opening) (x : Exchanged) (b : ℕ) → IsWaiting n s o (call_in x) b → AllFit (x ∷ []) → Conflicts (taken_in s o (event_in x)) o (turn_of s moment (event_in x))
conflicts_at n s moment o (OfDss call reply) b w fit =
    let t = taken_in s o (Comes.Dss call reply) in
    subst (λ (x : Turn). Conflicts t o x) (sym (dss_turn n s moment o call reply b w fit.0)) (conflicts_by_dss t o call.ask reply w.kind w.is fit.0)
conflicts_at n s moment o (OfPeer (Calls.Notify job index base note) reply) b w fit = let e = w.is in cc
conflicts_at n s moment o (OfPeer (Calls.Details job flight manager base) reply) b w fit =
    let t = taken_in s o (Comes.Peer (Calls.Details job flight manager base) reply) in
    subst (λ (x : Turn). Conflicts t o x) (sym (peer_turn n s moment o job flight manager base reply b w fit.0)) (conflicts_by_peer t o job flight manager base reply fit.0)

taken_book : (s : Standing) (o : Opening) (x : Exchanged) → (taken_in s o (event_in x)).book ≡ s.book
taken_book s o (OfDss call reply) = refl
taken_book s o (OfPeer call reply) = refl

-- no conflict was decided

abbrev NoConflict : ℕ → List Entry → Type 0
NoConflict job book = (d : Closing) → decision_of job book ≡ Some d → is_conflict d.end ≡ false

free_then : (job : ℕ) (book : List Entry) (x : Option Entry) → is_in_conflict x ≡ false → NoConflict job book → NoConflict job (book_after book x)
free_then job book None h old d e = old d e
free_then job book (Some en) h old d e = elim (new_decision job book en d e) [ inl q ↦ old d q | inr q ↦ ap is_in_conflict (ap Some (sym q)) ∙ h ]

done_then : (job : ℕ) (book : List Entry) (x : Option Entry) (end : Ending) → x ≡ Some (Enters.Done (record { job = job; end = end })) → NoConflict job book → NoConflict job (book_after book x)
done_then job book None end h old d e = old d e
done_then job book (Some en) end h old d e = elim (new_decision job book en d e) [
  | inl q ↦ old d q
  | inr q ↦ (let w : Enters.Deciding (record { job = job; end = d.end }) ≡ Enters.Done (record { job = job; end = end }) = sym q ∙ some_same en (Enters.Done (record { job = job; end = end })) h in cc (w))
]

-- the end of an open job is that of the new entry
ends_now : (job : ℕ) (book : List Entry) (x : Option Entry) (c : Closing) → is_closed job book ≡ false → ending_of job (book_after book x) ≡ Some c → x ≡ Some (Enters.Done (record { job = job; end = c.end }))
ends_now job book None c u h = not_undone book job c u h
ends_now job book (Some e) c u h = elim (new_ending job book e c h) [ inl q ↦ not_undone book job c u q | inr q ↦ ap Some q ]

-- what the choice was blocked by is what is named

same_conflict : (o : Opening) (t : Standing) (f g : ℕ) (m k : List ℕ) (r q : Verdict) → Ends.Conflict f m r ≡ Ends.Conflict g k q → IsBlockedBy t o g k q → IsBlockedBy t o f m r
same_conflict o t f g m k r q e b =
    let x : g ≡ f = cc in
    let y : k ≡ m = cc in
    let z : q ≡ r = cc in
    subst (λ i. IsBlockedBy t o i m r) x (subst (λ i. IsBlockedBy t o g i r) y (subst (λ i. IsBlockedBy t o g k i) z b))

-- the entry may follow
follows_so : (s : Standing) (moment : ℤ) (event : Event) (e : Entry) → IsSoundAt (stands_then s (turn_of s moment event)) → (turn_of s moment event).entry ≡ Some e → MayFollow s.book e
follows_so s moment event e sound q = (legal_rest [] s.book (e ∷ []) (subst (λ (x : Option Entry). IsLegal (book_after s.book x)) q sound.legal)).0

named_is : (s : Standing) (moment : ℤ) (o : Opening) (x : Exchanged) (xs : List Exchanged) (t : Standing) (c : Closing) (f : ℕ) (m : List ℕ) (r : Verdict) → IsSoundAt (stands_then s (turn_of s moment (event_in x))) → is_closed o.job s.book ≡ false
    → IsLegal (stands_after s moment (event_in x) xs).book → ending_of o.job (stands_after s moment (event_in x) xs).book ≡ Some c → c.end ≡ Ends.Conflict f m r → ByChoice t o (turn_of s moment (event_in x)) → IsBlockedBy t o f m r
named_is s moment o x xs t c f m r sound u legal done end ch = go ch.enters
  where
    is : Ending
    is = Ends.Conflict ch.flight ch.manager ch.rule

    go : ((turn_of s moment (event_in x)).entry ≡ Some (Enters.Deciding (record { job = o.job; end = Ends.Conflict ch.flight ch.manager ch.rule }))) ⊎ ((turn_of s moment (event_in x)).entry ≡ Some (Enters.Done (record { job = o.job; end = Ends.Conflict ch.flight ch.manager ch.rule }))) → IsBlockedBy t o f m r
    go (inl q) =
        let due = (follows_so s moment (event_in x) (Enters.Deciding (record { job = o.job; end = is })) sound q).due in
        let now : decision_of o.job (book_after s.book (turn_of s moment (event_in x)).entry) ≡ Some (record { job = o.job; end = is }) =
        ap (λ (y : Option Entry). decision_of o.job (book_after s.book y)) q ∙ decided_now o.job s.book is due.undecided in
        let then = decision_end o.job (event_in x) s moment xs (record { job = o.job; end = is }) now in
        let same = ends_as_decided (stands_after s moment (event_in x) xs).book legal o.job (record { job = o.job; end = is }) c then done in
        same_conflict o t f ch.flight m ch.manager r ch.rule (sym end ∙ same) ch.blocked
    go (inr q) =
        let now : ending_of o.job (book_after s.book (turn_of s moment (event_in x)).entry) ≡ Some (record { job = o.job; end = is }) =
        ap (λ (y : Option Entry). ending_of o.job (book_after s.book y)) q ∙ ended_now o.job s.book is (none_done o.job s.book u) in
        let then = ending_end o.job (event_in x) s moment xs (record { job = o.job; end = is }) now in
        let same : c.end ≡ is = ap (λ (y : Closing). y.end) (some_same c (record { job = o.job; end = is }) (sym done ∙ then)) in
        same_conflict o t f ch.flight m ch.manager r ch.rule (sym end ∙ same) ch.blocked

conflict_not : {P : Type 0} (end : Ending) (f : ℕ) (m : List ℕ) (r : Verdict) → end ≡ Ends.Conflict f m r → is_conflict end ≡ false → P
conflict_not end f m r e h = not_both (is_conflict end) (ap is_conflict e) h

abbrev Blocks : Opening → ℕ → List ℕ → Verdict → Standing → Event → Type 0
Blocks o f m r t e = IsBlockedBy (taken_in t o e) o f m r

done_same : (job : ℕ) (a b : Ending) → Some (Enters.Done (record { job = job; end = a })) ≡ Some (Enters.Done (record { job = job; end = b })) → a ≡ b
done_same job a b e = ap (end_in a) e
  where
    end_in : Ending → Option Entry → Ending
    end_in x (Some (Enters.Done d)) = d.end
    end_in x _ = x

-- without a blocked choice the last step ends in no conflict
not_at_last : {P : Type 0} (s : Standing) (moment : ℤ) (event : Event) (o : Opening) (c : Closing) (f : ℕ) (m : List ℕ) (r : Verdict) → is_closed o.job s.book ≡ false → ending_of o.job (book_after s.book (turn_of s moment event).entry) ≡ Some c
    → c.end ≡ Ends.Conflict f m r → is_in_conflict (turn_of s moment event).entry ≡ false → P
not_at_last s moment event o c f m r u done end free =
    let q = ends_now o.job s.book (turn_of s moment event).entry c u done in
    not_both (is_in_conflict (turn_of s moment event).entry) (ap is_in_conflict q ∙ ap is_conflict end) free

blocked_so : (n : ℕ) (s : Standing) (moment : ℤ) (o : Opening) (x : Exchanged) (xs : List Exchanged) (b : ℕ) (c : Closing) (f : ℕ) (m : List ℕ) (r : Verdict) → IsSoundAt s → IsWaiting n s o (call_in x) b → IsBegun s moment (event_in x) xs
    → AllFit (x ∷ xs) → AllTyped (x ∷ xs) → most_found (x ∷ xs) ≤ n → NoConflict o.job s.book → IsLegal (stands_after s moment (event_in x) xs).book → ending_of o.job (stands_after s moment (event_in x) xs).book ≡ Some c
    → c.end ≡ Ends.Conflict f m r → AtSomeStep (Blocks o f m r) s moment (event_in x) xs
blocked_so n s moment o x [] b c f m r sound w begun fit typed few none legal done end = go (conflicts_at n s moment o x b w fit)
  where
    go : Conflicts (taken_in s o (event_in x)) o (turn_of s moment (event_in x)) → IsBlockedBy (taken_in s o (event_in x)) o f m r
    go (Chooses ch) = named_is s moment o x [] (taken_in s o (event_in x)) c f m r (sound_then s moment (event_in x) sound typed.0) w.unfinished.unclosed legal done end ch
    go (Free free) = not_at_last s moment (event_in x) o c f m r w.unfinished.unclosed done end free
    go (Keeps (d, e, q)) =
        let k = ends_now o.job s.book (turn_of s moment (event_in x)).entry c w.unfinished.unclosed done in
        let same : d.end ≡ c.end = done_same o.job d.end c.end (sym q ∙ k) in
        conflict_not d.end f m r (same ∙ end) (none d (ap (decision_of o.job) (sym (taken_book s o x)) ∙ e))
blocked_so n s moment o x (y ∷ ys) b c f m r sound w begun fit typed few none legal done end = go (conflicts_at n s moment o x b w g.0)
    (λ free. blocked_so n (stands_then s t) moment o y ys v.0 c f m r (sound_then s moment (event_in x) sound typed.0) v.1 begun.2 g.1 typed.1 k.1 free legal done end)
  where
    t : Turn
    t = turn_of s moment (event_in x)

    g : AllFit (x ∷ []) × AllFit (y ∷ ys)
    g = first_fits x (y ∷ ys) fit

    k : (most_found (x ∷ []) ≤ n) × (most_found (y ∷ ys) ≤ n)
    k = first_few n x (y ∷ ys) few

    v : (c : ℕ) × IsWaiting n (stands_then s (turn_of s moment (event_in x))) o (call_in y) c
    v = waits_for n s o (turn_of s moment (event_in x)) (call_in y) b (steps n s moment o x b w g.0 k.0) begun.1

    go : Conflicts (taken_in s o (event_in x)) o (turn_of s moment (event_in x)) → (NoConflict o.job (stands_then s (turn_of s moment (event_in x))).book → AtSomeStep (Blocks o f m r) (stands_then s (turn_of s moment (event_in x))) moment (event_in y) ys)
        → AtSomeStep (Blocks o f m r) s moment (event_in x) (y ∷ ys)
    go (Chooses ch) rec = inl (named_is s moment o x (y ∷ ys) (taken_in s o (event_in x)) c f m r (sound_then s moment (event_in x) sound typed.0) w.unfinished.unclosed legal done end ch)
    go (Free free) rec = inr (rec (free_then o.job s.book t.entry free none))
    go (Keeps (d, e, q)) rec = inr (rec (done_then o.job s.book t.entry d.end q none))

-- the whole

conflict_end : (flight : ℕ) (end : Ending) (f : ℕ) (m : List ℕ) (r : Verdict) → by_end flight end ≡ Answers.Conflict f m r → end ≡ Ends.Conflict f m r
conflict_end flight (Ends.Conflict g k q) f m r e =
    let x : g ≡ f = cc in
    let y : k ≡ m = cc in
    let z : q ≡ r = cc in
    ap (λ i. Ends.Conflict i k q) x ∙ ap (λ i. Ends.Conflict f i q) y ∙ ap (λ i. Ends.Conflict f m i) z
conflict_end flight (Ends.Stale missing) f m r e = cc
conflict_end flight Ends.Cancelled f m r e = cc
conflict_end flight (Ends.Ended owed) f m r e = cc

none_conflicts : (job : ℕ) (book : List Entry) → decision_of job book ≡ None → NoConflict job book
none_conflicts job book n d e = none_some (decision_of job book) d n e

blocked_here : (s : Standing) (moment : ℤ) (event : Event) (xs : List Exchanged) (o : Opening) (c : Closing) (f : ℕ) (m : List ℕ) (r : Verdict) → IsCarriedOut s moment event xs → IsEvent event → AllTyped xs
    → outcome s moment event xs ≡ Says.Answer (Answers.Conflict f m r) → job_named event (book_then s moment event xs) ≡ Some o → IsLegal (book_then s moment event xs) → ending_of o.job (book_then s moment event xs) ≡ Some c
    → c.end ≡ Ends.Conflict f m r → is_closed o.job s.book ≡ false → decision_of o.job s.book ≡ None → FirstStep s (clamped moment) event (turn_of s moment event) → AtSomeStep (Blocks o f m r) s moment event xs
blocked_here s moment event [] o c f m r out typed all h named legal done end u n (inl (inl (q, e, k))) = refused_not q (Answers.Conflict f m r) (outcome s moment event []) (ap (λ (t : Turn). t.said) k) h
blocked_here s moment event [] o c f m r out typed all h named legal done end u n (inr (e, g, a, q, z)) = let w : Says.Answer (Answers.Steady g) ≡ Says.Answer (Answers.Conflict f m r) = sym q ∙ h in cc (w)
blocked_here s moment event [] o c f m r out typed all h named legal done end u n (inl (inr (e, p, t, j))) = not_at_last s moment event o c f m r u done end j.free
blocked_here s moment event (x ∷ xs) o c f m r out typed all h named legal done end u n (inl (inl (q, e, k))) = refuses_none s q (turn_of s moment event) k out.exchange.0.0
blocked_here s moment event (x ∷ xs) o c f m r out typed all h named legal done end u n (inr (e, g, a, q, z)) = steady_none g (turn_of s moment event).said q out.exchange.0.0
blocked_here s moment event (x ∷ xs) o c f m r out typed all h named legal done end u n (inl (inr (e, p, t, j))) =
    let found = found_before s.values (open_job_of p.ask.flight s.book) in
    let k = max found (most_found (x ∷ xs)) in
    let l = most found (most_found (x ∷ xs)) in
    let w = waits_for k s p (turn_of s moment event) (call_in x) (5 + cost (rounds_of p.ask.wish) k) (j.within k l.0) out.exchange.0.1 in
    let same : p ≡ o = some_same p o (sym (named_end event event s moment (x ∷ xs) p j.named) ∙ named) in
    let waits = subst (λ (y : Opening). IsWaiting k (stands_then s (turn_of s moment event)) y (call_in x) w.0) same w.1 in
    inr
    (blocked_so k (stands_then s (turn_of s moment event)) moment o x xs w.0 c f m r (sound_then s moment event out.sound typed) waits out.exchange.0.2 out.fit all l.1
    (free_then o.job s.book (turn_of s moment event).entry j.free (none_conflicts o.job s.book n)) legal done end)

pub conflict_names_the_pair : ConflictNamesThePair
conflict_names_the_pair s moment event xs f m r c typed all h =
    let k = ((ends_are_done s moment event xs (Answers.Conflict f m r) c refl).0 h).1 in
    let end = conflict_end (flight_of s.owner k.opening) k.done.end f m r k.is in
    let legal = (sound_end s moment event xs c.sound typed all).legal in
    record {
      opening = k.opening;
      named = k.named;
      here = λ u n. blocked_here s moment event xs k.opening k.done f m r c typed all h k.named legal k.ended end u n (first_step s (clamped moment) event c.operators c.sound);
      earlier = λ d e. (
          let then = decision_end k.opening.job event s moment xs d (decision_kept_after k.opening.job s.book (turn_of s moment event).entry d e) in
          sym (ends_as_decided (book_then s moment event xs) legal k.opening.job d k.done then k.ended) ∙ end);
    }
