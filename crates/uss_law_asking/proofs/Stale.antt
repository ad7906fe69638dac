-- That Stale names the flights of the last refusal for want of OVNs.
use Rattle.std.proofs.Common.{ℕ, ℤ, ◌+◌, ◌≤◌, ◌==◌, ◌≡◌, ◌≢◌, ◌⊎◌, inl, inr, Bool, true, false, cond, List, [], ◌∷◌, ◌++◌, max, refl, ap, sym, subst, ◌∙◌, Option, Some, None}
use Rattle.std.specs.List.{find, filter_map, cons_option, last_or}
use Rattle.std.specs.Option.{option_or}
use Rattle.std.proofs.lemmas.List.{append-nil, append_assoc}
use Rattle.std.proofs.lemmas.List.Folds.{find-append}
use Rattle.uss_intent.specs.declared.records.Reference.{Reference}
use Rattle.uss_intent.specs.declared.calls.DssAsk.{DssAsk}
use Rattle.uss_intent.specs.declared.calls.DssAsk.TheVariants as Asks
use Rattle.uss_intent.specs.declared.calls.DssReply.TheVariants as Replies
use Rattle.uss_intent.specs.declared.calls.DssRefusal.TheVariants as Refuses
use Rattle.uss_event.specs.declared.asks.Wish.{Wish}
use Rattle.uss_event.specs.declared.asks.Wish.TheVariants.{Put, End}
use Rattle.uss_event.specs.declared.entries.Owner.{Owner}
use Rattle.uss_event.specs.declared.entries.Entry.{Entry}
use Rattle.uss_event.specs.declared.entries.Entry.TheVariants as Enters
use Rattle.uss_event.specs.declared.entries.Ending.{Ending}
use Rattle.uss_event.specs.declared.entries.Ending.TheVariants as Ends
use Rattle.uss_event.specs.declared.calls.DssCall.{DssCall}
use Rattle.uss_event.specs.declared.calls.PeerCall.TheVariants as Calls
use Rattle.uss_event.specs.declared.calls.Outgoing.TheVariants as Goes
use Rattle.uss_event.specs.declared.events.Answer.TheVariants as Answers
use Rattle.uss_event.specs.declared.events.Said.{Said}
use Rattle.uss_event.specs.declared.events.Said.TheVariants as Says
use Rattle.uss_event.specs.declared.events.Event.{Event}
use Rattle.uss_event.specs.declared.events.Event.TheVariants as Comes
use Rattle.uss_law_dss.specs.Fits.{fits}
use Rattle.uss_law_dss.proofs.Tests.{same_number, not_both, some_same}
use Rattle.uss_event.specs.declared.entries.Opening.{Opening}
use Rattle.uss_event.specs.declared.entries.Closing.{Closing}
use Rattle.uss_law_book.specs.Lists.{decisions, endings}
use Rattle.uss_law_book.specs.Contents.{open_job_of, decision_of, ending_of}
use Rattle.uss_law_book.specs.Legal.{MayFollow, MayAllFollow, IsLegal, IsDue, EndsWish}
use Rattle.uss_law_book.proofs.Entries.{endings_append}
use Rattle.uss_law_book.proofs.Finds.{find_kept}
use Rattle.uss_law_duty.specs.Duties.{book_after, clamped}
use Rattle.uss_law_duty.specs.Answers.{by_end, flight_of, job_named}
use Rattle.uss_law_supplier.specs.declared.duties.Awaited.{Awaited}
use Rattle.uss_law_supplier.specs.declared.duties.Awaited.TheVariants as Waits
use Rattle.uss_law_supplier.specs.Calls.{kind_of_ask}
use Rattle.uss_law_supplier.specs.Turns.{Standing, Turn}
use Rattle.uss_law_supplier.specs.Jobs.{keeps_key, round_by_dss, with_values}
use Rattle.uss_law_book.specs.Contents.{rounds_of}
use Rattle.uss_law_supplier.specs.Typed.{IsEvent}
use Rattle.uss_law_supplier.specs.Fitting.{IsPhase}
use Rattle.uss_law_book.proofs.Others.{decisions_append}
use Rattle.uss_law_asking.specs.Exchange.{Exchanged, call_in, event_in, turn_of, stands_then, stands_after, IsBegun, last_turn, AllFit, AllTyped, most_found, found_before}
use Rattle.uss_law_asking.specs.Exchange.Exchanged.{OfDss, OfPeer}
use Rattle.uss_law_asking.specs.Causes.{IsCarriedOut, taken_in, outcome, book_then, missing_in, missing_last, StaleNamesTheMissing}
use Rattle.uss_law_asking.proofs.Budget.{cost, IsWaiting}
use Rattle.uss_law_asking.proofs.Bounded.{steps, first_fits, first_few}
use Rattle.uss_law_asking.proofs.Lacks.{is_stale_decision, IsNaming, plain_by_peer, names_by_dss}
use Rattle.uss_law_asking.proofs.Stops.{by_refusal, stop_by, IsSaying}
use Rattle.uss_law_asking.proofs.First.{OfJob, FirstStep, named_end, first_step}
use Rattle.uss_law_asking.proofs.Outcomes.{dss_turn, peer_turn, says_at, refuses_none, steady_none, most}
use Rattle.uss_law_asking.proofs.Caused.{none_some, refused_not}
use Rattle.uss_law_asking.proofs.Final.{ends_are_done}
use Rattle.uss_law_asking.proofs.Sound.{IsSoundAt, waits_for, sound_then}

-- a legal book ends a job as stale only where it decided so

abbrev DecidedStale : ℕ → List ℕ → List Entry → Type 0
DecidedStale job missing book = (d : Closing) × (decision_of job book ≡ Some d) × (d.end ≡ Ends.Stale missing)

abbrev StaleIsDecided : List Entry → Type 0
StaleIsDecided book = (job : ℕ) (c : Closing) (missing : List ℕ) → ending_of job book ≡ Some c → c.end ≡ Ends.Stale missing → DecidedStale job missing book

pub decision_kept : (job : ℕ) (book more : List Entry) (d : Closing) → decision_of job book ≡ Some d → decision_of job (book ++ more) ≡ Some d
unfolding decision_of
decision_kept job book more d h = ap (find (λ (c : Closing). c.job == job)) (decisions_append book more) ∙ find_kept (λ (c : Closing). c.job == job) (decisions book) (decisions more) d h

-- the end of a job is an old one, or that of the new entry
pub new_ending : (job : ℕ) (book : List Entry) (e : Entry) (c : Closing) → ending_of job (book ++ e ∷ []) ≡ Some c → (ending_of job book ≡ Some c) ⊎ (e ≡ Enters.Done (record { job = job; end = c.end }))
unfolding ending_of
new_ending job book e c h = at (find p (endings book)) refl (sym (ap (find p) (endings_append book (e ∷ [])) ∙ find-append p (endings book) (endings (e ∷ []))) ∙ h)
  where
    p : Closing → Bool
    p = λ d. d.job == job

    new : (e : Entry) → find p (endings (e ∷ [])) ≡ Some c → e ≡ Enters.Done (record { job = job; end = c.end })
    new (Enters.Done ending) q = go (ending.job == job) refl q
      where
        go : (b : Bool) → (ending.job == job) ≡ b → cond b (Some ending) None ≡ Some c → Enters.Done ending ≡ Enters.Done (record { job = job; end = c.end })
        go true k w =
            let n = same_number ending.job job k in
            let m : ending.end ≡ c.end = ap (λ (d : Closing). d.end) (some_same ending c w) in
            ap (λ i. Enters.Done (record { job = i; end = ending.end })) n ∙ ap (λ x. Enters.Done (record { job = job; end = x })) m
        go false k w = cc
    new _ q = cc

    at : (x : Option Closing) → find p (endings book) ≡ x → option_or x (find p (endings (e ∷ []))) ≡ Some c → (find p (endings book) ≡ Some c) ⊎ (e ≡ Enters.Done (record { job = job; end = c.end }))
    at None k q = inr (new e q)
    at (Some d) k q = inl (k ∙ q)

stale_by_wish : (book : List Entry) (job : ℕ) (missing : List ℕ) (wish : Wish) → EndsWish book job (Ends.Stale missing) wish → DecidedStale job missing book
stale_by_wish book job missing (Put to priority rounds proposals) (inl e) = (record { job = job; end = Ends.Stale missing }, e, refl)
stale_by_wish book job missing (Put to priority rounds proposals) (inr n) = absurd n.1
stale_by_wish book job missing End n = absurd n

stale_then : (book : List Entry) (e : Entry) → MayFollow book e → StaleIsDecided book → StaleIsDecided (book ++ e ∷ [])
stale_then book e f old job c missing h k = elim (new_ending job book e c h) [
  | inl q ↦ kept (old job c missing q k)
  | inr q ↦ kept (by_entry (subst (λ (x : Entry). IsDue book x) (q ∙ ap (λ x. Enters.Done (record { job = job; end = x })) k) f.due))
]
  where
    kept : DecidedStale job missing book → DecidedStale job missing (book ++ e ∷ [])
    kept (d, a, b) = (d, decision_kept job book (e ∷ []) d a, b)

    by_entry : IsDue book (Enters.Done (record { job = job; end = Ends.Stale missing })) → DecidedStale job missing book
    by_entry d = stale_by_wish book job missing d.opening.ask.wish d.wish

stale_from : (before es : List Entry) → StaleIsDecided before → MayAllFollow before es → StaleIsDecided (before ++ es)
stale_from before [] s h = subst StaleIsDecided (sym (append-nil before)) s
stale_from before (e ∷ es) s h = subst StaleIsDecided (append_assoc before (e ∷ []) es) (stale_from (before ++ e ∷ []) es (stale_then before e h.0 s) h.1)

stale_is_decided : (book : List Entry) → IsLegal book → StaleIsDecided book
unfolding ending_of
stale_is_decided book h = stale_from [] book (λ job c missing e k. cc) h

pub decision_kept_after : (job : ℕ) (book : List Entry) (x : Option Entry) (d : Closing) → decision_of job book ≡ Some d → decision_of job (book_after book x) ≡ Some d
decision_kept_after job book None d h = h
decision_kept_after job book (Some e) d h = decision_kept job book (e ∷ []) d h

pub decision_end : (job : ℕ) (from : Event) (s : Standing) (moment : ℤ) (xs : List Exchanged) (d : Closing) → decision_of job (book_after s.book (turn_of s moment from).entry) ≡ Some d → decision_of job (stands_after s moment from xs).book ≡ Some d
decision_end job from s moment [] d h = h
decision_end job from s moment (x ∷ xs) d h =
    let t = stands_then s (turn_of s moment from) in
    decision_end job (event_in x) t moment xs d (decision_kept_after job t.book (turn_of t moment (event_in x)).entry d h)

stale_end : (flight : ℕ) (end : Ending) (missing : List ℕ) → by_end flight end ≡ Answers.Stale missing → end ≡ Ends.Stale missing
stale_end flight (Ends.Conflict other manager rule) missing e = cc
stale_end flight (Ends.Stale m) missing e = let q : m ≡ missing = cc in ap Ends.Stale q
stale_end flight Ends.Cancelled missing e = cc
stale_end flight (Ends.Ended owed) missing e = cc

-- the last that a list of replies names

last_of_more : (f : Exchanged → Option (List ℕ)) (a : Option (List ℕ)) (xs : List Exchanged) (z : Exchanged) (m : List ℕ) → f z ≡ Some m → last_or a (filter_map f (xs ++ z ∷ [])) ≡ Some m
last_of_more f a [] z m e = rw e refl
last_of_more f a (x ∷ xs) z m e = go (f x) (λ b. last_of_more f b xs z m e)
  where
    go : (o : Option (List ℕ)) → ((b : Option (List ℕ)) → last_or b (filter_map f (xs ++ z ∷ [])) ≡ Some m) → last_or a (cons_option o (filter_map f (xs ++ z ∷ []))) ≡ Some m
    go None rec = rec a
    go (Some y) rec = rec (Some y)

last_of_same : (f : Exchanged → Option (List ℕ)) (a : Option (List ℕ)) (xs : List Exchanged) (z : Exchanged) → f z ≡ None → last_or a (filter_map f (xs ++ z ∷ [])) ≡ last_or a (filter_map f xs)
last_of_same f a [] z e = rw e refl
last_of_same f a (x ∷ xs) z e = go (f x) (λ b. last_of_same f b xs z e)
  where
    go : (o : Option (List ℕ)) → ((b : Option (List ℕ)) → last_or b (filter_map f (xs ++ z ∷ [])) ≡ last_or b (filter_map f xs)) → last_or a (cons_option o (filter_map f (xs ++ z ∷ []))) ≡ last_or a (cons_option o (filter_map f xs))
    go None rec = rec a
    go (Some y) rec = rec (Some y)

-- what a step decides on a reply

names_at : (n : ℕ) (s : Standing) (moment : ℤ) (o : Opening) (x : Exchanged) (b : ℕ) → IsWaiting n s o (call_in x) b → AllFit (x ∷ []) → IsNaming o (missing_in x) (turn_of s moment (event_in x))
names_at n s moment o (OfDss call reply) b w fit =
    let t = with_values s (round_by_dss s o reply) in
    subst (λ (x : Turn). IsNaming o (missing_in (OfDss call reply)) x) (sym (dss_turn n s moment o call reply b w fit.0)) (names_by_dss t o call.job call.ask reply w.kind w.is fit.0)
names_at n s moment o (OfPeer (Calls.Notify job index base note) reply) b w fit = let e = w.is in cc
names_at n s moment o (OfPeer (Calls.Details job flight manager base) reply) b w fit =
    subst (λ (x : Turn). IsNaming o None x) (sym (peer_turn n s moment o job flight manager base reply b w fit.0)) (inl (plain_by_peer (taken_in s o (Comes.Peer (Calls.Details job flight manager base) reply)) o job flight manager base reply fit.0))

-- a job that decided isn't refused for want of OVNs, but that it stops there

abbrev IsNotRefused : Said → Type 0
IsNotRefused said = (k : ℕ) → said ≡ Says.Answer (Answers.DssRefused k) → ⊥

-- a Put is awaited only before
put_undecided : (s : Standing) (o : Opening) (call : DssCall) (n b : ℕ) (d : Closing) → IsSoundAt s → IsWaiting n s o (Goes.Dss call) b → decision_of o.job s.book ≡ Some d → kind_of_ask call.ask ≢ Some Waits.Put
put_undecided s o call n b d sound w e = λ q. (
    let a = sound.fit o.job (Goes.Dss call) w.waits in
    let same : a.opening ≡ o = some_same a.opening o (sym a.opened ∙ w.unfinished.opened) in
    let kind : a.kind ≡ Waits.Put = some_same a.kind Waits.Put (sym a.is_of_kind ∙ q) in
    let phase : IsPhase s.book o Waits.Put = subst (λ (k : Awaited). IsPhase s.book o k) kind (subst (λ (x : Opening). IsPhase s.book x a.kind) same a.phase) in
    none_some (decision_of o.job s.book) d phase.undecided e)

-- any other call that is refused so makes the job stop
stops_for : (owner : Owner) (o : Opening) (book : List Entry) (call : DssCall) (rs : List Reference) → fits call.ask (Replies.Refused (Refuses.MissingKey rs)) ≡ true → kind_of_ask call.ask ≢ Some Waits.Put
    → stop_by owner o book (OfDss call (Replies.Refused (Refuses.MissingKey rs))) ≡ Some (Answers.DssRefused 209)
stops_for owner o book call rs fit other = go call.ask fit other
  where
    go : (ask : DssAsk) → fits ask (Replies.Refused (Refuses.MissingKey rs)) ≡ true → kind_of_ask ask ≢ Some Waits.Put → by_refusal (keeps_key o.ask.wish) ask 209 ≡ Some (Answers.DssRefused 209)
    go (Asks.Query area) f k = cc
    go (Asks.Get flight) f k = refl
    go (Asks.Put flight ovn extents key state base ticket) f k = absurd (k refl)
    go (Asks.Remove flight ovn) f k = refl
    go (Asks.TicketPut ticket area base) f k = refl
    go (Asks.TicketGet ticket) f k = refl
    go (Asks.TicketRemove ticket version) f k = refl

names_none : (n : ℕ) (s : Standing) (moment : ℤ) (o : Opening) (z : Exchanged) (b : ℕ) (d : Closing) → IsSoundAt s → IsWaiting n s o (call_in z) b → AllFit (z ∷ []) → decision_of o.job s.book ≡ Some d
    → IsNotRefused (turn_of s moment (event_in z)).said → missing_in z ≡ None
names_none n s moment o (OfDss call (Replies.Refused (Refuses.MissingKey rs))) b d sound w fit e other =
    let stop = stops_for s.owner o s.book call rs fit.0 (put_undecided s o call n b d sound w e) in
    let says : IsSaying s o (Some (Answers.DssRefused 209)) (turn_of s moment (Comes.Dss call (Replies.Refused (Refuses.MissingKey rs)))) =
    subst (λ x. IsSaying s o x (turn_of s moment (Comes.Dss call (Replies.Refused (Refuses.MissingKey rs))))) stop (says_at n s moment o (OfDss call (Replies.Refused (Refuses.MissingKey rs))) b w fit) in
    absurd (other 209 says.0)
names_none n s moment o (OfDss call (Replies.Refused refusal)) b d sound w fit e other = refl
names_none n s moment o (OfDss call reply) b d sound w fit e other = refl
names_none n s moment o (OfPeer call reply) b d sound w fit e other = refl

-- what was decided is as before, or names what the last refusal of these did

abbrev IsDecided : ℕ → Option Closing → List Exchanged → List Entry → Type 0
IsDecided job before replies book = (d : Closing) → decision_of job book ≡ Some d → (before ≡ Some d) ⊎ ((m : List ℕ) → d.end ≡ Ends.Stale m → missing_last replies ≡ Some m)

-- a decision is an old one, or that of the new entry
pub new_decision : (job : ℕ) (book : List Entry) (e : Entry) (d : Closing) → decision_of job (book ++ e ∷ []) ≡ Some d → (decision_of job book ≡ Some d) ⊎ (e ≡ Enters.Deciding (record { job = job; end = d.end }))
unfolding decision_of
new_decision job book e d h = at (find p (decisions book)) refl (sym (ap (find p) (decisions_append book (e ∷ [])) ∙ find-append p (decisions book) (decisions (e ∷ []))) ∙ h)
  where
    p : Closing → Bool
    p = λ c. c.job == job

    new : (e : Entry) → find p (decisions (e ∷ [])) ≡ Some d → e ≡ Enters.Deciding (record { job = job; end = d.end })
    new (Enters.Deciding decision) q = go (decision.job == job) refl q
      where
        go : (b : Bool) → (decision.job == job) ≡ b → cond b (Some decision) None ≡ Some d → Enters.Deciding decision ≡ Enters.Deciding (record { job = job; end = d.end })
        go true k w =
            let n = same_number decision.job job k in
            let m : decision.end ≡ d.end = ap (λ (c : Closing). c.end) (some_same decision d w) in
            ap (λ i. Enters.Deciding (record { job = i; end = decision.end })) n ∙ ap (λ x. Enters.Deciding (record { job = job; end = x })) m
        go false k w = cc
    new _ q = cc

    at : (x : Option Closing) → find p (decisions book) ≡ x → option_or x (find p (decisions (e ∷ []))) ≡ Some d → (find p (decisions book) ≡ Some d) ⊎ (e ≡ Enters.Deciding (record { job = job; end = d.end }))
    at None k q = inr (new e q)
    at (Some c) k q = inl (k ∙ q)

plain_not : {P : Type 0} (x : Option Entry) (e : Entry) (job : ℕ) (m : List ℕ) → x ≡ Some e → e ≡ Enters.Deciding (record { job = job; end = Ends.Stale m }) → is_stale_decision x ≡ false → P
plain_not x e job m q k h = not_both (is_stale_decision x) (ap is_stale_decision (q ∙ ap Some k)) h

-- after an entry that decides nothing so
plain_then : (job : ℕ) (before : Option Closing) (replies : List Exchanged) (book : List Entry) (x : Option Entry) → is_stale_decision x ≡ false → IsDecided job before replies book → IsDecided job before replies (book_after book x)
plain_then job before replies book None h old d e = old d e
plain_then job before replies book (Some en) h old d e = elim (new_decision job book en d e) [ inl q ↦ old d q | inr q ↦ inr (λ m k. plain_not (Some en) en job m refl (q ∙ ap (λ x. Enters.Deciding (record { job = job; end = x })) k) h) ]

same_missing : (e : Entry) (job i : ℕ) (m k : List ℕ) → e ≡ Enters.Deciding (record { job = job; end = Ends.Stale m }) → Some e ≡ Some (Enters.Deciding (record { job = i; end = Ends.Stale k })) → k ≡ m
same_missing e job i m k p q = ap missing_of (sym (some_same e (Enters.Deciding (record { job = i; end = Ends.Stale k })) q) ∙ p)
  where
    missing_of : Entry → List ℕ
    missing_of (Enters.Deciding d) = of_end d.end
      where
        of_end : Ending → List ℕ
        of_end (Ends.Stale missing) = missing
        of_end _ = []
    missing_of _ = []

decided_then : (n : ℕ) (s : Standing) (moment : ℤ) (o : Opening) (z : Exchanged) (b : ℕ) (before : Option Closing) (replies : List Exchanged) → IsSoundAt s → IsWaiting n s o (call_in z) b → AllFit (z ∷ [])
    → IsNotRefused (turn_of s moment (event_in z)).said → IsDecided o.job before replies s.book → IsDecided o.job before (replies ++ z ∷ []) (stands_then s (turn_of s moment (event_in z))).book
decided_then n s moment o z b before replies sound w fit other old = at (turn_of s moment (event_in z)).entry (names_at n s moment o z b w fit)
  where
    -- what was decided before this reply
    kept : (d : Closing) → decision_of o.job s.book ≡ Some d → (before ≡ Some d) ⊎ ((m : List ℕ) → d.end ≡ Ends.Stale m → missing_last (replies ++ z ∷ []) ≡ Some m)
    kept d e = elim (old d e) [
      | inl q ↦ inl q
      | inr f ↦ inr (λ m h. last_of_same missing_in None replies z (names_none n s moment o z b d sound w fit e other) ∙ f m h)
    ]

    at : (x : Option Entry) → (is_stale_decision x ≡ false) ⊎ ((m : List ℕ) × (x ≡ Some (Enters.Deciding (record { job = o.job; end = Ends.Stale m }))) × (missing_in z ≡ Some m)) → IsDecided o.job before (replies ++ z ∷ []) (book_after s.book x)
    at x (inl h) = plain_then o.job before (replies ++ z ∷ []) s.book x h kept
    at None (inr (m, q, k)) = cc
    at (Some en) (inr (m, q, k)) = λ d e. elim (new_decision o.job s.book en d e) [
      | inl h ↦ kept d h
      | inr h ↦ inr (λ m' i. last_of_more missing_in None replies z m' (k ∙ ap Some (same_missing en o.job o.job m' m (h ∙ ap (λ x. Enters.Deciding (record { job = o.job; end = x })) i) q)))
    ]

not_nothing : (said : Said) → said ≡ Says.Nothing → IsNotRefused said
not_nothing said e = λ k q. (let w : Says.Nothing ≡ Says.Answer (Answers.DssRefused k) = sym e ∙ q in cc (w))

-- to the end of an exchange, where the supplier is sound too
decided_end : (n : ℕ) (s : Standing) (moment : ℤ) (o : Opening) (x : Exchanged) (xs : List Exchanged) (b : ℕ) (before : Option Closing) (replies : List Exchanged) → IsSoundAt s → IsWaiting n s o (call_in x) b
    → IsBegun s moment (event_in x) xs → AllFit (x ∷ xs) → AllTyped (x ∷ xs) → most_found (x ∷ xs) ≤ n → IsNotRefused (last_turn s moment (event_in x) xs).said → IsDecided o.job before replies s.book
    → IsDecided o.job before (replies ++ x ∷ xs) (stands_after s moment (event_in x) xs).book × IsSoundAt (stands_after s moment (event_in x) xs)
decided_end n s moment o x [] b before replies sound w begun fit typed few other old =
    (decided_then n s moment o x b before replies sound w fit other old, sound_then s moment (event_in x) sound typed.0)
decided_end n s moment o x (y ∷ ys) b before replies sound w begun fit typed few other old =
    let f = first_fits x (y ∷ ys) fit in
    let g = first_few n x (y ∷ ys) few in
    let t = turn_of s moment (event_in x) in
    let v = waits_for n s o t (call_in y) b (steps n s moment o x b w f.0 g.0) begun.1 in
    let now = decided_then n s moment o x b before replies sound w f.0 (not_nothing t.said begun.0) old in
    let rec = decided_end n (stands_then s t) moment o y ys v.0 before (replies ++ x ∷ []) (sound_then s moment (event_in x) sound typed.0) v.1 begun.2 f.1 typed.1 g.1 other now in
    (subst (λ (l : List Exchanged). IsDecided o.job before l (stands_after (stands_then s t) moment (event_in y) ys).book) (append_assoc replies (x ∷ []) (y ∷ ys)) rec.0, rec.1)

-- what the book has then
abbrev Then : Standing → ℤ → Event → List Exchanged → Opening → Type 0
Then s moment event xs o = IsDecided o.job (decision_of o.job s.book) xs (book_then s moment event xs) × IsLegal (book_then s moment event xs)

-- before any reply
at_once : (s : Standing) (moment : ℤ) (event : Event) (o : Opening) → OfJob s event o (turn_of s moment event) → IsDecided o.job (decision_of o.job s.book) [] (stands_then s (turn_of s moment event)).book
at_once s moment event o j = plain_then o.job (decision_of o.job s.book) [] s.book (turn_of s moment event).entry j.plain (λ d e. inl e)

then_at : (s : Standing) (moment : ℤ) (event : Event) (xs : List Exchanged) (o : Opening) (missing : List ℕ) → IsCarriedOut s moment event xs → IsEvent event → AllTyped xs → outcome s moment event xs ≡ Says.Answer (Answers.Stale missing)
    → job_named event (book_then s moment event xs) ≡ Some o → FirstStep s (clamped moment) event (turn_of s moment event) → Then s moment event xs o
then_at s moment event [] o missing c typed all h named (inl (inl (r, e, q))) = refused_not r (Answers.Stale missing) (outcome s moment event []) (ap (λ (t : Turn). t.said) q) h
then_at s moment event [] o missing c typed all h named (inr (e, f, a, q, n)) = let w : Says.Answer (Answers.Steady f) ≡ Says.Answer (Answers.Stale missing) = sym q ∙ h in cc (w)
then_at s moment event [] o missing c typed all h named (inl (inr (e, p, t, j))) =
    let same : p ≡ o = some_same p o (sym j.named ∙ named) in
    (subst (λ (x : Opening). IsDecided x.job (decision_of x.job s.book) [] (book_then s moment event [])) same (at_once s moment event p j), (sound_then s moment event c.sound typed).legal)
then_at s moment event (x ∷ xs) o missing c typed all h named (inl (inl (r, e, q))) = refuses_none s r (turn_of s moment event) q c.exchange.0.0
then_at s moment event (x ∷ xs) o missing c typed all h named (inr (e, f, a, q, n)) = steady_none f (turn_of s moment event).said q c.exchange.0.0
then_at s moment event (x ∷ xs) o missing c typed all h named (inl (inr (e, p, t, j))) =
    let found = found_before s.values (open_job_of p.ask.flight s.book) in
    let n = max found (most_found (x ∷ xs)) in
    let m = most found (most_found (x ∷ xs)) in
    let w = waits_for n s p (turn_of s moment event) (call_in x) (5 + cost (rounds_of p.ask.wish) n) (j.within n m.0) c.exchange.0.1 in
    let same : p ≡ o = some_same p o (sym (named_end event event s moment (x ∷ xs) p j.named) ∙ named) in
    let d = decided_end n (stands_then s (turn_of s moment event)) moment p x xs w.0 (decision_of p.job s.book) [] (sound_then s moment event c.sound typed) w.1 c.exchange.0.2 c.fit all m.1
    (λ k q. (let v : Says.Answer (Answers.Stale missing) ≡ Says.Answer (Answers.DssRefused k) = sym h ∙ q in cc (v))) (at_once s moment event p j) in
    (subst (λ (y : Opening). IsDecided y.job (decision_of y.job s.book) (x ∷ xs) (book_then s moment event (x ∷ xs))) same d.0, d.1.legal)

pub stale_names_the_missing : StaleNamesTheMissing
stale_names_the_missing s moment event xs missing c typed all h =
    let r = ((ends_are_done s moment event xs (Answers.Stale missing) c refl).0 h).1 in
    let t = then_at s moment event xs r.opening missing c typed all h r.named (first_step s (clamped moment) event c.operators c.sound) in
    let d = stale_is_decided (book_then s moment event xs) t.1 r.opening.job r.done missing r.ended (stale_end (flight_of s.owner r.opening) r.done.end missing r.is) in
    record {
      opening = r.opening;
      named = r.named;
      here = λ n. elim (t.0 d.0 d.1) [ inl q ↦ none_some (decision_of r.opening.job s.book) d.0 n q | inr f ↦ f missing d.2 ];
      earlier = λ b e. (
          let same : b ≡ d.0 = some_same b d.0 (sym (decision_end r.opening.job event s moment xs b (decision_kept_after r.opening.job s.book (turn_of s moment event).entry b e)) ∙ d.1) in
          ap (λ (c : Closing). c.end) same ∙ d.2);
    }
