-- That a supplier may enter what a chore of a closed job comes to.
use Rattle.std.proofs.Common.{ℕ, zero, suc, ℤ, ◌<◌, ◌+◌, ◌==◌, ◌≢◌, Bool, true, false, not, ◌&&◌, List, [], ◌∷◌, ◌++◌, ◌≡◌, inl, inr, length, refl, ap, sym, subst, ◌∙◌, arith, Some, is_some}
use Rattle.std.specs.List.{range_with_len}
use Rattle.uss_intent.specs.Same.{same_ask}
use Rattle.uss_intent.specs.SameLaws.{ask_is_same}
use Rattle.uss_intent.specs.declared.calls.DssReply.{DssReply}
use Rattle.uss_intent.specs.declared.calls.DssReply.TheVariants as Replies
use Rattle.uss_intent.specs.declared.calls.DssRefusal.{DssRefusal}
use Rattle.uss_intent.specs.declared.calls.DssRefusal.TheVariants as Refuses
use Rattle.uss_intent.specs.Numbers.{is_one_of}
use Rattle.uss_event.specs.declared.entries.Entry.{Entry}
use Rattle.uss_event.specs.declared.entries.Entry.TheVariants as Enters
use Rattle.uss_event.specs.declared.calls.DssCall.{DssCall}
use Rattle.uss_event.specs.declared.calls.PeerCall.{PeerCall}
use Rattle.uss_event.specs.declared.calls.PeerCall.TheVariants as Calls
use Rattle.uss_event.specs.declared.calls.PeerReply.{PeerReply}
use Rattle.uss_event.specs.declared.calls.PeerReply.TheVariants as Peers
use Rattle.uss_event.specs.declared.calls.Outgoing.{Outgoing}
use Rattle.uss_event.specs.declared.calls.Outgoing.TheVariants as Goes
use Rattle.uss_event.specs.declared.events.Event.{Event}
use Rattle.uss_event.specs.declared.events.Event.TheVariants as Comes
use Rattle.uss_law_dss.specs.Lists.{Has}
use Rattle.uss_law_dss.specs.Fits.{fits}
use Rattle.uss_law_dss.proofs.Lists.{has_filter, has_passed, list_any_has}
use Rattle.uss_law_dss.proofs.Tests.{same_number, both, not_both, not_true}
use Rattle.uss_event.specs.declared.entries.Opening.{Opening}
use Rattle.uss_law_book.specs.Contents.{opening_of, is_closed, puts, owed_of, is_sent, unsent, is_ticket_open, is_ticket_gone, is_ticket_needed, keeps_ticket}
use Rattle.uss_law_book.specs.Legal.{IsDue}
use Rattle.uss_law_book.proofs.Kept.{opening_has}
use Rattle.uss_event.specs.Heard.{News}
use Rattle.uss_law_duty.specs.Answers.{job_of_call}
use Rattle.uss_law_duty.specs.Duties.{is_ticket_remove, is_awaited, is_prompting}
use Rattle.uss_law_duty.specs.Sends.{ticket_remove}
use Rattle.uss_law_duty.specs.Entered.{IsTicketRemoved}
use Rattle.uss_law_supplier.specs.Values.{awaited_of}
use Rattle.uss_law_supplier.specs.Turns.{Standing, entering}
use Rattle.uss_law_book.specs.Contents.{is_ticket_due}
use Rattle.uss_law_supplier.specs.Replies.{is_retired, takes_out, retires, is_sent_now, saying_nothing, closed_by_dss, closed_by_peer}
use Rattle.uss_law_supplier.specs.Fitting.{IsAwaited, IsFit}
use Rattle.uss_law_book.proofs.Others.{is_of_job}
use Rattle.uss_law_book.proofs.Known.{ticket_puts}
use Rattle.uss_law_supplier.proofs.Onward.{IsDue as Due}
use Rattle.uss_law_supplier.proofs.Fits.{all_fit, fit_others}
use Rattle.uss_law_supplier.proofs.Good.{Sound, IsEntryDue, IsGood, none_sent}
use Rattle.uss_law_supplier.proofs.Coded.{job_coded, few_owed}
use Rattle.uss_law_supplier.proofs.Jobs.{follows, good_again}
use Rattle.uss_law_supplier.proofs.Entering.{another}

-- a closed job waits for nothing
closed_waits : (s : Standing) (job : ℕ) (call : Outgoing) → Sound s → is_closed job s.book ≡ true → awaited_of job s.values ≡ Some call → ⊥
closed_waits s job call d c e = go call (d.fit job call e)
  where
    go : (call : Outgoing) → IsAwaited s.owner s.book s.values job call → ⊥
    go (Goes.Dss x) w = not_both (is_closed job s.book) c w.unclosed
    go (Goes.Peer x) w = not_both (is_closed job s.book) c w.unclosed

-- after an entry of a closed job what is kept beside the book fits
fit_closed : (s : Standing) (job : ℕ) (e : Entry) → Sound s → is_closed job s.book ≡ true → IsDue s.book e → ((i : ℕ) → i ≢ job → is_of_job i e ≡ false) → IsFit s.owner (s.book ++ e ∷ []) s.values
fit_closed s job e d c due other =
    all_fit s.owner (s.book ++ e ∷ []) s.values s.values job (fit_others s.owner s.book s.values e job d.orderly due other d.fit) (λ i n. refl) (λ call a. absurd (closed_waits s job call d c a))

-- nobody waits for what comes of a chore
unprompted : (n : ℕ) (book : List Entry) (b : Bool) → is_closed n book ≡ true → b ≡ true → is_awaited n b book ≡ false
unprompted n book b c e = rw (e, c) (and_false (is_some (opening_of n book)))
  where
    and_false : (x : Bool) → (x && false) ≡ false
    and_false true = refl
    and_false false = refl

-- an entry of a chore
good_chore : (s : Standing) (heard : List News) (moment : ℤ) (event : Event) (job : ℕ) (e : Entry) → Sound s → is_closed job s.book ≡ true → IsEntryDue s.owner s.book heard event e
    → ((i : ℕ) → i ≢ job → is_of_job i e ≡ false) → is_prompting event s.book ≡ false → IsGood s heard moment event (entering s e saying_nothing)
good_chore s heard moment event job e d c due other quiet =
    record {
      entry = due;
      sends = none_sent (Due s.owner (s.book ++ e ∷ []));
      pair = tt;
      final = tt;
      fit = fit_closed s job e d c due.follows.due other;
      heard_is = refl;
      cause = tt;
      goes_on = λ p. not_both (is_prompting event s.book) p quiet;
    }

-- a ticket

removed_by : (reply : DssReply) → takes_out reply ≡ true → IsTicketRemoved reply
removed_by (Replies.TicketRemoved t) h = tt
removed_by (Replies.Refused refusal) h = by_refusal refusal h
  where
    by_refusal : (r : DssRefusal) → is_retired r ≡ true → r ≡ Refuses.Retired
    by_refusal Refuses.Retired h = refl
    by_refusal _ h = cc
removed_by _ h = cc

pub good_closed_by_dss : (s : Standing) (heard : List News) (moment : ℤ) (o : Opening) (call : DssCall) (reply : DssReply) → Sound s → opening_of call.job s.book ≡ Some o → is_closed o.job s.book ≡ true
    → (b : Bool) → retires s o call.ask reply ≡ b → IsGood s heard moment (Comes.Dss call reply) (closed_by_dss s o b)
unfolding retires
good_closed_by_dss s heard moment o call reply d named c false e = good_again s heard moment (Comes.Dss call reply) o d c named
good_closed_by_dss s heard moment o call reply d named c true e =
    let p1 = both (same_ask call.ask (ticket_remove s.owner o.job)) _ e in
    let p2 = both (fits call.ask reply) _ p1.1 in
    let p3 = both (takes_out reply) (is_ticket_due o.job s.book) p2.1 in
    let q1 = both (keeps_ticket o.job s.book) (not (is_ticket_needed o.job s.book)) p3.1 in
    let q2 = both (is_closed o.job s.book) _ q1.0 in
    let q3 = both (is_ticket_open o.job s.book) (not (is_ticket_gone o.job s.book)) q2.1 in
    let j = (opening_has s.book call.job o named).1 in
    let ask : call.ask ≡ ticket_remove s.owner o.job = (ask_is_same call.ask (ticket_remove s.owner o.job)).0 p1.0 in
    let opened : opening_of o.job s.book ≡ Some o = subst (λ k. opening_of k s.book ≡ Some o) (sym j) named in
    let due : IsDue s.book (Enters.TicketGone o.job) = record {
      put = ap puts opened ∙ ticket_puts s.book o d.known opened q3.0;
      closed = c;
      heard_open = q3.0;
      not_gone = not_true (is_ticket_gone o.job s.book) q3.1;
      unneeded = not_true (is_ticket_needed o.job s.book) q1.1;
    } in
    let m = follows s (Enters.TicketGone o.job) d refl (job_coded s o d (opening_has s.book call.job o named).0) tt due in
    good_chore s heard moment (Comes.Dss call reply) o.job (Enters.TicketGone o.job) d c
    (record { follows = m; keys = tt; held = tt; removals = record { reply = reply; answers = (sym j, ask, refl); removed = removed_by reply p3.0 }; tickets = tt })
    (λ i n. another i o.job n)
    (unprompted call.job s.book (is_ticket_remove call.ask) (subst (λ k. is_closed k s.book ≡ true) j c) (ap is_ticket_remove ask))

-- a notification

pub in_range : (a n x : ℕ) → Has (range_with_len a n) x → x < a + n
in_range a zero x h = absurd h
in_range a (suc n) x (inl e) = omega (arith, e)
in_range a (suc n) x (inr h) = let r = in_range (a + 1) n x h in omega (arith, r)

pub unsent_is : (job index : ℕ) (book : List Entry) → is_one_of index (unsent job book) ≡ true → (index < length (owed_of job book)) × (is_sent job index book ≡ false)
unfolding unsent
unsent_is job index book h =
    let a = list_any_has (λ m. m == index) (unsent job book) h in
    let q : a.0 ≡ index = same_number a.0 index a.2 in
    let f = has_filter (λ p. not (is_sent job p book)) (range_with_len 0 (length (owed_of job book))) a.0 a.1 in
    let g = has_passed (λ p. not (is_sent job p book)) (range_with_len 0 (length (owed_of job book))) a.0 a.1 in
    let r = in_range 0 (length (owed_of job book)) a.0 f in
    ((let b = r in omega (arith, b, q)), subst (λ p. is_sent job p book ≡ false) q (not_true (is_sent job a.0 book) g))

pub good_closed_by_peer : (s : Standing) (heard : List News) (moment : ℤ) (o : Opening) (call : PeerCall) (reply : PeerReply) → Sound s → opening_of (job_of_call call) s.book ≡ Some o → is_closed o.job s.book ≡ true
    → (b : Bool) → is_sent_now s o call reply ≡ b → IsGood s heard moment (Comes.Peer call reply) (closed_by_peer s o call b)
unfolding is_sent_now
good_closed_by_peer s heard moment o call reply d named c false e = good_again s heard moment (Comes.Peer call reply) o d c named
good_closed_by_peer s heard moment o (Calls.Notify job index base note) Peers.Noted d named c true e =
    let u = unsent_is o.job index s.book e in
    let j = (opening_has s.book job o named).1 in
    let due : IsDue s.book (Enters.Sent (record { job = o.job; index = index })) = record { closed = c; owed = u.0; new = u.1 } in
    let few = few_owed s o.job d in
    let l = u.0 in
    let m = follows s (Enters.Sent (record { job = o.job; index = index })) d refl (job_coded s o d (opening_has s.book job o named).0, omega (arith, few, l)) tt due in
    good_chore s heard moment (Comes.Peer (Calls.Notify job index base note) Peers.Noted) o.job (Enters.Sent (record { job = o.job; index = index })) d c (record { follows = m; keys = tt; held = tt; removals = tt; tickets = tt }) (λ i n. another i o.job n)
    (unprompted job s.book true (subst (λ k. is_closed k s.book ≡ true) j c) refl)
good_closed_by_peer s heard moment o call reply d named c true e = cc
