-- That a supplier may do what the reply of another supplier comes to.
use Rattle.std.proofs.Common.{ℕ, ℤ, ◌≤◌, ◌==◌, Bool, true, false, cond, ◌&&◌, List, [], ◌++◌, ◌≡◌, inl, inr, length, refl, ap, sym, subst, ◌∙◌, Option, Some, None, is_some}
use Rattle.std.specs.Option.{option_and_then}
use Rattle.std.proofs.lemmas.List.{append-nil}
use Rattle.uss_intent.specs.Same.{same_text}
use Rattle.uss_intent.specs.declared.records.Reference.{Reference}
use Rattle.uss_event.specs.Fits.{peer_fits}
use Rattle.uss_event.specs.Same.{same_peer_call}
use Rattle.uss_event.specs.declared.entries.Owner.{Owner}
use Rattle.uss_event.specs.declared.entries.Entry.{Entry}
use Rattle.uss_event.specs.declared.calls.Note.{Note}
use Rattle.uss_event.specs.declared.calls.PeerCall.{PeerCall}
use Rattle.uss_event.specs.declared.calls.PeerCall.TheVariants as Calls
use Rattle.uss_event.specs.declared.calls.PeerReply.{PeerReply}
use Rattle.uss_event.specs.declared.calls.PeerReply.TheVariants as Peers
use Rattle.uss_event.specs.declared.calls.Outgoing.{Outgoing}
use Rattle.uss_event.specs.declared.calls.Outgoing.TheVariants as Goes
use Rattle.uss_event.specs.declared.events.Answer.TheVariants as Answers
use Rattle.uss_event.specs.declared.events.Event.{Event}
use Rattle.uss_event.specs.declared.events.Event.TheVariants as Comes
use Rattle.uss_law_dss.proofs.Tests.{same_number, same_bytes, both, some_same}
use Rattle.uss_event.specs.declared.entries.Opening.{Opening}
use Rattle.uss_law_book.specs.Contents.{opening_of, is_open}
use Rattle.uss_law_book.proofs.Kept.{opening_has}
use Rattle.uss_event.specs.Heard.{News, by_reply}
use Rattle.uss_law_duty.specs.Answers.{job_of_call, job_named}
use Rattle.uss_law_duty.specs.Duties.{HearsOnly}
use Rattle.uss_law_supplier.specs.declared.duties.Awaited.TheVariants as Waits
use Rattle.uss_law_supplier.specs.Values.{Round, Values, awaited_of, round_of, in_round, leaving_out, progress_of, hearing}
use Rattle.uss_law_supplier.specs.Table.{next_or_choice, on_heard, when_awaited}
use Rattle.uss_law_supplier.specs.Calls.{kind_of, is_it}
use Rattle.uss_law_supplier.specs.Turns.{Standing, Turn}
use Rattle.uss_law_supplier.specs.Airspace.{next_unheard}
use Rattle.uss_law_supplier.specs.Jobs.{view_of, heard_of_peer, round_by_peer, with_values, looking_at, carry_out_peer, acting_on_peer, open_by_peer}
use Rattle.uss_law_supplier.specs.Replies.{waits_for_peer, heard_by}
use Rattle.uss_law_supplier.specs.Fitting.{IsPhase, IsPeerAwaited, IsAwaited, IsFit}
use Rattle.uss_law_supplier.proofs.Waits.{round_own, round_awaited}
use Rattle.uss_law_supplier.proofs.Onward.{open_is}
use Rattle.uss_law_supplier.proofs.Fits.{fit_in_round, heard_in_round}
use Rattle.uss_law_supplier.proofs.Good.{Sound, IsGood}
use Rattle.uss_law_supplier.proofs.Jobs.{IsAt, good_stopping}
use Rattle.uss_law_supplier.proofs.Chosen.{good_choosing}
use Rattle.uss_law_supplier.proofs.Resuming.{good_resuming}
use Rattle.uss_law_supplier.proofs.Acting.{IsSeeing, good_looking_at}
use Rattle.uss_law_supplier.proofs.Replying.{at_with, moved_good}

-- a call that is the awaited one

same_details : (a b : PeerCall) → same_peer_call a b ≡ true → a ≡ b
same_details (Calls.Details j f m b) (Calls.Details j' f' m' b') h =
    let p1 = both (j == j') _ h in
    let p2 = both (f == f') _ p1.1 in
    let p3 = both (same_text m m') (same_text b b') p2.1 in
    let job = same_number j j' p1.0 in
    let flight = same_number f f' p2.0 in
    let manager = same_bytes m m' p3.0 in
    let base = same_bytes b b' p3.1 in
    λ i. Calls.Details (job i) (flight i) (manager i) (base i)
same_details _ _ h = cc

awaited_peer : (call : PeerCall) (x : Option Outgoing) → is_it (Goes.Peer call) x ≡ true → x ≡ Some (Goes.Peer call)
awaited_peer call None h = cc
awaited_peer call (Some (Goes.Dss c)) h = cc
awaited_peer call (Some (Goes.Peer c)) h = ap (λ (d : PeerCall). Some (Goes.Peer d)) (same_details c call h)

-- the round that a reply leaves

round_fit : (s : Standing) (o : Opening) (call : PeerCall) (reply : PeerReply) → Sound s → awaited_of o.job s.values ≡ Some (Goes.Peer call) → IsFit s.owner s.book (round_by_peer s o call reply)
round_fit s o (Calls.Details job flight manager base) Peers.Gone d w =
    let r = leaving_out flight (round_of o.job s.values) in
    fit_in_round s.owner s.book s.values o.job r d.fit
    (λ c e. (
    let call = Goes.Peer (Calls.Details job flight manager base) in
    let q : call ≡ c = some_same call c (sym w ∙ e) in
    let a : IsPeerAwaited s.book s.values o.job (Calls.Details job flight manager base) = d.fit o.job call w in
    let f : (round_of o.job (in_round o.job r s.values)).found ≡ (round_of o.job s.values).found = ap (λ (x : Round). x.found) (round_own o.job r s.values) in
    let b : IsPeerAwaited s.book (in_round o.job r s.values) o.job (Calls.Details job flight manager base) = record {
      opening = a.opening;
      opened = a.opened;
      unclosed = a.unclosed;
      flight = a.flight;
      manager = a.manager;
      base = a.base;
      is = a.is;
      phase = a.phase;
      few = subst (λ l. length l ≤ 1024) (sym f) a.few;
    } in
    subst (λ (x : Outgoing). IsAwaited s.owner s.book (in_round o.job r s.values) o.job x) q b))
round_fit s o _ _ d w = d.fit

round_heard : (s : Standing) (o : Opening) (call : PeerCall) (reply : PeerReply) → (round_by_peer s o call reply).heard ≡ s.values.heard
round_heard s o (Calls.Details job flight manager base) Peers.Gone = heard_in_round o.job (leaving_out flight (round_of o.job s.values)) s.values
round_heard s o _ _ = refl

round_waits : (s : Standing) (o : Opening) (call : PeerCall) (reply : PeerReply) → awaited_of o.job (round_by_peer s o call reply) ≡ awaited_of o.job s.values
round_waits s o (Calls.Details job flight manager base) Peers.Gone = round_awaited o.job (leaving_out flight (round_of o.job s.values)) s.values
round_waits s o _ _ = refl

-- what the job does then

seen : (s : Standing) (heard : List News) (moment : ℤ) (o : Opening) (event : Event) (call : PeerCall) (reply : PeerReply) (x : Option Reference) → IsAt s o → IsSeeing s o → HearsOnly heard event s.values.heard
    → job_named event s.book ≡ Some o → next_unheard s.owner s.values.heard (round_of o.job s.values) ≡ x → IsGood s heard moment event (carry_out_peer s o call reply (next_or_choice (is_some x)))
seen s heard moment o event call reply None a p hears named e = good_choosing s heard moment event o a p.phase p.few hears named
seen s heard moment o event call reply (Some x) a p hears named e = subst (λ y. IsGood s heard moment event (looking_at s o y)) (sym e) (good_looking_at s heard moment event o x a p)

acted : Standing → Opening → PeerCall → PeerReply → Turn
acted s o call reply = carry_out_peer s o call reply (on_heard (view_of s o) Waits.Details (heard_of_peer s o reply))

by_reply_of : (s : Standing) (heard : List News) (moment : ℤ) (o : Opening) (job flight : ℕ) (manager base : List ℕ) (reply : PeerReply) → IsAt s o → o.job ≡ job → IsSeeing s o
    → HearsOnly heard (Comes.Peer (Calls.Details job flight manager base) reply) s.values.heard → opening_of job s.book ≡ Some o → peer_fits (Calls.Details job flight manager base) reply ≡ true
    → IsGood s heard moment (Comes.Peer (Calls.Details job flight manager base) reply) (acted s o (Calls.Details job flight manager base) reply)
unfolding acted
by_reply_of s heard moment o job flight manager base (Peers.Served pair) a j p hears named fit =
    seen s heard moment o (Comes.Peer (Calls.Details job flight manager base) (Peers.Served pair)) (Calls.Details job flight manager base) (Peers.Served pair) (next_unheard s.owner s.values.heard (round_of o.job s.values)) a p hears named refl
by_reply_of s heard moment o job flight manager base Peers.Gone a j p hears named fit =
    seen s heard moment o (Comes.Peer (Calls.Details job flight manager base) Peers.Gone) (Calls.Details job flight manager base) Peers.Gone (next_unheard s.owner s.values.heard (round_of o.job s.values)) a p hears named refl
by_reply_of s heard moment o job flight manager base Peers.Noted a j p hears named fit = cc
by_reply_of s heard moment o job flight manager base (Peers.Status status) a j p hears named fit =
    good_stopping s heard moment (Comes.Peer (Calls.Details job flight manager base) (Peers.Status status)) o (Answers.PeerRefused manager status) a refl
    (record { job = job; flight = flight; base = base; its_call = refl; unfinished = subst (λ k. is_open k s.book ≡ true) j (open_is s.book o a.unfinished); replied = refl })

good_by_peer : (s : Standing) (heard : List News) (moment : ℤ) (o : Opening) (job flight : ℕ) (manager base : List ℕ) (reply : PeerReply) → IsAt s o → opening_of job s.book ≡ Some o
    → HearsOnly heard (Comes.Peer (Calls.Details job flight manager base) reply) s.values.heard → peer_fits (Calls.Details job flight manager base) reply ≡ true
    → awaited_of o.job s.values ≡ Some (Goes.Peer (Calls.Details job flight manager base))
    → IsGood s heard moment (Comes.Peer (Calls.Details job flight manager base) reply) (acting_on_peer (with_values s (round_by_peer s o (Calls.Details job flight manager base) reply)) o (Calls.Details job flight manager base) reply)
unfolding view_of acted
good_by_peer s heard moment o job flight manager base reply a named hears fit waits =
    let call = Calls.Details job flight manager base in
    let v = round_by_peer s o call reply in
    let t = with_values s v in
    let f = round_fit s o call reply a.sound waits in
    let here = at_with s v o a f (round_heard s o call reply) in
    let w : IsPeerAwaited s.book v o.job call = f o.job (Goes.Peer call) (round_waits s o call reply ∙ waits) in
    let same : w.opening ≡ o = some_same w.opening o (sym w.opened ∙ a.unfinished.opened) in
    let p : IsSeeing t o = record { phase = subst (λ (x : Opening). IsPhase s.book x Waits.Details) same w.phase; few = w.few } in
    let kind : option_and_then kind_of (awaited_of o.job v) ≡ Some Waits.Details = ap (option_and_then kind_of) (round_waits s o call reply ∙ waits) in
    let acts : acted t o call reply ≡ acting_on_peer t o call reply = ap (λ x. carry_out_peer t o call reply (when_awaited (view_of t o) (heard_of_peer t o reply) x)) (sym kind) in
    moved_good s v heard moment (Comes.Peer call reply) (acting_on_peer t o call reply) (round_heard s o call reply)
    (subst (λ (x : Turn). IsGood t heard moment (Comes.Peer call reply) x) acts
    (by_reply_of t heard moment o job flight manager base reply here (opening_has s.book job o named).1 p (subst (HearsOnly heard (Comes.Peer call reply)) (sym (round_heard s o call reply)) hears) named fit))

no_details : (s : Standing) (o : Opening) (job index : ℕ) (base : List ℕ) (note : Note) → IsAt s o → awaited_of o.job s.values ≡ Some (Goes.Peer (Calls.Notify job index base note)) → ⊥
no_details s o job index base note a w =
    let x : IsPeerAwaited s.book s.values o.job (Calls.Notify job index base note) = a.sound.fit o.job (Goes.Peer (Calls.Notify job index base note)) w in
    let e = x.is in
    cc

pub good_open_by_peer : (s : Standing) (heard : List News) (moment : ℤ) (o : Opening) (call : PeerCall) (reply : PeerReply) → IsAt s o → opening_of (job_of_call call) s.book ≡ Some o
    → HearsOnly heard (Comes.Peer call reply) s.values.heard → (b : Bool) → (peer_fits call reply && waits_for_peer s o call) ≡ b → IsGood s heard moment (Comes.Peer call reply) (open_by_peer s o call reply b)
good_open_by_peer s heard moment o call reply a named hears false e = good_resuming s heard moment (Comes.Peer call reply) o a
good_open_by_peer s heard moment o (Calls.Details job flight manager base) reply a named hears true e =
    let p = both (peer_fits (Calls.Details job flight manager base) reply) (waits_for_peer s o (Calls.Details job flight manager base)) e in
    good_by_peer s heard moment o job flight manager base reply a named hears p.0 (awaited_peer (Calls.Details job flight manager base) (awaited_of o.job s.values) p.1)
good_open_by_peer s heard moment o (Calls.Notify job index base note) reply a named hears true e =
    let p = both (peer_fits (Calls.Notify job index base note) reply) (waits_for_peer s o (Calls.Notify job index base note)) e in
    absurd (no_details s o job index base note a (awaited_peer (Calls.Notify job index base note) (awaited_of o.job s.values) p.1))

-- what is heard of a fitting pair
pub hears_it : (heard : List News) (call : PeerCall) (reply : PeerReply) → HearsOnly heard (Comes.Peer call reply) (heard ++ heard_by call reply)
hears_it heard call reply = go (peer_fits call reply)
  where
    go : (b : Bool) → HearsOnly heard (Comes.Peer call reply) (heard ++ cond b (by_reply reply) [])
    go true = inr refl
    go false = inl (append-nil heard)

-- hearing leaves what jobs wait for
pub fit_hearing : (owner : Owner) (book : List Entry) (v : Values) (news : List News) → IsFit owner book v → IsFit owner book (hearing news v)
unfolding progress_of
fit_hearing owner book v news f = λ job call e. go job call (f job call e)
  where
    go : (job : ℕ) (call : Outgoing) → IsAwaited owner book v job call → IsAwaited owner book (hearing news v) job call
    go job (Goes.Dss call) a = a
    go job (Goes.Peer call) a =
        record { opening = a.opening; opened = a.opened; unclosed = a.unclosed; flight = a.flight; manager = a.manager; base = a.base; is = a.is; phase = a.phase; few = a.few }
