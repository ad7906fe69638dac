-- How many calls a job may still make after it acts on a reply.
use Rattle.std.proofs.Common.{ℕ, zero, suc, slice_get, map, ◌||◌, ◌+◌, ◌≤◌, ◌<◌, ◌==◌, ◌≡◌, ◌⊎◌, inl, inr, Bool, true, false, cond, not, nat_lt, List, [], ◌∷◌, ◌++◌, length, filter, refl, ap, sym, subst, ◌∙◌, arith, Option, Some, None, is_some}
use Rattle.std.proofs.lemmas.List.{append-nil, length-append}
use Rattle.uss_vol4.specs.Volume.{Volume4D}
use Rattle.uss_intent.specs.declared.records.State.{State}
use Rattle.uss_intent.specs.declared.records.Reference.{Reference}
use Rattle.uss_intent.specs.declared.records.Subscriber.{Subscriber}
use Rattle.uss_intent.specs.declared.calls.DssAsk.{DssAsk}
use Rattle.uss_intent.specs.declared.calls.DssAsk.TheVariants as Asks
use Rattle.uss_intent.specs.declared.calls.DssReply.{DssReply}
use Rattle.uss_intent.specs.declared.calls.DssReply.TheVariants as Replies
use Rattle.uss_intent.specs.declared.calls.DssRefusal.TheVariants as Refuses
use Rattle.uss_intent.specs.Numbers.{is_one_of}
use Rattle.uss_event.specs.Fits.{peer_fits}
use Rattle.uss_event.specs.Pairs.{OperationalIntent}
use Rattle.uss_event.specs.declared.asks.Wish.{Wish}
use Rattle.uss_event.specs.declared.asks.Wish.TheVariants.{Put, End}
use Rattle.uss_event.specs.declared.entries.Ending.{Ending}
use Rattle.uss_event.specs.declared.entries.Ending.TheVariants as Ends
use Rattle.uss_event.specs.declared.entries.Entry.{Entry}
use Rattle.uss_event.specs.declared.entries.Entry.TheVariants as Enters
use Rattle.uss_event.specs.declared.calls.PeerCall.{PeerCall}
use Rattle.uss_event.specs.declared.calls.PeerCall.TheVariants as Calls
use Rattle.uss_event.specs.declared.calls.PeerReply.{PeerReply}
use Rattle.uss_event.specs.declared.calls.PeerReply.TheVariants as Peers
use Rattle.uss_event.specs.declared.calls.Outgoing.TheVariants as Goes
use Rattle.uss_event.specs.declared.rules.Verdict.{Verdict}
use Rattle.uss_plan.specs.declared.choice.Choice.{Choice}
use Rattle.uss_plan.specs.declared.choice.Choice.TheVariants.{Chosen, Blocked}
use Rattle.uss_law_dss.specs.Lists.{Has}
use Rattle.uss_law_dss.specs.Fits.{fits}
use Rattle.uss_law_dss.proofs.Lists.{find_has}
use Rattle.uss_law_dss.proofs.Tests.{equal_number, left_false, both, not_true, not_both, less_is, some_same}
use Rattle.uss_event.specs.declared.entries.Opening.{Opening}
use Rattle.uss_event.specs.declared.entries.Trial.{Trial}
use Rattle.uss_event.specs.declared.entries.Closing.{Closing}
use Rattle.uss_law_book.specs.Lists.{trials}
use Rattle.uss_law_book.specs.Contents.{is_held, is_done, is_closed, trials_of, decision_of, current_ovn_of, rounds_of}
use Rattle.uss_law_book.proofs.Entries.{opening_kept, closed_by_either}
use Rattle.uss_law_duty.specs.Answers.{flight_of}
use Rattle.uss_law_duty.specs.Sayings.{others}
use Rattle.uss_law_duty.specs.Entered.{shown_tag}
use Rattle.uss_law_supplier.specs.declared.duties.Awaited.{Awaited}
use Rattle.uss_law_supplier.specs.declared.duties.Awaited.TheVariants as Waits
use Rattle.uss_law_supplier.specs.declared.duties.Duty.TheVariants as Duties
use Rattle.uss_law_supplier.specs.Values.{Round, round_of, awaiting, in_round, asking_for}
use Rattle.uss_law_supplier.specs.Table.{next_or_choice, on_found, on_got, on_heard}
use Rattle.uss_law_supplier.specs.Calls.{kind_of_ask}
use Rattle.uss_law_supplier.specs.Turns.{Standing, entering}
use Rattle.uss_law_supplier.specs.Airspace.{is_own, is_unheard, next_unheard, is_left, choice_of, pairs_in, key_of}
use Rattle.uss_law_supplier.specs.Jobs.{keeps_key, view_of, heard_of_dss, heard_of_peer, owns_tag, asking, pending, attempting, holding_as, deciding, giving_up_after, giving_up, ending_as, closing, looking_at, blocked_by, choosing_by, choosing, carry_out, carry_out_peer}
use Rattle.uss_law_book.proofs.Others.{trials_either}
use Rattle.uss_law_supplier.proofs.Waits.{round_own, awaiting_own, awaiting_round}
use Rattle.uss_law_supplier.proofs.Onward.{IsOpenJob}
use Rattle.uss_law_asking.proofs.Budget.{cost, cost_up, left, Suffices, Allows, IsWithin, asks, asks_after}

-- the book after an entry of the job

pub still : (s : Standing) (o : Opening) (e : Entry) → IsOpenJob s.book o → is_closed o.job (e ∷ []) ≡ false → IsOpenJob (s.book ++ e ∷ []) o
still s o e u h =
    record {
      opened = opening_kept s.book (e ∷ []) o.job o u.opened;
      unclosed = closed_by_either o.job s.book (e ∷ []) ∙ left_false (is_closed o.job s.book) (is_closed o.job (e ∷ [])) u.unclosed h;
    }

pub pending_leaves_open : (s : Standing) (o : Opening) (alternative : ℕ) (key : List (List ℕ)) → is_closed o.job (pending s o alternative key ∷ []) ≡ false
unfolding is_held is_done
pending_leaves_open s o alternative key = refl

decision_leaves_open : (job : ℕ) (end : Ending) → is_closed job (Enters.Deciding (record { job = job; end = end }) ∷ []) ≡ false
unfolding is_held is_done
decision_leaves_open job end = refl

pub ticket_leaves_open : (job : ℕ) → is_closed job (Enters.TicketOpen job ∷ []) ≡ false
unfolding is_held is_done
ticket_leaves_open job = refl

pub same_trials : (job : ℕ) (book : List Entry) → trials_of job (book ++ Enters.TicketOpen job ∷ []) ≡ trials_of job book
unfolding trials_of
same_trials job book = trials_either job book (Enters.TicketOpen job ∷ []) ∙ append-nil (trials_of job book)

one_more : (s : Standing) (o : Opening) (alternative : ℕ) (key : List (List ℕ)) → length (trials_of o.job (s.book ++ pending s o alternative key ∷ [])) ≡ length (trials_of o.job s.book) + 1
unfolding trials_of
one_more s o alternative key =
    let t : Trial = record { job = o.job; tag = length (trials s.book) + 1; alternative = alternative; previous = current_ovn_of o.ask.flight s.book; key = key } in
    let a : trials_of o.job (pending s o alternative key ∷ []) ≡ t ∷ [] = rw (equal_number o.job o.job refl) refl in
    ap length (trials_either o.job s.book (pending s o alternative key ∷ []) ∙ ap (λ (l : List Trial). trials_of o.job s.book ++ l) a) ∙ length-append (trials_of o.job s.book) (t ∷ [])

-- the first round, and a further one

abbrev NextRound : ℕ → ℕ → ℕ → ℕ → Type 0
NextRound n tried rounds b = (c : ℕ) × Suffices n (4 + n) tried rounds c × (c < b)

pub first_round : (n tried rounds b : ℕ) → tried ≡ 0 → 1 ≤ rounds → 3 + cost rounds n ≤ b → NextRound n tried rounds b
first_round n tried zero b t o l = absurd (omega (arith, o))
first_round n tried (suc r) b t o l = (4 + n + cost r n, (r, omega (arith, t), omega arith), omega (arith, l))

pub gap : (a b : ℕ) → a < b → (r : ℕ) × (b ≡ a + suc r)
gap a zero h = absurd (omega (arith, h))
gap zero (suc b) h = (b, omega arith)
gap (suc a) (suc b) h = let g = gap a b (omega (arith, h)) in let e = g.1 in (g.0, omega (arith, e))

next_round : (n tried rounds r b : ℕ) → tried < rounds → rounds ≤ tried + r → 3 + cost r n ≤ b → NextRound n tried rounds b
next_round n tried rounds r b t o l =
    let g = gap tried rounds t in
    let e = g.1 in
    let up : cost (suc g.0) n ≤ cost r n = cost_up (suc g.0) r n (omega (arith, e, o)) in
    (4 + n + cost g.0 n, (g.0, e, omega arith), omega (arith, up, l))

-- an attempt

pub attempts : (n : ℕ) (s : Standing) (o : Opening) (alternative : ℕ) (key : List (List ℕ)) (b : ℕ) → IsOpenJob s.book o → Suffices n 4 (length (trials_of o.job s.book)) (rounds_of o.ask.wish) b
    → IsWithin n s o (attempting s o alternative key) b
attempts n s o alternative key b u f =
    let e = f.2 in
    let q = f.1 in
    let m = one_more s o alternative key in
    asks_after n s (pending s o alternative key) o Waits.Put (3 + cost f.0 n) b (still s o (pending s o alternative key) u (pending_leaves_open s o alternative key))
    (f.0, omega (arith, m, q), omega arith) (omega (arith, e))

decides : (n : ℕ) (s : Standing) (o : Opening) (end : Ending) (b : ℕ) → IsOpenJob s.book o → 3 ≤ b → IsWithin n s o (deciding s o end) b
decides n s o end b u l =
    asks_after n s (Enters.Deciding (record { job = o.job; end = end })) o Waits.TicketRemove 2 b (still s o (Enters.Deciding (record { job = o.job; end = end })) u (decision_leaves_open o.job end)) (omega arith) (omega (arith, l))

pub gives_up : (n : ℕ) (s : Standing) (o : Opening) (end : Ending) (b : ℕ) → IsOpenJob s.book o → 3 ≤ b → IsWithin n s o (giving_up s o end) b
gives_up n s o end b u l = go (trials_of o.job s.book)
  where
    go : (ts : List Trial) → IsWithin n s o (giving_up_after s o end ts) b
    go [] = inl refl
    go (t ∷ ts) = decides n s o end b u l

chooses : (n : ℕ) (s : Standing) (o : Opening) (b : ℕ) → IsOpenJob s.book o → Suffices n 4 (length (trials_of o.job s.book)) (rounds_of o.ask.wish) b → IsWithin n s o (choosing s o) b
chooses n s o b u f = at (pairs_in s (round_of o.job s.values)) (choice_of s o (pairs_in s (round_of o.job s.values)))
  where
    by : (rule : Verdict) (x : Option OperationalIntent) → IsWithin n s o (blocked_by s o rule x) b
    by rule None = inl refl
    by rule (Some p) = let e = f.2 in gives_up n s o (Ends.Conflict p.reference.flight p.reference.manager rule) b u (omega (arith, e))

    at : (pairs : List OperationalIntent) (c : Choice) → IsWithin n s o (choosing_by s o pairs c) b
    at pairs (Chosen alternative) = attempts n s o alternative (key_of pairs) b u f
    at pairs (Blocked place rule) = by rule (slice_get pairs place)

-- the details of a reference are asked for: then one flight fewer is left

filter_less : {X : Type 0} (p q : X → Bool) → ((x : X) → q x ≡ true → p x ≡ true) → (xs : List X) → length (filter q xs) ≤ length (filter p xs)
filter_less p q f [] = omega arith
filter_less p q f (x ∷ xs) = go (filter_less p q f xs) (q x) refl (p x) refl
  where
    go : length (filter q xs) ≤ length (filter p xs) → (a : Bool) → q x ≡ a → (b : Bool) → p x ≡ b → length (cond a (x ∷ filter q xs) (filter q xs)) ≤ length (cond b (x ∷ filter p xs) (filter p xs))
    go r true e true h = omega (arith, r)
    go r true e false h = not_both (p x) (f x e) h
    go r false e true h = omega (arith, r)
    go r false e false h = r

filter_fewer : {X : Type 0} (p q : X → Bool) → ((x : X) → q x ≡ true → p x ≡ true) → (xs : List X) (y : X) → Has xs y → p y ≡ true → q y ≡ false → length (filter q xs) + 1 ≤ length (filter p xs)
filter_fewer p q f [] y h a b = absurd h
filter_fewer p q f (x ∷ xs) y h a b = go (filter_less p q f xs) (λ w. filter_fewer p q f xs y w a b) (q x) refl (p x) refl h
  where
    go : length (filter q xs) ≤ length (filter p xs) → (Has xs y → length (filter q xs) + 1 ≤ length (filter p xs)) → (c : Bool) → q x ≡ c → (d : Bool) → p x ≡ d → (x ≡ y) ⊎ Has xs y
        → length (cond c (x ∷ filter q xs) (filter q xs)) + 1 ≤ length (cond d (x ∷ filter p xs) (filter p xs))
    go r k true e true h (inl w) = not_both (q x) e (ap q w ∙ b)
    go r k true e true h (inr w) = let l = k w in omega (arith, l)
    go r k true e false h w = not_both (p x) (f x e) h
    go r k false e true h w = omega (arith, r)
    go r k false e false h (inl w) = not_both (p x) (ap p w ∙ a) h
    go r k false e false h (inr w) = k w

pub one_fewer : (r : Round) (x : Reference) → Has r.found x → is_one_of x.flight r.asked ≡ false → left (asking_for x.flight r) + 1 ≤ left r
one_fewer r x h e =
    filter_fewer (λ (y : Reference). not (is_one_of y.flight r.asked)) (λ (y : Reference). not ((x.flight == y.flight) || is_one_of y.flight r.asked))
    (λ y q. not_other (x.flight == y.flight) (is_one_of y.flight r.asked) q) r.found x h (rw e refl) (rw (equal_number x.flight x.flight refl) refl)
  where
    not_other : (a b : Bool) → not (a || b) ≡ true → not b ≡ true
    not_other true b q = cc
    not_other false b q = q

pub unasked : (s : Standing) (r : Round) (x : Reference) → is_unheard s.owner s.values.heard r x ≡ true → is_one_of x.flight r.asked ≡ false
unfolding is_unheard
unasked s r x h = not_true (is_one_of x.flight r.asked) (both (not (is_one_of x.flight r.asked)) _ (both (not (is_own s.owner x)) _ h).1).0

looks : (n : ℕ) (s : Standing) (o : Opening) (x : Reference) (b : ℕ) → IsOpenJob s.book o → next_unheard s.owner s.values.heard (round_of o.job s.values) ≡ Some x
    → Suffices n (4 + left (round_of o.job s.values)) (length (trials_of o.job s.book)) (rounds_of o.ask.wish) b → IsWithin n s o (looking_at s o (Some x)) b
looks n s o x b u e f =
    let old = round_of o.job s.values in
    let call = Goes.Peer (Calls.Details o.job x.flight x.manager x.base) in
    let round = asking_for x.flight old in
    let values = in_round o.job round s.values in
    let found = find_has (is_unheard s.owner s.values.heard old) old.found x e in
    let fewer = one_fewer old x found.0 (unasked s old x found.1) in
    let then : round_of o.job (awaiting o.job call values) ≡ round = awaiting_round o.job call values ∙ round_own o.job round s.values in
    let l = f.2 in
    inr (
      call,
      4 + left round + cost f.0 n,
      refl,
      record {
        unfinished = u;
        waits = awaiting_own o.job call values;
        its_job = refl;
        kind = Waits.Details;
        is = refl;
        allows = (f.0, f.1, subst (λ (r : Round). 4 + left r + cost f.0 n ≤ 4 + left round + cost f.0 n) (sym then) (omega arith));
      },
      omega (arith, fewer, l),
    )

abbrev Left : ℕ → Standing → Opening → ℕ → Type 0
Left n s o b = Suffices n (4 + left (round_of o.job s.values)) (length (trials_of o.job s.book)) (rounds_of o.ask.wish) b

at_choice : (n : ℕ) (s : Standing) (o : Opening) (b : ℕ) → Left n s o b → Suffices n 4 (length (trials_of o.job s.book)) (rounds_of o.ask.wish) b
at_choice n s o b f = let l = f.2 in (f.0, f.1, omega (arith, l))

goes_by : (n : ℕ) (s : Standing) (o : Opening) (reply : DssReply) (b : ℕ) → IsOpenJob s.book o → Left n s o b → IsWithin n s o (carry_out s o reply (next_or_choice (is_left s.owner s.values.heard (round_of o.job s.values)))) b
goes_by n s o reply b u f = go (next_unheard s.owner s.values.heard (round_of o.job s.values)) refl
  where
    go : (x : Option Reference) → next_unheard s.owner s.values.heard (round_of o.job s.values) ≡ x → IsWithin n s o (carry_out s o reply (next_or_choice (is_some x))) b
    go None e = chooses n s o b u (at_choice n s o b f)
    go (Some x) e = subst (λ y. IsWithin n s o (looking_at s o y) b) (sym e) (looks n s o x b u e f)

goes_by_peer : (n : ℕ) (s : Standing) (o : Opening) (call : PeerCall) (reply : PeerReply) (b : ℕ) → IsOpenJob s.book o → Left n s o b
    → IsWithin n s o (carry_out_peer s o call reply (next_or_choice (is_left s.owner s.values.heard (round_of o.job s.values)))) b
goes_by_peer n s o call reply b u f = go (next_unheard s.owner s.values.heard (round_of o.job s.values)) refl
  where
    go : (x : Option Reference) → next_unheard s.owner s.values.heard (round_of o.job s.values) ≡ x → IsWithin n s o (carry_out_peer s o call reply (next_or_choice (is_some x))) b
    go None e = chooses n s o b u (at_choice n s o b f)
    go (Some x) e = subst (λ y. IsWithin n s o (looking_at s o y) b) (sym e) (looks n s o x b u e f)

-- the reply of another supplier

pub by_peer : (n : ℕ) (s : Standing) (o : Opening) (job flight : ℕ) (manager base : List ℕ) (reply : PeerReply) (b : ℕ) → IsOpenJob s.book o → peer_fits (Calls.Details job flight manager base) reply ≡ true → Left n s o b
    → IsWithin n s o (carry_out_peer s o (Calls.Details job flight manager base) reply (on_heard (view_of s o) Waits.Details (heard_of_peer s o reply))) b
by_peer n s o job flight manager base (Peers.Served pair) b u fit f = goes_by_peer n s o (Calls.Details job flight manager base) (Peers.Served pair) b u f
by_peer n s o job flight manager base Peers.Gone b u fit f = goes_by_peer n s o (Calls.Details job flight manager base) Peers.Gone b u f
by_peer n s o job flight manager base Peers.Noted b u fit f = cc
by_peer n s o job flight manager base (Peers.Status status) b u fit f = inl refl

-- the reply of the discovery service

abbrev Acts : ℕ → Standing → Opening → DssAsk → DssReply → Awaited → ℕ → Type 0
Acts n s o ask reply kind b =
    IsOpenJob s.book o → fits ask reply ≡ true → ((rs : List Reference) → reply ≡ Replies.Found rs → left (round_of o.job s.values) ≤ n) → (unasked : ℕ)
    → Allows n unasked (length (trials_of o.job s.book)) (rounds_of o.ask.wish) kind b → IsWithin n s o (carry_out s o reply (on_heard (view_of s o) kind (heard_of_dss s o reply))) b

opens : (n : ℕ) (s : Standing) (o : Opening) (unasked b : ℕ) → IsOpenJob s.book o → Allows n unasked (length (trials_of o.job s.book)) (rounds_of o.ask.wish) Waits.TicketPut b
    → IsWithin n s o (entering s (Enters.TicketOpen o.job) (λ after. asking after o Waits.Query)) b
opens n s o unasked b u a =
    let c = first_round n (length (trials_of o.job s.book)) (rounds_of o.ask.wish) b a.0 a.1 a.2 in
    asks_after n s (Enters.TicketOpen o.job) o Waits.Query c.0 b (still s o (Enters.TicketOpen o.job) u (ticket_leaves_open o.job))
    (subst (λ (l : List Trial). Suffices n (4 + n) (length l) (rounds_of o.ask.wish) c.0) (sym (same_trials o.job s.book)) c.1) c.2

by_ticket_put : (n : ℕ) (s : Standing) (o : Opening) (ticket : ℕ) (area : Volume4D) (base : List ℕ) (reply : DssReply) (b : ℕ) → Acts n s o (Asks.TicketPut ticket area base) reply Waits.TicketPut b
by_ticket_put n s o ticket area base (Replies.TicketMade t) b u fit few k a = opens n s o k b u a
by_ticket_put n s o ticket area base (Replies.Refused Refuses.Exists) b u fit few k a = opens n s o k b u a
by_ticket_put n s o ticket area base (Replies.Refused refusal) b u fit few k a = inl refl
by_ticket_put n s o ticket area base reply b u fit few k a = let f = fit in cc

by_query : (n : ℕ) (s : Standing) (o : Opening) (area : Volume4D) (reply : DssReply) (b : ℕ) → Acts n s o (Asks.Query area) reply Waits.Query b
unfolding view_of
by_query n s o area (Replies.Found rs) b u fit few k a = at_key (keeps_key o.ask.wish)
  where
    more : Left n s o b
    more = let l = few rs refl in let m = a.2 in (a.0, a.1, omega (arith, l, m))

    at_crowd : (x : Bool) → IsWithin n s o (carry_out s o (Replies.Found rs) (cond x Duties.Crowded (next_or_choice (is_left s.owner s.values.heard (round_of o.job s.values))))) b
    at_crowd true = inl refl
    at_crowd false = goes_by n s o (Replies.Found rs) b u more

    at_key : (x : Bool) → IsWithin n s o (carry_out s o (Replies.Found rs) (on_found x (length (others (flight_of s.owner o) rs)) (is_left s.owner s.values.heard (round_of o.job s.values)))) b
    at_key true = at_crowd (nat_lt 1024 (length (others (flight_of s.owner o) rs)))
    at_key false = attempts n s o 0 [] b u (at_choice n s o b more)
by_query n s o area reply b u fit few k a = let f = fit in cc

holds : (n : ℕ) (s : Standing) (o : Opening) (owed : List Subscriber) (r : Reference) (tag : Option ℕ) (ovn : Option (List ℕ)) (b : ℕ) → IsWithin n s o (holding_as s o owed r tag ovn) b
holds n s o owed r (Some tag) (Some ovn) b = inl refl
holds n s o owed r None ovn b = inl refl
holds n s o owed r (Some tag) None b = inl refl

lacks : (n : ℕ) (s : Standing) (o : Opening) (flight : ℕ) (ovn : Option (List ℕ)) (extents : List Volume4D) (key : List (List ℕ)) (state : State) (base : List ℕ) (ticket : ℕ) (rs : List Reference) (b : ℕ)
    → Acts n s o (Asks.Put flight ovn extents key state base ticket) (Replies.Refused (Refuses.MissingKey rs)) Waits.Put b
unfolding view_of
lacks n s o flight ovn extents key state base ticket rs b u fit few k a = at_key (keeps_key o.ask.wish)
  where
    tried : ℕ
    tried = length (trials_of o.job s.book)

    reply : DssReply
    reply = Replies.Refused (Refuses.MissingKey rs)

    at_round : (x : Bool) → nat_lt tried (rounds_of o.ask.wish) ≡ x → IsWithin n s o (carry_out s o reply (cond x (Duties.Call Waits.Query) Duties.DecideStale)) b
    at_round true e =
        let c = next_round n tried (rounds_of o.ask.wish) a.0 b (less_is tried (rounds_of o.ask.wish) e) a.1 a.2 in
        asks n s o Waits.Query c.0 b u c.1 c.2
    at_round false e = let l = a.2 in decides n s o (Ends.Stale (map (λ (x : Reference). x.flight) rs)) b u (omega (arith, l))

    at_key : (x : Bool) → IsWithin n s o (carry_out s o reply (cond x (cond (nat_lt tried (rounds_of o.ask.wish)) (Duties.Call Waits.Query) Duties.DecideStale) (Duties.DssRefused 209))) b
    at_key true = at_round (nat_lt tried (rounds_of o.ask.wish)) refl
    at_key false = inl refl

gets : (n : ℕ) (s : Standing) (o : Opening) (b : ℕ) → IsOpenJob s.book o → 2 ≤ b → IsWithin n s o (asking s o Waits.Get) b
gets n s o b u l = asks n s o Waits.Get 1 b u (omega arith) (omega (arith, l))

by_put : (n : ℕ) (s : Standing) (o : Opening) (flight : ℕ) (ovn : Option (List ℕ)) (extents : List Volume4D) (key : List (List ℕ)) (state : State) (base : List ℕ) (ticket : ℕ) (reply : DssReply) (b : ℕ)
    → Acts n s o (Asks.Put flight ovn extents key state base ticket) reply Waits.Put b
by_put n s o flight ovn extents key state base ticket (Replies.Landed r subscribers) b u fit few k a = holds n s o subscribers r (shown_tag r) r.ovn b
by_put n s o flight ovn extents key state base ticket (Replies.Refused (Refuses.MissingKey rs)) b u fit few k a = lacks n s o flight ovn extents key state base ticket rs b u fit few k a
by_put n s o flight ovn extents key state base ticket (Replies.Refused Refuses.Exists) b u fit few k a = let l = a.2 in gets n s o b u (omega (arith, l))
by_put n s o flight ovn extents key state base ticket (Replies.Refused Refuses.StaleOvn) b u fit few k a = let l = a.2 in gets n s o b u (omega (arith, l))
by_put n s o flight ovn extents key state base ticket (Replies.Refused refusal) b u fit few k a = inl refl
by_put n s o flight ovn extents key state base ticket reply b u fit few k a = let f = fit in cc

by_get : (n : ℕ) (s : Standing) (o : Opening) (flight : ℕ) (reply : DssReply) (b : ℕ) → Acts n s o (Asks.Get flight) reply Waits.Get b
by_get n s o flight (Replies.Got r) b u fit few k a = go (owns_tag o.job s.book (shown_tag r))
  where
    go : (x : Bool) → IsWithin n s o (carry_out s o (Replies.Got r) (on_got x)) b
    go true = holds n s o [] r (shown_tag r) r.ovn b
    go false = inl refl
by_get n s o flight (Replies.Refused refusal) b u fit few k a = inl refl
by_get n s o flight reply b u fit few k a = let f = fit in cc

closes : (n : ℕ) (s : Standing) (o : Opening) (owed : List Subscriber) (wish : Wish) (b : ℕ) → IsWithin n s o (closing s o owed wish) b
closes n s o owed (Put to priority rounds proposals) b = go (decision_of o.job s.book)
  where
    go : (x : Option Closing) → IsWithin n s o (ending_as s o x) b
    go None = inl refl
    go (Some d) = inl refl
closes n s o owed End b = inl refl

by_ticket_remove : (n : ℕ) (s : Standing) (o : Opening) (ticket version : ℕ) (reply : DssReply) (b : ℕ) → Acts n s o (Asks.TicketRemove ticket version) reply Waits.TicketRemove b
by_ticket_remove n s o ticket version (Replies.TicketRemoved t) b u fit few k a = closes n s o [] o.ask.wish b
by_ticket_remove n s o ticket version (Replies.Refused Refuses.Retired) b u fit few k a = closes n s o [] o.ask.wish b
by_ticket_remove n s o ticket version (Replies.Refused Refuses.TicketInUse) b u fit few k a = gets n s o b u a
by_ticket_remove n s o ticket version (Replies.Refused refusal) b u fit few k a = inl refl
by_ticket_remove n s o ticket version reply b u fit few k a = let f = fit in cc

by_remove : (n : ℕ) (s : Standing) (o : Opening) (flight : ℕ) (ovn : List ℕ) (reply : DssReply) (b : ℕ) → Acts n s o (Asks.Remove flight ovn) reply Waits.Remove b
by_remove n s o flight ovn (Replies.Removed r subscribers) b u fit few k a = closes n s o subscribers o.ask.wish b
by_remove n s o flight ovn (Replies.Refused Refuses.Retired) b u fit few k a = closes n s o [] o.ask.wish b
by_remove n s o flight ovn (Replies.Refused refusal) b u fit few k a = inl refl
by_remove n s o flight ovn reply b u fit few k a = let f = fit in cc

the_kind : (n : ℕ) (s : Standing) (o : Opening) (ask : DssAsk) (reply : DssReply) (kind other : Awaited) (b : ℕ) → Some other ≡ Some kind → Acts n s o ask reply other b → Acts n s o ask reply kind b
the_kind n s o ask reply kind other b e a = subst (λ x. Acts n s o ask reply x b) (some_same other kind e) a

pub by_dss : (n : ℕ) (s : Standing) (o : Opening) (ask : DssAsk) (reply : DssReply) (kind : Awaited) (b : ℕ) → kind_of_ask ask ≡ Some kind → IsOpenJob s.book o → fits ask reply ≡ true
    → ((rs : List Reference) → reply ≡ Replies.Found rs → left (round_of o.job s.values) ≤ n) → (unasked : ℕ) → Allows n unasked (length (trials_of o.job s.book)) (rounds_of o.ask.wish) kind b
    → IsWithin n s o (carry_out s o reply (on_heard (view_of s o) kind (heard_of_dss s o reply))) b
by_dss n s o (Asks.Query area) reply kind b e = the_kind n s o (Asks.Query area) reply kind Waits.Query b e (by_query n s o area reply b)
by_dss n s o (Asks.Get flight) reply kind b e = the_kind n s o (Asks.Get flight) reply kind Waits.Get b e (by_get n s o flight reply b)
by_dss n s o (Asks.Put flight ovn extents key state base ticket) reply kind b e =
    the_kind n s o (Asks.Put flight ovn extents key state base ticket) reply kind Waits.Put b e (by_put n s o flight ovn extents key state base ticket reply b)
by_dss n s o (Asks.Remove flight ovn) reply kind b e = the_kind n s o (Asks.Remove flight ovn) reply kind Waits.Remove b e (by_remove n s o flight ovn reply b)
by_dss n s o (Asks.TicketPut ticket area base) reply kind b e = the_kind n s o (Asks.TicketPut ticket area base) reply kind Waits.TicketPut b e (by_ticket_put n s o ticket area base reply b)
by_dss n s o (Asks.TicketGet ticket) reply kind b e = cc
by_dss n s o (Asks.TicketRemove ticket version) reply kind b e = the_kind n s o (Asks.TicketRemove ticket version) reply kind Waits.TicketRemove b e (by_ticket_remove n s o ticket version reply b)
