-- That every request comes out, where nobody disturbs it: the walk of a plan from its query to its choice, and the whole.
use Rattle.std.proofs.Common.{ℕ, zero, suc, ℤ, ◌+◌, ◌≤◌, ◌==◌, ◌≡◌, ◌≢◌, inl, inr, Bool, true, false, not, ◌||◌, nat_lt, List, [], ◌∷◌, ◌++◌, length, refl, ap, sym, subst, ◌∙◌, arith, Option, Some, None, is_some}
use Rattle.std.proofs.lemmas.List.{append-nil, length-append}
use Rattle.uss_intent.specs.Same.{same_text}
use Rattle.uss_intent.specs.declared.records.Recorded.{Recorded}
use Rattle.uss_intent.specs.declared.records.Reference.{Reference}
use Rattle.uss_intent.specs.declared.records.State.{State}
use Rattle.uss_intent.specs.declared.calls.DssReply.{DssReply}
use Rattle.uss_intent.specs.Numbers.{is_one_of}
use Rattle.uss_event.specs.Fits.{peer_fits}
use Rattle.uss_law_duty.specs.Duties.{clamped}
use Rattle.uss_event.specs.Pairs.{OperationalIntent}
use Rattle.uss_event.specs.declared.details.Proposal.{Proposal}
use Rattle.uss_event.specs.declared.asks.Wish.{Wish}
use Rattle.uss_event.specs.declared.asks.Wish.TheVariants.{Put, End}
use Rattle.uss_event.specs.declared.asks.FlightAsk.{FlightAsk}
use Rattle.uss_event.specs.declared.calls.PeerCall.{PeerCall}
use Rattle.uss_event.specs.declared.calls.PeerCall.TheVariants as Calls
use Rattle.uss_event.specs.declared.calls.PeerReply.{PeerReply}
use Rattle.uss_event.specs.declared.calls.PeerReply.TheVariants as Peers
use Rattle.uss_event.specs.declared.calls.Outgoing.{Outgoing}
use Rattle.uss_event.specs.declared.calls.Outgoing.TheVariants as Goes
use Rattle.uss_event.specs.declared.events.Event.{Event}
use Rattle.uss_event.specs.declared.events.Event.TheVariants as Comes
use Rattle.uss_law_dss.specs.Lists.{Has}
use Rattle.uss_law_dss.specs.Service.{Service, shown_to}
use Rattle.uss_law_dss.proofs.Lists.{has_left, has_last, has_push, has_map, find_has, length-map}
use Rattle.uss_law_dss.proofs.Tests.{equal_number, same_number, and_true, both, not_true, not_both, not_less, left_true, right_true, less_is}
use Rattle.uss_event.specs.declared.entries.Opening.{Opening}
use Rattle.uss_event.specs.Heard.{kept_pairs, kept_pair}
use Rattle.uss_event.specs.Heard.News.{Heard}
use Rattle.uss_law_duty.specs.Answers.{flight_of}
use Rattle.uss_law_duty.specs.Sayings.{others}
use Rattle.uss_law_supplier.specs.Values.{Values, Round, awaiting, in_round, round_with, asking_for, round_of, hearing, progress_of, with_progress}
use Rattle.uss_law_supplier.specs.Table.{next_or_choice}
use Rattle.uss_law_supplier.specs.Turns.{Standing, dss_call, calling}
use Rattle.uss_law_supplier.specs.Airspace.{is_own, is_unheard, next_unheard, choice_of}
use Rattle.uss_law_supplier.specs.Jobs.{keeps_key, with_values, looking_at, round_by_dss, carry_out, carry_out_peer, found_by}
use Rattle.uss_law_supplier.specs.Asks.{opening_for}
use Rattle.uss_law_supplier.specs.Laws.{IsSound}
use Rattle.uss_law_supplier.proofs.Waits.{round_own, awaiting_own, awaiting_round}
use Rattle.uss_law_supplier.proofs.Fits.{heard_in_round}
use Rattle.uss_law_supplier.proofs.Acting.{next_step}
use Rattle.uss_law_asking.specs.Exchange.{turn_of}
use Rattle.uss_law_asking.specs.Complete.{IsUndisturbed, is_new, its_flight, IsOfChoice, IsKeyedOutcome, IsPutOutcome, IsOutcome, served_of, served_reply, around, intents_around, RequestsAreAnswered, RequestsComeOut}
use Rattle.uss_law_asking.proofs.Budget.{left}
use Rattle.uss_law_asking.proofs.Acts.{one_fewer}
use Rattle.uss_law_asking.proofs.Bounded.{left_found}
use Rattle.uss_law_asking.proofs.Walk.{ComesOutAs, Settles, goes_on_peer, hears_so}
use Rattle.uss_law_asking.proofs.Opens.{its_ticket, its_query, asked_values, looks_from, ticketed, found_there, looking_unfinished, looks_so}
use Rattle.uss_law_asking.proofs.Unkeyed.{requests_without_key_come_out}
use Rattle.uss_law_asking.proofs.Crowds.{shown_flight, found_around, finds_so, crowded_plans_come_out, key_is_no_end}
use Rattle.uss_law_asking.proofs.Area.{AreaCovers, area_covers}
use Rattle.uss_law_asking.proofs.Kept.{IsKept, hear_one, kept_distinct, distinct_found}
use Rattle.uss_law_asking.proofs.Chooses.{chooses_out}
use Rattle.uss_law_asking.proofs.Details.{IsHearing, shown_manager, served_is, recorded_around, pairs_so}

-- to wait for a call leaves what was heard
heard_of_awaiting : (job : ℕ) (call : Outgoing) (v : Values) → (awaiting job call v).heard ≡ v.heard
unfolding with_progress
heard_of_awaiting job call v = refl

-- the plan, and what it rests on
record IsPlan (s : Standing) (moment : ℤ) (ask : FlightAsk) (service : Service) (served : List OperationalIntent) : Type 0 where
  to : State
  priority : ℕ
  rounds : ℕ
  proposals : List Proposal
  wish : ask.wish ≡ Put to priority rounds proposals
  sound : IsSound s.owner s.book s.values
  calm : IsUndisturbed s moment ask service served
  covers : AreaCovers ask service
  few : length (around s ask service) ≤ 1024

abbrev Out : Standing → ℤ → FlightAsk → Service → List OperationalIntent → Values → Event → Type 0
Out s moment ask service served u event =
    ComesOutAs (IsOfChoice (is_new s ask) (its_flight s ask) (intents_around s ask service served) (choice_of s (opening_for s (clamped moment) ask) (intents_around s ask service served))) s.owner.name served (with_values (looks_from s moment ask) u) moment event
    (ticketed s moment ask service)

abbrev round_in : Standing → ℤ → FlightAsk → Values → Round
round_in s moment ask v = round_of (opening_for s (clamped moment) ask).job v

-- the next reference, or the choice
by_next : (t : Standing) (o : Opening) (reply : DssReply) (x : Option Reference) → next_unheard t.owner t.values.heard (round_of o.job t.values) ≡ x → carry_out t o reply (next_or_choice (is_some x)) ≡ next_step t o x
by_next t o reply None e = refl
by_next t o reply (Some r) e = ap (looking_at t o) e

by_next_peer : (t : Standing) (o : Opening) (call : PeerCall) (reply : PeerReply) (x : Option Reference) → next_unheard t.owner t.values.heard (round_of o.job t.values) ≡ x
    → carry_out_peer t o call reply (next_or_choice (is_some x)) ≡ next_step t o x
by_next_peer t o call reply None e = refl
by_next_peer t o call reply (Some r) e = ap (looking_at t o) e

-- what is kept once details are asked for and served

abbrev asked_for : Standing → ℤ → FlightAsk → Values → Reference → Values
asked_for s moment ask v x =
    awaiting (opening_for s (clamped moment) ask).job (Goes.Peer (Calls.Details (opening_for s (clamped moment) ask).job x.flight x.manager x.base))
    (in_round (opening_for s (clamped moment) ask).job (asking_for x.flight (round_in s moment ask v)) v)

round_then : (s : Standing) (moment : ℤ) (ask : FlightAsk) (v : Values) (x : Reference) (p : OperationalIntent) → round_in s moment ask (hearing (Heard p ∷ []) (asked_for s moment ask v x)) ≡ asking_for x.flight (round_in s moment ask v)
unfolding progress_of
round_then s moment ask v x p =
    let job = (opening_for s (clamped moment) ask).job in
    awaiting_round job (Goes.Peer (Calls.Details job x.flight x.manager x.base)) (in_round job (asking_for x.flight (round_in s moment ask v)) v) ∙ round_own job (asking_for x.flight (round_in s moment ask v)) v

news_then : (s : Standing) (moment : ℤ) (ask : FlightAsk) (v : Values) (x : Reference) (p : OperationalIntent) → (hearing (Heard p ∷ []) (asked_for s moment ask v x)).heard ≡ v.heard ++ Heard p ∷ []
news_then s moment ask v x p =
    let job = (opening_for s (clamped moment) ask).job in
    ap (λ l. l ++ Heard p ∷ [])
    (heard_of_awaiting job (Goes.Peer (Calls.Details job x.flight x.manager x.base)) (in_round job (asking_for x.flight (round_in s moment ask v)) v) ∙ heard_in_round job (asking_for x.flight (round_in s moment ask v)) v)

-- the reference that is asked for, and what is served of it
record IsNext (s : Standing) (moment : ℤ) (ask : FlightAsk) (service : Service) (served : List OperationalIntent) (v : Values) (x : Reference) : Type 0 where
  it : Recorded
  has : Has (around s ask service) it
  flight_is : x.flight ≡ it.reference.flight
  manager_is : x.manager ≡ it.reference.manager
  other : is_own s.owner it.reference ≡ false
  new : is_one_of x.flight (round_in s moment ask v).asked ≡ false
  fewer : left (asking_for x.flight (round_in s moment ask v)) + 1 ≤ left (round_in s moment ask v)
  pair : OperationalIntent
  served_so : served_of it.reference.flight it.reference.manager served ≡ Some pair
  version : pair.reference.version ≡ it.reference.version

next_is : (s : Standing) (moment : ℤ) (ask : FlightAsk) (service : Service) (served : List OperationalIntent) (v : Values) (x : Reference) → IsUndisturbed s moment ask service served → IsHearing s moment ask service served v
    → next_unheard s.owner v.heard (round_in s moment ask v) ≡ Some x → IsNext s moment ask service served v x
unfolding is_unheard
next_is s moment ask service served v x calm l e =
    let round = round_in s moment ask v in
    let h = find_has (is_unheard s.owner v.heard round) round.found x e in
    let m = has_map (λ (r : Recorded). shown_to s.owner.name r.reference) (around s ask service) x (subst (λ (y : List Reference). Has y x) l.found h.0) in
    let flight : x.flight ≡ m.0.reference.flight = sym (ap (λ (y : Reference). y.flight) m.2) ∙ shown_flight s.owner.name m.0.reference in
    let manager : x.manager ≡ m.0.reference.manager = sym (ap (λ (y : Reference). y.manager) m.2) ∙ shown_manager s.owner.name m.0.reference in
    let b = both (not (is_own s.owner x)) _ h.1 in
    let own : is_own s.owner m.0.reference ≡ false = ap (λ m. same_text m s.owner.name) (sym manager) ∙ not_true (is_own s.owner x) b.0 in
    let new = not_true (is_one_of x.flight round.asked) (both (not (is_one_of x.flight round.asked)) _ b.1).0 in
    let p = calm.served_others m.0 (recorded_around s moment ask service m.0 m.1) own in
    record { it = m.0; has = m.1; flight_is = flight; manager_is = manager; other = own; new = new; fewer = one_fewer round x h.0 new; pair = p.0; served_so = p.1; version = p.2.version }

hears_on : (s : Standing) (moment : ℤ) (ask : FlightAsk) (service : Service) (served : List OperationalIntent) (v : Values) (x : Reference) → (l : IsHearing s moment ask service served v) → (n : IsNext s moment ask service served v x)
    → IsHearing s moment ask service served (hearing (Heard n.pair ∷ []) (asked_for s moment ask v x))
hears_on s moment ask service served v x l n =
    record {
      found = ap (λ (r : Round). r.found) round ∙ l.found;
      gone = ap (λ (r : Round). r.gone) round ∙ l.gone;
      front = kept.before;
      recent = l.recent ++ p ∷ [];
      kept = ap kept_pairs (news_then s moment ask v x p) ∙ kept.is;
      asked = λ r h a. asks r h (ap (λ (y : Round). is_one_of r.reference.flight y.asked) (sym round) ∙ a);
      recents = λ q h. (let k = again q h in (k.0, k.1, k.2, ap (λ (y : Round). is_one_of k.0.reference.flight y.asked) round ∙ k.3));
      apart = λ q y h k. elim (has_push l.recent p y k) [ inl i ↦ l.apart q y (kept.among q h) i | inr e ↦ λ w. kept.others q h (w ∙ ap (λ (z : OperationalIntent). z.reference.flight) (sym e)) ];
      old = λ r h w q k e. l.old r h w q (kept.among q k) e;
      few = let a = length-append l.recent (p ∷ []) in let b = n.fewer in let c = l.few in let d = ap left round in omega (arith, a, b, c, d);
    }
  where
    p : OperationalIntent
    p = n.pair

    round : round_in s moment ask (hearing (Heard n.pair ∷ []) (asked_for s moment ask v x)) ≡ asking_for x.flight (round_in s moment ask v)
    round = round_then s moment ask v x n.pair

    its : (n.pair.reference.flight ≡ n.it.reference.flight) × (same_text n.pair.reference.manager n.it.reference.manager ≡ true)
    its = served_is n.it.reference.flight n.it.reference.manager served n.pair n.served_so

    other : (q : OperationalIntent) → Has l.recent q → q.reference.flight ≢ n.pair.reference.flight
    other q h = λ w. (
        let k = l.recents q h in
        let f = served_is k.0.reference.flight k.0.reference.manager served q k.2 in
        let same : k.0.reference.flight ≡ x.flight = sym f.0 ∙ w ∙ its.0 ∙ sym n.flight_is in
        not_both (is_one_of x.flight (round_in s moment ask v).asked) (ap (λ g. is_one_of g (round_in s moment ask v).asked) (sym same) ∙ k.3) n.new)

    older : (q : OperationalIntent) → Has l.front q → q.reference.flight ≡ n.pair.reference.flight → q.reference.version ≤ n.pair.reference.version
    older q h e = let a = (l.old n.it n.has n.other q h (e ∙ its.0)).0 in let b = n.version in omega (arith, a, b)

    kept : IsKept (kept_pairs (v.heard ++ Heard n.pair ∷ [])) l.front (l.recent ++ n.pair ∷ []) n.pair.reference.flight
    kept = let c = l.few in hear_one v.heard l.front l.recent n.pair l.kept (omega (arith, c)) other older

    asks : (r : Recorded) → Has (around s ask service) r → is_one_of r.reference.flight (x.flight ∷ (round_in s moment ask v).asked) ≡ true → (q : OperationalIntent) × Has (l.recent ++ n.pair ∷ []) q × (q.reference.flight ≡ r.reference.flight)
    asks r h a = go (x.flight == r.reference.flight) refl a
      where
        go : (b : Bool) → (x.flight == r.reference.flight) ≡ b → (b || is_one_of r.reference.flight (round_in s moment ask v).asked) ≡ true → (q : OperationalIntent) × Has (l.recent ++ n.pair ∷ []) q × (q.reference.flight ≡ r.reference.flight)
        go true e t = (n.pair, has_last l.recent n.pair, its.0 ∙ sym n.flight_is ∙ same_number x.flight r.reference.flight e)
        go false e t = let k = l.asked r h t in (k.0, has_left l.recent (n.pair ∷ []) k.0 k.1, k.2)

    again : (q : OperationalIntent) → Has (l.recent ++ n.pair ∷ []) q
        → (r : Recorded) × Has (around s ask service) r × (served_of r.reference.flight r.reference.manager served ≡ Some q) × (is_one_of r.reference.flight (x.flight ∷ (round_in s moment ask v).asked) ≡ true)
    again q h = elim (has_push l.recent n.pair q h) [
      | inl i ↦ old_one (l.recents q i)
      | inr e ↦ (n.it, n.has, n.served_so ∙ ap Some e, left_true (x.flight == n.it.reference.flight) _ (equal_number x.flight n.it.reference.flight n.flight_is))
    ]
      where
        old_one : (r : Recorded) × Has (around s ask service) r × (served_of r.reference.flight r.reference.manager served ≡ Some q) × (is_one_of r.reference.flight (round_in s moment ask v).asked ≡ true)
            → (r : Recorded) × Has (around s ask service) r × (served_of r.reference.flight r.reference.manager served ≡ Some q) × (is_one_of r.reference.flight (x.flight ∷ (round_in s moment ask v).asked) ≡ true)
        old_one (r, a, b, c) = (r, a, b, right_true (x.flight == r.reference.flight) _ c)

-- one reference after another

one : (s : Standing) (moment : ℤ) (ask : FlightAsk) (service : Service) (served : List OperationalIntent) (u v : Values) (event : Event) → IsPlan s moment ask service served → IsHearing s moment ask service served v
    → ((u2 v2 : Values) (e2 : Event) → left (round_in s moment ask v2) + 1 ≤ left (round_in s moment ask v) → IsHearing s moment ask service served v2
    → turn_of (with_values (looks_from s moment ask) u2) moment e2 ≡ next_step (with_values (looks_from s moment ask) v2) (opening_for s (clamped moment) ask) (next_unheard s.owner v2.heard (round_in s moment ask v2))
    → Out s moment ask service served u2 e2)
    → (x : Option Reference) → next_unheard s.owner v.heard (round_in s moment ask v) ≡ x
    → turn_of (with_values (looks_from s moment ask) u) moment event ≡ next_step (with_values (looks_from s moment ask) v) (opening_for s (clamped moment) ask) x → Out s moment ask service served u event
one s moment ask service served u v event c l rec None e q =
    let n = ap length l.found ∙ length-map (λ (r : Recorded). shown_to s.owner.name r.reference) (around s ask service) in
    let f = c.few in
    chooses_out s moment ask service served u v event c.to c.priority c.rounds c.proposals c.wish c.sound c.calm c.covers q (pairs_so s moment ask service served v c.sound c.calm l e) (omega (arith, n, f))
one s moment ask service served u v event c l rec (Some x) e q =
    let o = opening_for s (clamped moment) ask in
    let n = next_is s moment ask service served v x c.calm l e in
    let call = Calls.Details o.job x.flight x.manager x.base in
    let v1 = asked_for s moment ask v x in
    let v2 = hearing (Heard n.pair ∷ []) v1 in
    let P = IsOfChoice (is_new s ask) (its_flight s ask) (intents_around s ask service served) (choice_of s o (intents_around s ask service served)) in
    let its = served_is n.it.reference.flight n.it.reference.manager served n.pair n.served_so in
    let serves : served_of x.flight x.manager served ≡ Some n.pair = ap (λ f. served_of f x.manager served) n.flight_is ∙ ap (λ m. served_of n.it.reference.flight m served) n.manager_is ∙ n.served_so in
    let fit : peer_fits call (Peers.Served n.pair) ≡ true =
    and_true (n.pair.reference.flight == x.flight) (same_text n.pair.reference.manager x.manager) (equal_number n.pair.reference.flight x.flight (its.0 ∙ sym n.flight_is)) (ap (same_text n.pair.reference.manager) n.manager_is ∙ its.1) in
    let turn = hears_so (with_values (looks_from s moment ask) v1) moment o x.flight x.manager x.base n.pair (looking_unfinished s moment ask c.sound) (awaiting_own o.job (Goes.Peer call) (in_round o.job (asking_for x.flight (round_in s moment ask v)) v)) fit
    ∙ by_next_peer (with_values (looks_from s moment ask) v2) o call (Peers.Served n.pair) (next_unheard s.owner v2.heard (round_in s moment ask v2)) refl in
    let r = ap left (round_then s moment ask v x n.pair) in
    let b = n.fewer in
    goes_on_peer P s.owner.name served (with_values (looks_from s moment ask) u) moment event (ticketed s moment ask service) o.job x.flight x.manager x.base
    (calling o.job (Goes.Peer call) (in_round o.job (asking_for x.flight (round_in s moment ask v)) v)) q refl refl
    (subst (λ z. ComesOutAs P s.owner.name served (with_values (looks_from s moment ask) v1) moment (Comes.Peer call (served_reply z)) (ticketed s moment ask service)) (sym serves)
    (rec v1 v2 (Comes.Peer call (Peers.Served n.pair)) (omega (arith, r, b)) (hears_on s moment ask service served v x l n) turn))

hears_all : (n : ℕ) (s : Standing) (moment : ℤ) (ask : FlightAsk) (service : Service) (served : List OperationalIntent) (u v : Values) (event : Event) → IsPlan s moment ask service served → left (round_in s moment ask v) ≤ n
    → IsHearing s moment ask service served v
    → turn_of (with_values (looks_from s moment ask) u) moment event ≡ next_step (with_values (looks_from s moment ask) v) (opening_for s (clamped moment) ask) (next_unheard s.owner v.heard (round_in s moment ask v))
    → Out s moment ask service served u event
hears_all zero s moment ask service served u v event c few l turn =
    one s moment ask service served u v event c l (λ u2 v2 e2 k h t. absurd (omega (arith, k, few))) (next_unheard s.owner v.heard (round_in s moment ask v)) refl turn
hears_all (suc n) s moment ask service served u v event c few l turn =
    one s moment ask service served u v event c l (λ u2 v2 e2 k h t. hears_all n s moment ask service served u2 v2 e2 c (omega (arith, k, few)) h t) (next_unheard s.owner v.heard (round_in s moment ask v)) refl turn

-- it begins with what was heard before

first_hearing : (s : Standing) (moment : ℤ) (ask : FlightAsk) (service : Service) (served : List OperationalIntent) → IsPlan s moment ask service served
    → IsHearing s moment ask service served (round_by_dss (looks_from s moment ask) (opening_for s (clamped moment) ask) (found_there s ask service))
first_hearing s moment ask service served c =
    let n = ap length (found_around s moment ask service) ∙ length-map (λ (r : Recorded). shown_to s.owner.name r.reference) (around s ask service) in
    let f = c.few in
    let b = left_found (round_with near) in
    let d = ap left round in
    record {
      found = ap (λ (r : Round). r.found) round ∙ found_around s moment ask service;
      gone = ap (λ (r : Round). r.gone) round;
      front = kept_pairs v.heard;
      recent = [];
      kept = sym (append-nil (kept_pairs v.heard));
      asked = λ r h a. none_asked r (ap (λ (y : Round). is_one_of r.reference.flight y.asked) (sym round) ∙ a);
      recents = λ p h. absurd h;
      apart = λ q p h k. absurd k;
      old = before;
      few = omega (arith, n, f, b, d);
    }
  where
    o : Opening
    o = opening_for s (clamped moment) ask

    near : List Reference
    near = others (flight_of s.owner (opening_for s (clamped moment) ask)) (found_by (found_there s ask service))

    v : Values
    v = round_by_dss (looks_from s moment ask) (opening_for s (clamped moment) ask) (found_there s ask service)

    round : round_in s moment ask v ≡ round_with near
    round = round_own o.job (round_with near) (looks_from s moment ask).values

    same : v.heard ≡ s.values.heard
    same =
        heard_in_round o.job (round_with near) (looks_from s moment ask).values ∙ heard_of_awaiting o.job (dss_call o.job (its_query ask)) (asked_values s moment ask)
        ∙ heard_of_awaiting o.job (dss_call o.job (its_ticket s moment ask)) s.values

    none_asked : (r : Recorded) → is_one_of r.reference.flight [] ≡ true → (p : OperationalIntent) × Has [] p × (p.reference.flight ≡ r.reference.flight)
    none_asked r h = cc

    before : (r : Recorded) → Has (around s ask service) r → is_own s.owner r.reference ≡ false → (q : OperationalIntent) → Has (kept_pairs v.heard) q → q.reference.flight ≡ r.reference.flight
        → (q.reference.version ≤ r.reference.version) × (q.reference.version ≡ r.reference.version → served_of r.reference.flight r.reference.manager served ≡ Some q)
    before r h other q k e =
        let found : kept_pair r.reference.flight s.values.heard ≡ Some q =
        ap (λ l. kept_pair r.reference.flight l) (sym same) ∙ ap (λ f. kept_pair f v.heard) (sym e) ∙ distinct_found (kept_pairs v.heard) q (kept_distinct v.heard) k in
        let i = recorded_around s moment ask service r h in
        (c.calm.heard_no_newer r q i other found, c.calm.heard_same r q i other found)

keyed : (s : Standing) (moment : ℤ) (ask : FlightAsk) (service : Service) (served : List OperationalIntent) → keeps_key ask.wish ≡ true → nat_lt 1024 (length (around s ask service)) ≡ false → IsPlan s moment ask service served
    → ComesOutAs (IsOfChoice (is_new s ask) (its_flight s ask) (intents_around s ask service served) (choice_of s (opening_for s (clamped moment) ask) (intents_around s ask service served))) s.owner.name served s moment (Comes.Ask ask) service
keyed s moment ask service served k few c =
    let o = opening_for s (clamped moment) ask in
    let s2 = looks_from s moment ask in
    let reply = found_there s ask service in
    let v = round_by_dss s2 o reply in
    let turn = finds_so s moment ask service served false k few c.sound c.calm ∙ by_next (with_values s2 v) o reply (next_unheard s.owner v.heard (round_of o.job v)) refl in
    looks_so (IsOfChoice (is_new s ask) (its_flight s ask) (intents_around s ask service served) (choice_of s o (intents_around s ask service served))) s moment ask service served (key_is_no_end ask.wish k) c.sound c.calm
    (hears_all (left (round_of o.job v)) s moment ask service served s2.values v (Comes.Dss (record { job = o.job; ask = its_query ask }) reply) c (omega arith) (first_hearing s moment ask service served c) turn)

requests_settle : (ask : FlightAsk) → Settles ask
requests_settle ask s moment service served sound calm = at_key (keeps_key ask.wish) refl
  where
    many : Bool
    many = nat_lt 1024 (length (around s ask service))

    pairs : List OperationalIntent
    pairs = intents_around s ask service served

    at_wish : (x : Wish) → ask.wish ≡ x → keeps_key x ≡ true → many ≡ false → ComesOutAs (IsOutcome s moment ask service served ask.wish) s.owner.name served s moment (Comes.Ask ask) service
    at_wish End w k few = cc
    at_wish (Put to priority rounds proposals) w k few =
        let c : IsPlan s moment ask service served = record { to = to; priority = priority; rounds = rounds; proposals = proposals; wish = w; sound = sound; calm = calm; covers = area_covers ask service; few = not_less 1024 (length (around s ask service)) few } in
        subst (λ (x : Wish). ComesOutAs (IsOutcome s moment ask service served x) s.owner.name served s moment (Comes.Ask ask) service) (sym w)
        (subst (λ (b : Bool). ComesOutAs (IsPutOutcome (is_new s ask) (its_flight s ask) b (length (around s ask service)) pairs (choice_of s (opening_for s (clamped moment) ask) pairs)) s.owner.name served s moment (Comes.Ask ask) service) (sym k)
        (subst (λ (b : Bool). ComesOutAs (IsKeyedOutcome (is_new s ask) (its_flight s ask) b (length (around s ask service)) pairs (choice_of s (opening_for s (clamped moment) ask) pairs)) s.owner.name served s moment (Comes.Ask ask) service) (sym few)
        (keyed s moment ask service served (ap keeps_key w ∙ k) few c)))

    at_many : (b : Bool) → many ≡ b → keeps_key ask.wish ≡ true → ComesOutAs (IsOutcome s moment ask service served ask.wish) s.owner.name served s moment (Comes.Ask ask) service
    at_many true e k = crowded_plans_come_out ask s moment service served k (less_is 1024 (length (around s ask service)) e) sound calm
    at_many false e k = at_wish ask.wish refl k e

    at_key : (b : Bool) → keeps_key ask.wish ≡ b → ComesOutAs (IsOutcome s moment ask service served ask.wish) s.owner.name served s moment (Comes.Ask ask) service
    at_key true e = at_many many refl e
    at_key false e = requests_without_key_come_out ask e s moment service served sound calm

pub requests_come_out : RequestsComeOut
requests_come_out ask s moment service served xs sound calm = (requests_settle ask s moment service served sound calm).1 xs

pub requests_are_answered : RequestsAreAnswered
requests_are_answered ask s moment service served sound calm = (requests_settle ask s moment service served sound calm).0
