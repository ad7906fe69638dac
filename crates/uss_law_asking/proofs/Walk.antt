-- How an exchange with the discovery service is walked, step by step.
use Rattle.std.proofs.Common.{cond, ℕ, ℤ, ◌<◌, ◌==◌, ◌≡◌, Bool, true, false, nat_lt, List, [], ◌∷◌, refl, ap, sym, subst, ◌∙◌, arith, Option, Some, None, IfSome}
use Rattle.std.specs.Option.{option_and_then}
use Rattle.std.proofs.lemmas.Bool.Decides.{nat_tests}
use Rattle.uss_intent.specs.declared.calls.DssAsk.{DssAsk}
use Rattle.uss_intent.specs.declared.calls.DssReply.{DssReply}
use Rattle.uss_event.specs.Fits.{peer_fits}
use Rattle.uss_event.specs.Pairs.{OperationalIntent}
use Rattle.uss_event.specs.declared.asks.FlightAsk.{FlightAsk}
use Rattle.uss_event.specs.declared.calls.DssCall.{DssCall}
use Rattle.uss_event.specs.declared.calls.Outgoing.{Outgoing}
use Rattle.uss_event.specs.declared.calls.Outgoing.TheVariants as Goes
use Rattle.uss_event.specs.declared.events.Said.{Said}
use Rattle.uss_event.specs.declared.events.Said.TheVariants as Says
use Rattle.uss_event.specs.declared.events.Event.{Event}
use Rattle.uss_event.specs.declared.events.Event.TheVariants as Comes
use Rattle.uss_law_dss.specs.Fits.{fits}
use Rattle.uss_law_dss.specs.Service.{Service}
use Rattle.uss_law_dss.specs.Step.{service_step}
use Rattle.uss_law_dss.proofs.Tests.{unequal_number, and_true}
use Rattle.uss_event.specs.declared.entries.Opening.{Opening}
use Rattle.uss_law_book.specs.Legal.{IsAfter}
use Rattle.uss_law_book.specs.Orderly.{IsOrderly}
use Rattle.uss_law_book.specs.Contents.{last_of}
use Rattle.uss_law_book.specs.Contents.{opening_of}
use Rattle.uss_law_duty.specs.Duties.{says_something, clamped}
use Rattle.uss_law_supplier.specs.declared.duties.Awaited.{Awaited}
use Rattle.uss_law_supplier.specs.Values.{awaited_of, round_of, hearing, progress_of}
use Rattle.uss_law_supplier.specs.Table.{on_heard, when_awaited, next_or_choice}
use Rattle.uss_law_supplier.specs.Calls.{kind_of, kind_of_ask, is_it}
use Rattle.uss_law_supplier.specs.Turns.{Standing, Turn, dss_call, entered, with_entry}
use Rattle.uss_law_supplier.specs.Jobs.{is_end, view_of, heard_of_dss, round_by_dss, with_values, asking, carry_out, open_by_dss, heard_of_peer, carry_out_peer, open_by_peer}
use Rattle.uss_law_supplier.specs.Replies.{of_job_by_dss, of_job_by_peer, replied_to, replied_to_peer}
use Rattle.uss_law_supplier.specs.Asks.{plan_refusal, new_refusal, opening_entry, opening_for, new_by, asked_anew, asked_after, asked_with}
use Rattle.uss_law_supplier.specs.Laws.{IsSound}
use Rattle.uss_law_book.proofs.Known.{Known}
use Rattle.uss_law_supplier.proofs.Onward.{IsOpenJob}
use Rattle.uss_law_supplier.proofs.Asking.{first_kind}
use Rattle.uss_law_asking.specs.Exchange.{Exchanged, turn_of, stands_then, IsExchange, last_turn}
use Rattle.uss_law_asking.specs.Exchange.Exchanged.{OfDss, OfPeer}
use Rattle.uss_law_asking.specs.Complete.{IsUndisturbed, IsOutcome, served_of, served_reply, AreByService}
use Rattle.uss_law_asking.proofs.Bounded.{same_details, round_waits, same_dss}
use Rattle.uss_law_asking.proofs.Asked.{new_duty}
use Rattle.uss_event.specs.declared.calls.PeerCall.{PeerCall}
use Rattle.uss_event.specs.declared.calls.PeerCall.TheVariants as Calls
use Rattle.uss_event.specs.declared.calls.PeerReply.{PeerReply}
use Rattle.uss_event.specs.declared.calls.PeerReply.TheVariants as Peers
use Rattle.uss_event.specs.Heard.News.{Heard}
use Rattle.uss_law_supplier.specs.declared.duties.Awaited.TheVariants as Waits
use Rattle.uss_law_supplier.specs.Airspace.{is_left}

-- there is a whole exchange from here on, and each comes out so
abbrev pub Ends : List ℕ → List OperationalIntent → Standing → ℤ → Event → Service → Type 0
Ends client served s moment event service = (xs : List Exchanged) × IsExchange s moment event xs × AreByService client served service xs

abbrev pub EachComesOut : (Said → Type 0) → List ℕ → List OperationalIntent → Standing → ℤ → Event → Service → Type 0
EachComesOut P client served s moment event service = (xs : List Exchanged) → IsExchange s moment event xs → AreByService client served service xs → P (last_turn s moment event xs).said

abbrev pub ComesOutAs : (Said → Type 0) → List ℕ → List OperationalIntent → Standing → ℤ → Event → Service → Type 0
ComesOutAs P client served s moment event service = Ends client served s moment event service × EachComesOut P client served s moment event service

-- so does each new request that nobody disturbs
abbrev pub Settles : FlightAsk → Type 0
Settles ask =
    (s : Standing) (moment : ℤ) (service : Service) (served : List OperationalIntent) → IsSound s.owner s.book s.values → IsUndisturbed s moment ask service served
    → ComesOutAs (IsOutcome s moment ask service served ask.wish) s.owner.name served s moment (Comes.Ask ask) service

-- a step that says something is the last
pub stops : (P : Said → Type 0) (client : List ℕ) (served : List OperationalIntent) (s : Standing) (moment : ℤ) (event : Event) (service : Service) → says_something (turn_of s moment event).said ≡ true → P (turn_of s moment event).said
    → ComesOutAs P client served s moment event service
stops P client served s moment event service says p = (([], (tt, says), tt), each)
  where
    each : EachComesOut P client served s moment event service
    each [] ex by = p
    each (x ∷ xs) ex by = let q : says_something Says.Nothing ≡ true = ap says_something (sym ex.0.0) ∙ says in cc (q)

-- a step that makes a call goes on with the reply that the discovery service gives
pub goes_on : (P : Said → Type 0) (client : List ℕ) (served : List OperationalIntent) (s : Standing) (moment : ℤ) (event : Event) (service : Service) (call : DssCall) → (turn_of s moment event).said ≡ Says.Nothing
    → (turn_of s moment event).sends ≡ Goes.Dss call ∷ []
    → ComesOutAs P client served (stands_then s (turn_of s moment event)) moment (Comes.Dss call (service_step service client call.ask).0) (service_step service client call.ask).1 → ComesOutAs P client served s moment event service
goes_on P client served s moment event service call quiet sends next = (
  (OfDss call (service_step service client call.ask).0 ∷ next.0.0, ((quiet, sends, next.0.1.0), next.0.1.1), (refl, next.0.2)),
  each,
)
  where
    t : Standing
    t = stands_then s (turn_of s moment event)

    call_or : List Outgoing → DssCall
    call_or (Goes.Dss x ∷ xs) = x
    call_or _ = call

    call_is : (a b : List Outgoing) → a ≡ b → call_or a ≡ call_or b
    call_is a b e = ap call_or e

    each : EachComesOut P client served s moment event service
    each [] ex by = let q : says_something Says.Nothing ≡ true = ap says_something (sym quiet) ∙ ex.1 in cc (q)
    each (OfPeer c r ∷ xs) ex by = let q : Goes.Peer c ∷ [] ≡ Goes.Dss call ∷ [] = sym ex.0.1 ∙ sends in cc (q)
    each (OfDss c r ∷ xs) ex by =
        let same : call ≡ c = call_is (Goes.Dss call ∷ []) (Goes.Dss c ∷ []) (sym sends ∙ ex.0.1) in
        let step : EachComesOut P client served t moment (Comes.Dss c (service_step service client c.ask).0) (service_step service client c.ask).1 =
        subst (λ (y : DssCall). EachComesOut P client served t moment (Comes.Dss y (service_step service client y.ask).0) (service_step service client y.ask).1) same next.1 in
        subst (λ (y : DssReply). IsExchange t moment (Comes.Dss c y) xs → P (last_turn t moment (Comes.Dss c y) xs).said) (sym by.0) (λ e. step xs e by.1) (ex.0.2, ex.1)

-- the job acts on the reply that it waits for
pub acts_so : (s : Standing) (moment : ℤ) (o : Opening) (ask : DssAsk) (reply : DssReply) (kind : Awaited) → IsOpenJob s.book o → awaited_of o.job s.values ≡ Some (dss_call o.job ask) → kind_of_ask ask ≡ Some kind → fits ask reply ≡ true
    → turn_of s moment (Comes.Dss (record { job = o.job; ask = ask }) reply)
    ≡ carry_out (with_values s (round_by_dss s o reply)) o reply (on_heard (view_of (with_values s (round_by_dss s o reply)) o) kind (heard_of_dss (with_values s (round_by_dss s o reply)) o reply))
unfolding view_of
acts_so s moment o ask reply kind u waits is fit =
    let call : DssCall = record { job = o.job; ask = ask } in
    let t = with_values s (round_by_dss s o reply) in
    let it : is_it (Goes.Dss call) (awaited_of o.job s.values) ≡ true = ap (is_it (Goes.Dss call)) waits ∙ same_dss call in
    let k : option_and_then kind_of (awaited_of o.job (round_by_dss s o reply)) ≡ Some kind = ap (option_and_then kind_of) (round_waits s o reply ∙ waits) ∙ is in
    ap (λ (x : Option Opening). replied_to s call reply x) u.opened
    ∙ ap (λ (x : Bool). of_job_by_dss s o call reply x) u.unclosed
    ∙ ap (λ (x : Bool). open_by_dss s o reply x) (and_true (fits ask reply) (is_it (Goes.Dss call) (awaited_of o.job s.values)) fit it)
    ∙ ap (λ (x : Option Awaited). carry_out t o reply (when_awaited (view_of t o) (heard_of_dss t o reply) x)) k

-- a new request opens its job, which asks for its ticket, or removes its flight
pub opens_so : (s : Standing) (moment : ℤ) (ask : FlightAsk) → IsOrderly s.book → Known s.book → plan_refusal ask.wish ≡ None → IfSome (last_of ask.flight s.book) (IsAfter ask) → new_refusal s.book (clamped moment) ask ≡ None
    → turn_of s moment (Comes.Ask ask)
    ≡ with_entry (opening_entry s.book (clamped moment) ask) (asking (entered s (opening_entry s.book (clamped moment) ask)) (opening_for s (clamped moment) ask) (first_kind (is_end ask.wish)))
opens_so s moment ask orderly known plan new accepted =
    let at = clamped moment in
    ap (asked_with s at ask) plan ∙ after (last_of ask.flight s.book) new ∙ ap (new_by s at ask) accepted ∙ ap (with_entry (opening_entry s.book at ask)) (new_duty s at ask orderly known)
  where
    after : (x : Option Opening) → IfSome x (IsAfter ask) → asked_after s (clamped moment) ask x ≡ asked_anew s (clamped moment) ask
    after None h = refl
    after (Some last) h =
        let a : nat_lt ask.number last.ask.number ≡ false = not_before last.ask.number ask.number h in
        let b : (ask.number == last.ask.number) ≡ false = unequal_number ask.number last.ask.number (λ q. omega (arith, h, q)) in
        rw (a, b) refl
      where
        not_before : (m n : ℕ) → m < n → nat_lt n m ≡ false
        not_before m n l = grind (arith, nat_tests)

-- the same, where it is known what the step comes to
pub goes_on_by : (P : Said → Type 0) (client : List ℕ) (served : List OperationalIntent) (s : Standing) (moment : ℤ) (event : Event) (service : Service) (call : DssCall) (t : Turn) → turn_of s moment event ≡ t → t.said ≡ Says.Nothing
    → t.sends ≡ Goes.Dss call ∷ []
    → ComesOutAs P client served (stands_then s t) moment (Comes.Dss call (service_step service client call.ask).0) (service_step service client call.ask).1 → ComesOutAs P client served s moment event service
goes_on_by P client served s moment event service call t e quiet sends next =
    goes_on P client served s moment event service call (ap (λ (x : Turn). x.said) e ∙ quiet) (ap (λ (x : Turn). x.sends) e ∙ sends)
    (subst (λ (x : Turn). ComesOutAs P client served (stands_then s x) moment (Comes.Dss call (service_step service client call.ask).0) (service_step service client call.ask).1) (sym e) next)

pub stops_by : (P : Said → Type 0) (client : List ℕ) (served : List OperationalIntent) (s : Standing) (moment : ℤ) (event : Event) (service : Service) (said : Said) → (turn_of s moment event).said ≡ said → says_something said ≡ true → P said
    → ComesOutAs P client served s moment event service
stops_by P client served s moment event service said e says p =
    stops P client served s moment event service (ap says_something e ∙ says) (subst P (sym e) p)

-- a step that asks another supplier for details goes on with what that serves
pub goes_on_peer : (P : Said → Type 0) (client : List ℕ) (served : List OperationalIntent) (s : Standing) (moment : ℤ) (event : Event) (service : Service) (job flight : ℕ) (manager base : List ℕ) (t : Turn) → turn_of s moment event ≡ t
    → t.said ≡ Says.Nothing → t.sends ≡ Goes.Peer (Calls.Details job flight manager base) ∷ []
    → ComesOutAs P client served (stands_then s t) moment (Comes.Peer (Calls.Details job flight manager base) (served_reply (served_of flight manager served))) service → ComesOutAs P client served s moment event service
goes_on_peer P client served s moment event service job flight manager base t is quiet sends next = (
  (OfPeer call (served_reply (served_of flight manager served)) ∷ then.0.0, ((ap (λ (x : Turn). x.said) is ∙ quiet, ap (λ (x : Turn). x.sends) is ∙ sends, then.0.1.0), then.0.1.1), (refl, then.0.2)),
  each,
)
  where
    call : PeerCall
    call = Calls.Details job flight manager base

    call_or : List Outgoing → PeerCall
    call_or (Goes.Peer x ∷ xs) = x
    call_or _ = call

    call_is : (a b : List Outgoing) → a ≡ b → call_or a ≡ call_or b
    call_is a b e = ap call_or e

    then : ComesOutAs P client served (stands_then s (turn_of s moment event)) moment (Comes.Peer call (served_reply (served_of flight manager served))) service
    then = subst (λ (x : Turn). ComesOutAs P client served (stands_then s x) moment (Comes.Peer call (served_reply (served_of flight manager served))) service) (sym is) next

    each : EachComesOut P client served s moment event service
    each [] ex by =
        let q : says_something Says.Nothing ≡ true = ap says_something (sym quiet ∙ ap (λ (x : Turn). x.said) (sym is)) ∙ ex.1 in
        cc (q)
    each (OfDss c r ∷ xs) ex by =
        let q : Goes.Dss c ∷ [] ≡ Goes.Peer (Calls.Details job flight manager base) ∷ [] = sym ex.0.1 ∙ ap (λ (x : Turn). x.sends) is ∙ sends in
        cc (q)
    each (OfPeer c r ∷ xs) ex by =
        let same : call ≡ c = call_is (Goes.Peer call ∷ []) (Goes.Peer c ∷ []) (sym (ap (λ (x : Turn). x.sends) is ∙ sends) ∙ ex.0.1) in
        subst (λ (y : PeerCall). IsExchange (stands_then s (turn_of s moment event)) moment (Comes.Peer y r) xs → AreByService client served service (OfPeer y r ∷ xs) → P (last_turn (stands_then s (turn_of s moment event)) moment (Comes.Peer y r) xs).said) same
        (λ e b. subst (λ (z : PeerReply). IsExchange (stands_then s (turn_of s moment event)) moment (Comes.Peer call z) xs → P (last_turn (stands_then s (turn_of s moment event)) moment (Comes.Peer call z) xs).said) (sym b.0) (λ k. then.1 xs k b.1) e)
        (ex.0.2, ex.1) by

-- the job hears the pair that it waits for, and goes on
pub hears_so : (s : Standing) (moment : ℤ) (o : Opening) (flight : ℕ) (manager base : List ℕ) (p : OperationalIntent) → IsOpenJob s.book o → awaited_of o.job s.values ≡ Some (Goes.Peer (Calls.Details o.job flight manager base))
    → peer_fits (Calls.Details o.job flight manager base) (Peers.Served p) ≡ true
    → turn_of s moment (Comes.Peer (Calls.Details o.job flight manager base) (Peers.Served p))
    ≡ carry_out_peer (with_values s (hearing (Heard p ∷ []) s.values)) o (Calls.Details o.job flight manager base) (Peers.Served p)
    (next_or_choice (is_left s.owner (hearing (Heard p ∷ []) s.values).heard (round_of o.job (hearing (Heard p ∷ []) s.values))))
unfolding view_of progress_of
hears_so s moment o flight manager base p u waits fit =
    let call = Calls.Details o.job flight manager base in
    let reply = Peers.Served p in
    let h = with_values s (hearing (Heard p ∷ []) s.values) in
    let it : is_it (Goes.Peer call) (awaited_of o.job s.values) ≡ true = ap (is_it (Goes.Peer call)) waits ∙ same_details o.job flight manager base in
    let k : option_and_then kind_of (awaited_of o.job s.values) ≡ Some Waits.Details = ap (option_and_then kind_of) waits in
    ap (λ (b : Bool). replied_to_peer (with_values s (hearing (cond b (Heard p ∷ []) []) s.values)) call reply (opening_of o.job s.book)) fit
    ∙ ap (λ (x : Option Opening). replied_to_peer h call reply x) u.opened
    ∙ ap (λ (x : Bool). of_job_by_peer h o call reply x) u.unclosed
    ∙ ap (λ (x : Bool). open_by_peer h o call reply x) (and_true (peer_fits call reply) (is_it (Goes.Peer call) (awaited_of o.job s.values)) fit it)
    ∙ ap (λ (x : Option Awaited). carry_out_peer h o call reply (when_awaited (view_of h o) (heard_of_peer h o reply) x)) k
