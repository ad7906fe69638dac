-- What an exchange comes to: its first step and then the replies, one after another.
use Rattle.std.proofs.Common.{ℕ, ℤ, ◌+◌, ◌≤◌, ◌==◌, ◌≡◌, ◌⊎◌, inl, inr, Bool, true, false, ◌&&◌, List, [], ◌∷◌, ◌++◌, max, refl, ap, sym, subst, ◌∙◌, arith, Option, Some, None, unwrap_or}
use Rattle.std.specs.Option.{option_and_then}
use Rattle.std.specs.List.{list_any}
use Rattle.std.proofs.lemmas.List.Folds.{list_any-append}
use Rattle.uss_intent.specs.declared.calls.DssAsk.{DssAsk}
use Rattle.uss_intent.specs.declared.calls.DssReply.{DssReply}
use Rattle.uss_intent.specs.declared.calls.DssReply.TheVariants as Replies
use Rattle.uss_event.specs.Fits.{peer_fits}
use Rattle.uss_event.specs.declared.asks.AskRefusal.{AskRefusal}
use Rattle.uss_event.specs.declared.asks.Conform.{Conform}
use Rattle.uss_event.specs.declared.entries.Owner.{Owner}
use Rattle.uss_event.specs.declared.entries.Entry.{Entry}
use Rattle.uss_event.specs.declared.calls.DssCall.{DssCall}
use Rattle.uss_event.specs.declared.calls.PeerCall.TheVariants as Calls
use Rattle.uss_event.specs.declared.calls.PeerReply.{PeerReply}
use Rattle.uss_event.specs.declared.calls.Outgoing.{Outgoing}
use Rattle.uss_event.specs.declared.calls.Outgoing.TheVariants as Goes
use Rattle.uss_event.specs.declared.events.Answer.{Answer}
use Rattle.uss_event.specs.declared.events.Answer.TheVariants as Answers
use Rattle.uss_event.specs.declared.events.Said.{Said}
use Rattle.uss_event.specs.declared.events.Said.TheVariants as Says
use Rattle.uss_event.specs.declared.events.Event.{Event}
use Rattle.uss_event.specs.declared.events.Event.TheVariants as Comes
use Rattle.uss_law_dss.specs.Lists.{Has}
use Rattle.uss_law_dss.specs.Fits.{fits}
use Rattle.uss_law_dss.proofs.Tests.{and_true, left_true}
use Rattle.uss_event.specs.declared.entries.Opening.{Opening}
use Rattle.uss_event.specs.declared.entries.Trial.{Trial}
use Rattle.uss_law_book.specs.Lists.{trials}
use Rattle.uss_law_book.specs.Contents.{opening_of, open_job_of, is_closed, owns, rounds_of}
use Rattle.uss_law_book.proofs.Entries.{trials_append}
use Rattle.uss_law_duty.specs.Duties.{book_after, says_something, clamped}
use Rattle.uss_law_duty.specs.Answers.{kept_answer, job_named}
use Rattle.uss_law_duty.specs.Entered.{shown_tag}
use Rattle.uss_law_supplier.specs.declared.duties.Awaited.{Awaited}
use Rattle.uss_law_supplier.specs.declared.duties.Awaited.TheVariants as Waits
use Rattle.uss_law_supplier.specs.Values.{awaited_of, progress_of}
use Rattle.uss_law_supplier.specs.Table.{on_heard, when_awaited}
use Rattle.uss_law_supplier.specs.Calls.{kind_of, is_it}
use Rattle.uss_law_supplier.specs.Turns.{Standing, Turn, said_of}
use Rattle.uss_law_supplier.specs.Jobs.{view_of, heard_of_dss, heard_of_peer, owns_tag, round_by_dss, with_values, carry_out, carry_out_peer, open_by_peer}
use Rattle.uss_law_supplier.specs.Replies.{of_job_by_peer, replied_to_peer, hearing_it}
use Rattle.uss_law_supplier.specs.Asks.{refusing}
use Rattle.uss_law_asking.specs.Exchange.{Exchanged, call_in, event_in, turn_of, stands_then, stands_last, IsBegun, IsExchange, last_turn, AllFit, most_found, found_before}
use Rattle.uss_law_asking.specs.Exchange.Exchanged.{OfDss, OfPeer}
use Rattle.uss_law_asking.specs.Refused.{refusal_at}
use Rattle.uss_law_asking.specs.Causes.{IsCarriedOut, outcome, book_then, taken_in, AsksForNoChange}
use Rattle.uss_law_asking.proofs.Budget.{cost, IsWaiting, IsWithin}
use Rattle.uss_law_asking.proofs.Bounded.{same_details, peer_waits, steps, first_call, first_fits, first_few}
use Rattle.uss_law_asking.proofs.Walk.{acts_so}
use Rattle.uss_law_asking.proofs.Stops.{stop_by, by_got, IsOnce, IsSaidBy, IsSaying, says_by_dss, says_by_peer}
use Rattle.uss_law_asking.proofs.First.{FirstStep, first_step, named_then}

-- the step on a reply

abbrev the_call : ℕ → DssAsk → DssCall
the_call job ask = record { job = job; ask = ask }

pub dss_turn : (n : ℕ) (s : Standing) (moment : ℤ) (o : Opening) (call : DssCall) (reply : DssReply) (b : ℕ) → (w : IsWaiting n s o (Goes.Dss call) b) → fits call.ask reply ≡ true
    → turn_of s moment (Comes.Dss call reply)
    ≡ carry_out (with_values s (round_by_dss s o reply)) o reply (on_heard (view_of (with_values s (round_by_dss s o reply)) o) w.kind (heard_of_dss (with_values s (round_by_dss s o reply)) o reply))
dss_turn n s moment o call reply b w fit =
    let same : the_call call.job call.ask ≡ the_call o.job call.ask = ap (λ (j : ℕ). the_call j call.ask) w.its_job in
    ap (λ (c : DssCall). turn_of s moment (Comes.Dss c reply)) same ∙ acts_so s moment o call.ask reply w.kind w.unfinished (w.waits ∙ ap (λ (c : DssCall). Some (Goes.Dss c)) same) w.is fit

pub peer_turn : (n : ℕ) (s : Standing) (moment : ℤ) (o : Opening) (job flight : ℕ) (manager base : List ℕ) (reply : PeerReply) (b : ℕ) → IsWaiting n s o (Goes.Peer (Calls.Details job flight manager base)) b
    → peer_fits (Calls.Details job flight manager base) reply ≡ true
    → turn_of s moment (Comes.Peer (Calls.Details job flight manager base) reply)
    ≡ carry_out_peer (taken_in s o (Comes.Peer (Calls.Details job flight manager base) reply)) o (Calls.Details job flight manager base) reply
    (on_heard (view_of (taken_in s o (Comes.Peer (Calls.Details job flight manager base) reply)) o) Waits.Details (heard_of_peer (taken_in s o (Comes.Peer (Calls.Details job flight manager base) reply)) o reply))
unfolding view_of progress_of
peer_turn n s moment o job flight manager base reply b w fit =
    let call = Calls.Details job flight manager base in
    let h = hearing_it s call reply in
    let t = taken_in s o (Comes.Peer call reply) in
    let opened : opening_of job s.book ≡ Some o = ap (λ j. opening_of j s.book) w.its_job ∙ w.unfinished.opened in
    let it : is_it (Goes.Peer call) (awaited_of o.job h.values) ≡ true = ap (is_it (Goes.Peer call)) w.waits ∙ same_details job flight manager base in
    let k : option_and_then kind_of (awaited_of o.job t.values) ≡ Some Waits.Details = ap (option_and_then kind_of) (peer_waits h o call reply ∙ w.waits) in
    ap (λ (x : Option Opening). replied_to_peer h call reply x) opened
    ∙ ap (λ (x : Bool). of_job_by_peer h o call reply x) w.unfinished.unclosed
    ∙ ap (λ (x : Bool). open_by_peer h o call reply x) (and_true (peer_fits call reply) (is_it (Goes.Peer call) (awaited_of o.job h.values)) fit it)
    ∙ ap (λ (x : Option Awaited). carry_out_peer t o call reply (when_awaited (view_of t o) (heard_of_peer t o reply) x)) k

-- says nothing, what the book keeps, or the answer with which the job stops there
pub says_at : (n : ℕ) (s : Standing) (moment : ℤ) (o : Opening) (x : Exchanged) (b : ℕ) → IsWaiting n s o (call_in x) b → AllFit (x ∷ []) → IsSaying s o (stop_by s.owner o s.book x) (turn_of s moment (event_in x))
says_at n s moment o (OfDss call reply) b w fit =
    let t = with_values s (round_by_dss s o reply) in
    subst (λ (x : Turn). IsSaying s o (stop_by s.owner o s.book (OfDss call reply)) x) (sym (dss_turn n s moment o call reply b w fit.0)) (says_by_dss t o call.ask reply w.kind w.is w.unfinished fit.0)
says_at n s moment o (OfPeer (Calls.Notify job index base note) reply) b w fit = let e = w.is in cc
says_at n s moment o (OfPeer (Calls.Details job flight manager base) reply) b w fit =
    let call = Calls.Details job flight manager base in
    subst (λ (x : Turn). IsSaying s o (stop_by s.owner o s.book (OfPeer call reply)) x) (sym (peer_turn n s moment o job flight manager base reply b w fit.0))
    (says_by_peer (taken_in s o (Comes.Peer call reply)) o job flight manager base reply w.unfinished fit.0)

-- a job that doesn't stop at a reply doesn't stop there by a longer book

owned_still : (job : ℕ) (book more : List Entry) (tag : Option ℕ) → owns_tag job book tag ≡ true → owns_tag job (book ++ more) tag ≡ true
unfolding owns
owned_still job book more None h = cc
owned_still job book more (Some tag) h =
    let p : Trial → Bool = λ t. (t.job == job) && (t.tag == tag) in
    ap (list_any p) (trials_append book more) ∙ list_any-append p (trials book) (trials more) ∙ left_true (list_any p (trials book)) (list_any p (trials more)) h

got_own : (b : Bool) (tag : ℕ) → by_got b tag ≡ None → b ≡ true
got_own true tag h = refl
got_own false tag h = cc

goes_still : (owner : Owner) (o : Opening) (book : List Entry) (e : Option Entry) (z : Exchanged) → stop_by owner o book z ≡ None → stop_by owner o (book_after book e) z ≡ None
goes_still owner o book None z h = h
goes_still owner o book (Some e) (OfDss call (Replies.Got r)) h =
    ap (λ b. by_got b (unwrap_or (shown_tag r) 0)) (owned_still o.job book (e ∷ []) (shown_tag r) (got_own (owns_tag o.job book (shown_tag r)) (unwrap_or (shown_tag r) 0) h))
goes_still owner o book (Some e) (OfDss call reply) h = h
goes_still owner o book (Some e) (OfPeer call reply) h = h

-- the replies one after another

silent_stop : (owner : Owner) (book : List Entry) (o : Opening) (stop : Option Answer) (t : Turn) → IsSaidBy owner book o stop t → t.said ≡ Says.Nothing → stop ≡ None
silent_stop owner book o None t h q = refl
silent_stop owner book o (Some a) t h q = let e : Says.Answer a ≡ Says.Nothing = sym h.0 ∙ q in cc (e)

-- how an exchange stands before its last step, and what that says
record Ends (event : Event) (owner : Owner) (o : Opening) (s : Standing) (moment : ℤ) (from : Event) (xs : List Exchanged) (all : List Exchanged) : Type 0 where
  owner_is : (stands_last s moment from xs).owner ≡ owner
  named : job_named event (stands_last s moment from xs).book ≡ Some o
  unclosed : is_closed o.job (stands_last s moment from xs).book ≡ false
  last : Exchanged
  has : Has all last
  says : IsSaidBy owner (stands_last s moment from xs).book o (stop_by owner o (stands_last s moment from xs).book last) (last_turn s moment from xs)
  others : (z : Exchanged) → Has all z → (z ≡ last) ⊎ (stop_by owner o (stands_last s moment from xs).book z ≡ None)
  still : (z : Exchanged) → stop_by owner o s.book z ≡ None → stop_by owner o (stands_last s moment from xs).book z ≡ None

walks : (event : Event) (n : ℕ) (s : Standing) (moment : ℤ) (o : Opening) (x : Exchanged) (xs : List Exchanged) (b : ℕ) → job_named event s.book ≡ Some o → IsWaiting n s o (call_in x) b → IsBegun s moment (event_in x) xs
    → AllFit (x ∷ xs) → most_found (x ∷ xs) ≤ n → Ends event s.owner o s moment (event_in x) xs (x ∷ xs)
walks event n s moment o x [] b named w begun fit few =
    record {
      owner_is = refl;
      named = named;
      unclosed = w.unfinished.unclosed;
      last = x;
      has = inl refl;
      says = says_at n s moment o x b w fit;
      others = λ z h. elim h [ inl e ↦ inl (sym e) | inr k ↦ absurd k ];
      still = λ z h. h;
    }
walks event n s moment o x (y ∷ ys) b named w begun fit few =
    go (λ c v. walks event n (stands_then s t) moment o y ys c (named_then event s.book t.entry o named) v begun.2 f.1 g.1) (steps n s moment o x b w f.0 g.0)
  where
    t : Turn
    t = turn_of s moment (event_in x)

    f : AllFit (x ∷ []) × AllFit (y ∷ ys)
    f = first_fits x (y ∷ ys) fit

    g : (most_found (x ∷ []) ≤ n) × (most_found (y ∷ ys) ≤ n)
    g = first_few n x (y ∷ ys) few

    says : IsSaying s o (stop_by s.owner o s.book x) (turn_of s moment (event_in x))
    says = says_at n s moment o x b w f.0

    quiet : stop_by s.owner o s.book x ≡ None
    quiet = silent_stop s.owner s.book o (stop_by s.owner o s.book x) (turn_of s moment (event_in x)) says begun.0

    on : Ends event s.owner o (stands_then s (turn_of s moment (event_in x))) moment (event_in y) ys (y ∷ ys) → Ends event s.owner o s moment (event_in x) (y ∷ ys) (x ∷ y ∷ ys)
    on rec =
        record {
          owner_is = rec.owner_is;
          named = rec.named;
          unclosed = rec.unclosed;
          last = rec.last;
          has = inr rec.has;
          says = rec.says;
          others = λ z h. elim h [ inl e ↦ inr (subst (λ (q : Exchanged). stop_by s.owner o (stands_last (stands_then s t) moment (event_in y) ys).book q ≡ None) e (rec.still x (goes_still s.owner o s.book t.entry x quiet))) | inr k ↦ rec.others z k ];
          still = λ z h. rec.still z (goes_still s.owner o s.book t.entry z h);
        }

    go : ((c : ℕ) → IsWaiting n (stands_then s (turn_of s moment (event_in x))) o (call_in y) c → Ends event s.owner o (stands_then s (turn_of s moment (event_in x))) moment (event_in y) ys (y ∷ ys))
        → IsWithin n s o (turn_of s moment (event_in x)) b → Ends event s.owner o s moment (event_in x) (y ∷ ys) (x ∷ y ∷ ys)
    go rec (inl e) = let q : [] ≡ call_in y ∷ [] = sym e ∙ begun.1 in cc (q)
    go rec (inr (call, c, e, v, l)) = on (rec c (subst (λ z. IsWaiting n (stands_then s (turn_of s moment (event_in x))) o z c) (first_call call (call_in y) (sym e ∙ begun.1)) v))

-- what it comes to

pub record IsRefused (s : Standing) (moment : ℤ) (event : Event) (xs : List Exchanged) : Type 0 where
  pub refusal : AskRefusal
  pub by_book : refusal_at s (clamped moment) event ≡ Some refusal
  pub is : outcome s moment event xs ≡ Says.Refused refusal
  pub at_once : xs ≡ []

pub record IsSteady (s : Standing) (moment : ℤ) (event : Event) (xs : List Exchanged) : Type 0 where
  pub finding : Conform
  pub asks : AsksForNoChange s (clamped moment) event finding
  pub is : outcome s moment event xs ≡ Says.Answer (Answers.Steady finding)
  pub accepted : refusal_at s (clamped moment) event ≡ None
  pub at_once : xs ≡ []

pub record IsKept (s : Standing) (moment : ℤ) (event : Event) (xs : List Exchanged) : Type 0 where
  pub opening : Opening
  pub named : job_named event (book_then s moment event xs) ≡ Some opening
  pub answer : Answer
  pub is : outcome s moment event xs ≡ Says.Answer answer
  pub kept : kept_answer s.owner opening (book_then s moment event xs) ≡ Some answer
  pub once : IsOnce opening.job (book_then s moment event xs)
  pub accepted : refusal_at s (clamped moment) event ≡ None
  pub goes : (z : Exchanged) → Has xs z → stop_by s.owner opening (book_then s moment event xs) z ≡ None

pub record IsStopped (s : Standing) (moment : ℤ) (event : Event) (xs : List Exchanged) : Type 0 where
  pub opening : Opening
  pub named : job_named event (book_then s moment event xs) ≡ Some opening
  pub answer : Answer
  pub is : outcome s moment event xs ≡ Says.Answer answer
  pub last : Exchanged
  pub has : Has xs last
  pub stops : stop_by s.owner opening (book_then s moment event xs) last ≡ Some answer
  pub unclosed : is_closed opening.job (book_then s moment event xs) ≡ false
  pub accepted : refusal_at s (clamped moment) event ≡ None
  pub others : (z : Exchanged) → Has xs z → (z ≡ last) ⊎ (stop_by s.owner opening (book_then s moment event xs) z ≡ None)

pub data Outcome (s : Standing) (moment : ℤ) (event : Event) (xs : List Exchanged) : Type 0 where
  Refused : (r : IsRefused s moment event xs) → Outcome s moment event xs
  Steady : (r : IsSteady s moment event xs) → Outcome s moment event xs
  Kept : (r : IsKept s moment event xs) → Outcome s moment event xs
  Stopped : (r : IsStopped s moment event xs) → Outcome s moment event xs

-- what is said of a kept answer
kept_some : (x : Option Answer) (said : Said) → said ≡ said_of x → says_something said ≡ true → (a : Answer) × (x ≡ Some a) × (said ≡ Says.Answer a)
kept_some None said e h = let q : says_something Says.Nothing ≡ true = ap says_something (sym e) ∙ h in cc (q)
kept_some (Some a) said e h = (a, refl, e)

not_silent : {P : Type 0} (said : Said) → said ≡ Says.Nothing → says_something said ≡ true → P
not_silent said e h = let q : says_something Says.Nothing ≡ true = ap says_something (sym e) ∙ h in cc (q)

-- after replies

module _ (s : Standing) (moment : ℤ) (event : Event) (o : Opening) (x : Exchanged) (xs : List Exchanged) (accepted : refusal_at s (clamped moment) event ≡ None)
    (says : says_something (outcome s moment event (x ∷ xs)) ≡ true) (e : Ends event s.owner o (stands_then s (turn_of s moment event)) moment (event_in x) xs (x ∷ xs)) where
  abbrev before : List Entry
  before = (stands_last (stands_then s (turn_of s moment event)) moment (event_in x) xs).book

  abbrev last : Turn
  last = last_turn (stands_then s (turn_of s moment event)) moment (event_in x) xs

  named_last : job_named event (book_then s moment event (x ∷ xs)) ≡ Some o
  named_last = named_then event before last.entry o e.named

  still_goes : (z : Exchanged) → stop_by s.owner o (stands_last (stands_then s (turn_of s moment event)) moment (event_in x) xs).book z ≡ None → stop_by s.owner o (book_then s moment event (x ∷ xs)) z ≡ None
  still_goes z h = goes_still s.owner o before last.entry z h

  by_stop : (stop : Option Answer) → stop_by s.owner o (stands_last (stands_then s (turn_of s moment event)) moment (event_in x) xs).book e.last ≡ stop
      → IsSaidBy s.owner (stands_last (stands_then s (turn_of s moment event)) moment (event_in x) xs).book o stop (last_turn (stands_then s (turn_of s moment event)) moment (event_in x) xs) → Outcome s moment event (x ∷ xs)
  by_stop (Some a) q h =
      Stopped
      (record {
        opening = o;
        named = named_last;
        answer = a;
        is = h.0;
        last = e.last;
        has = e.has;
        stops = ap (λ (y : Option Entry). stop_by s.owner o (book_after before y) e.last) h.1 ∙ q;
        unclosed = ap (λ (y : Option Entry). is_closed o.job (book_after before y)) h.1 ∙ e.unclosed;
        accepted = accepted;
        others = λ z k. elim (e.others z k) [ inl i ↦ inl i | inr i ↦ inr (still_goes z i) ];
      })
  by_stop None q (inl n) = not_silent (outcome s moment event (x ∷ xs)) n says
  by_stop None q (inr h) =
      let k = kept_some (kept_answer s.owner o (book_then s moment event (x ∷ xs))) (outcome s moment event (x ∷ xs)) h.0 says in
      Kept
      (record {
        opening = o;
        named = named_last;
        answer = k.0;
        is = k.2;
        kept = k.1;
        once = h.1;
        accepted = accepted;
        goes = λ z i. elim (e.others z i) [ inl j ↦ still_goes z (ap (stop_by s.owner o before) j ∙ q) | inr j ↦ still_goes z j ];
      })

  after_replies : Outcome s moment event (x ∷ xs)
  after_replies = by_stop (stop_by s.owner o before e.last) refl e.says

-- at once

at_first : (s : Standing) (moment : ℤ) (event : Event) → says_something (outcome s moment event []) ≡ true → FirstStep s (clamped moment) event (turn_of s moment event) → Outcome s moment event []
at_first s moment event says (inl (inl (r, e, q))) = Refused (record { refusal = r; by_book = e; is = ap (λ (t : Turn). t.said) q; at_once = refl })
at_first s moment event says (inr (e, f, a, q, n)) = Steady (record { finding = f; asks = a; is = q; accepted = e; at_once = refl })
at_first s moment event says (inl (inr (e, o, p, j))) = by_kept j.keeps
  where
    by_kept : IsSaidBy s.owner s.book o None (turn_of s moment event) → Outcome s moment event []
    by_kept (inl n) = not_silent (outcome s moment event []) n says
    by_kept (inr h) =
        let k = kept_some (kept_answer s.owner o (book_then s moment event [])) (outcome s moment event []) h.0 says in
        Kept (record { opening = o; named = j.named; answer = k.0; is = k.2; kept = k.1; once = h.1; accepted = e; goes = λ z i. absurd i })

-- by the first step and its call

pub refuses_none : {P : Type 0} (s : Standing) (r : AskRefusal) (t : Turn) → t ≡ refusing s r → t.said ≡ Says.Nothing → P
refuses_none s r t q n = let e : Says.Refused r ≡ Says.Nothing = ap (λ (t : Turn). t.said) (sym q) ∙ n in cc (e)

pub steady_none : {P : Type 0} (f : Conform) (said : Said) → said ≡ Says.Answer (Answers.Steady f) → said ≡ Says.Nothing → P
steady_none f said q n = let e : Says.Answer (Answers.Steady f) ≡ Says.Nothing = sym q ∙ n in cc (e)

none_sent : {P : Type 0} (sends : List Outgoing) (call : Outgoing) → sends ≡ [] → sends ≡ call ∷ [] → P
none_sent sends call e q = let n : [] ≡ call ∷ [] = sym e ∙ q in cc (n)

pub most : (a b : ℕ) → (a ≤ max a b) × (b ≤ max a b)
most a b = (omega arith, omega arith)

at_later : (s : Standing) (moment : ℤ) (event : Event) (x : Exchanged) (xs : List Exchanged) → IsExchange s moment event (x ∷ xs) → AllFit (x ∷ xs) → FirstStep s (clamped moment) event (turn_of s moment event) → Outcome s moment event (x ∷ xs)
at_later s moment event x xs ex fit (inl (inl (r, e, q))) = refuses_none s r (turn_of s moment event) q ex.0.0
at_later s moment event x xs ex fit (inr (e, f, a, q, n)) = steady_none f (turn_of s moment event).said q ex.0.0
at_later s moment event x xs ex fit (inl (inr (e, o, p, j))) = by_call (j.within n m.0)
  where
    n : ℕ
    n = max (found_before s.values (open_job_of o.ask.flight s.book)) (most_found (x ∷ xs))

    m : (found_before s.values (open_job_of o.ask.flight s.book) ≤ max (found_before s.values (open_job_of o.ask.flight s.book)) (most_found (x ∷ xs))) × (most_found (x ∷ xs) ≤ max (found_before s.values (open_job_of o.ask.flight s.book)) (most_found (x ∷ xs)))
    m = most (found_before s.values (open_job_of o.ask.flight s.book)) (most_found (x ∷ xs))

    by_call : IsWithin (max (found_before s.values (open_job_of o.ask.flight s.book)) (most_found (x ∷ xs))) s o (turn_of s moment event) (5 + cost (rounds_of o.ask.wish) (max (found_before s.values (open_job_of o.ask.flight s.book)) (most_found (x ∷ xs)))) → Outcome s moment event (x ∷ xs)
    by_call (inl q) = none_sent (turn_of s moment event).sends (call_in x) q ex.0.1
    by_call (inr (call, c, q, w, l)) =
        let same = first_call call (call_in x) (sym q ∙ ex.0.1) in
        after_replies s moment event o x xs e ex.1
        (walks event n (stands_then s (turn_of s moment event)) moment o x xs c j.named (subst (λ z. IsWaiting n (stands_then s (turn_of s moment event)) o z c) same w) ex.0.2 fit m.1)

pub outcome_of : (s : Standing) (moment : ℤ) (event : Event) (xs : List Exchanged) → IsCarriedOut s moment event xs → Outcome s moment event xs
outcome_of s moment event [] c = at_first s moment event c.exchange.1 (first_step s (clamped moment) event c.operators c.sound)
outcome_of s moment event (x ∷ xs) c = at_later s moment event x xs c.exchange c.fit (first_step s (clamped moment) event c.operators c.sound)
