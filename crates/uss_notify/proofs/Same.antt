-- What the changes of a legal book tell is what the book tells.
use Rattle.std.proofs.Common.{ℕ, ◌==◌, Bool, true, false, cond, ◌||◌, ◌&&◌, List, [], ◌∷◌, ◌++◌, ◌≡◌, inl, inr, length, refl, ap, sym, subst, ◌∙◌, Option, Some, None, is_some}
use Rattle.std.specs.List.{find}
use Rattle.std.specs.Option.{option_map, option_or, option_to_list}
use Rattle.uss_intent.specs.Numbers.{is_one_of}
use Rattle.uss_event.specs.declared.entries.Entry.{Entry}
use Rattle.uss_event.specs.declared.entries.Entry.TheVariants as Enters
use Rattle.uss_event.specs.declared.entries.Opening.{Opening}
use Rattle.uss_event.specs.declared.entries.Holding.{Holding}
use Rattle.uss_event.specs.declared.entries.Closing.{Closing}
use Rattle.uss_law_dss.specs.Lists.{Has}
use Rattle.uss_law_dss.proofs.Tests.{same_number, neither}
use Rattle.uss_law_book.specs.Lists.{holdings, decisions, endings, tickets_gone}
use Rattle.uss_law_book.specs.Contents as book_tells
use Rattle.uss_law_book.specs.Contents.{opening_of, holding_of, ending_of, is_held, is_done, decision_of, is_ended, is_job_of, owed_at_end, last_holding, is_ticket_open, is_ticket_gone}
use Rattle.uss_law_book.specs.Legal.{IsDue, IsLegal}
use Rattle.uss_law_book.specs.Orderly.{IsOrderly}
use Rattle.uss_law_book.proofs.EachLegal.{each_legal}
use Rattle.uss_law_book.proofs.EachOrderly.{legal_is_orderly}
use Rattle.std.proofs.lemmas.List.Folds.{find-append}
use Rattle.uss_law_book.proofs.Entries.{holdings_append, endings_append, opening_kept, opening_found, closed_by_either}
use Rattle.uss_law_book.proofs.Finds.{first_false, or_false}
use Rattle.uss_law_book.proofs.Grown.{last_holding_else, last_holding_new, ended_else, ended_new, job_of_old}
use Rattle.uss_law_book.proofs.Kept.{open_parts}
use Rattle.uss_law_book.proofs.Needed.{unanswered, closed_is_opened}
use Rattle.uss_law_book.proofs.Others.{ticket_either, decision_same}
use Rattle.uss_law_book.proofs.Still as still
use Rattle.uss_notify.specs.declared.changes.NoticeChange.{NoticeChange}
use Rattle.uss_notify.specs.Changes.{landing, closing, change_of, changes_of}
use Rattle.uss_notify.specs.After.{flight_of, owes, is_sent, has_ticket, is_gone, has_ended, last_landed}
use Rattle.uss_notify.proofs.Changed.{flight_append, owes_append, last_append, sent_append, ticket_append, gone_append, ended_append, one_more}

-- the flight of a closed job, and how many notifications it owes
abbrev pub flight_if : Bool → Option Opening → Option ℕ
flight_if false o = None
flight_if true o = option_map (λ (x : Opening). x.ask.flight) o

abbrev pub owed_if : Bool → ℕ → Option ℕ
owed_if false n = None
owed_if true n = Some n

pub record IsHeard (book : List Entry) (cs : List NoticeChange) : Type 0 where
  pub ticket : (job : ℕ) → has_ticket job cs ≡ is_ticket_open job book
  pub sent : (job index : ℕ) → is_sent job index cs ≡ book_tells.is_sent job index book
  pub flight : (job : ℕ) → flight_of job cs ≡ flight_if (book_tells.is_closed job book) (opening_of job book)
  pub gone : (job : ℕ) → is_gone job cs ≡ is_ticket_gone job book
  pub owed : (job : ℕ) → owes job cs ≡ owed_if (book_tells.is_closed job book) (length (book_tells.owed_of job book))
  pub last : (flight : ℕ) → last_landed flight cs ≡ option_map (λ (h : Holding). h.job) (last_holding flight book)
  pub ended : (flight : ℕ) → has_ended flight cs ≡ book_tells.has_ended flight book

-- what the entry says of tickets that are there and of answered notifications
ticket_said : (before : List Entry) (e : Entry) (job : ℕ) → has_ticket job (option_to_list (change_of before e)) ≡ is_ticket_open job (e ∷ [])
unfolding is_ticket_open
ticket_said before (Enters.TicketOpen j) job = refl
ticket_said before (Enters.Held h) job = go (opening_of h.job before)
  where
    go : (o : Option Opening) → has_ticket job (option_to_list (option_map (landing h) o)) ≡ false
    go None = refl
    go (Some o) = refl
ticket_said before (Enters.Done d) job = go (opening_of d.job before)
  where
    go : (o : Option Opening) → has_ticket job (option_to_list (option_map (closing before d) o)) ≡ false
    go None = refl
    go (Some o) = refl
ticket_said before e job = refl

sent_said : (before : List Entry) (e : Entry) (job index : ℕ) → is_sent job index (option_to_list (change_of before e)) ≡ book_tells.is_sent job index (e ∷ [])
unfolding book_tells.is_sent
sent_said before (Enters.Held h) job index = go (opening_of h.job before)
  where
    go : (o : Option Opening) → is_sent job index (option_to_list (option_map (landing h) o)) ≡ false
    go None = refl
    go (Some o) = refl
sent_said before (Enters.Done d) job index = go (opening_of d.job before)
  where
    go : (o : Option Opening) → is_sent job index (option_to_list (option_map (closing before d) o)) ≡ false
    go None = refl
    go (Some o) = refl
sent_said before e job index = refl

ticket_more : (book : List Entry) (cs : List NoticeChange) (e : Entry) → IsHeard book cs → (job : ℕ) → has_ticket job (cs ++ option_to_list (change_of book e)) ≡ is_ticket_open job (book ++ e ∷ [])
ticket_more book cs e t job = rw (ticket_append job cs (option_to_list (change_of book e)), ticket_either job book (e ∷ []), t.ticket job, ticket_said book e job) refl

sent_more : (book : List Entry) (cs : List NoticeChange) (e : Entry) → IsHeard book cs → (job index : ℕ) → is_sent job index (cs ++ option_to_list (change_of book e)) ≡ book_tells.is_sent job index (book ++ e ∷ [])
sent_more book cs e t job index = rw (sent_append job index cs (option_to_list (change_of book e)), still.sent_either job index book (e ∷ []), t.sent job index, sent_said book e job index) refl

or_none : {X : Type 0} (a : Option X) → option_or a None ≡ a
or_none None = refl
or_none (Some x) = refl

-- ---- an entry that closes no job

pub record IsQuiet (e : Entry) (more : List NoticeChange) : Type 0 where
  pub held : holdings (e ∷ []) ≡ []
  pub done : endings (e ∷ []) ≡ []
  pub flight : (job : ℕ) → flight_of job more ≡ None
  pub owed : (job : ℕ) → owes job more ≡ None
  pub last : (flight : ℕ) → last_landed flight more ≡ None
  pub ended : (flight : ℕ) → has_ended flight more ≡ false

quiet_flight : (book : List Entry) (e : Entry) (job : ℕ) → IsOrderly book → (b : Bool) → book_tells.is_closed job book ≡ b → flight_if b (opening_of job (book ++ e ∷ [])) ≡ flight_if b (opening_of job book)
quiet_flight book e job s false h = refl
quiet_flight book e job s true h =
    let o = closed_is_opened book job s h in
    let f = opening_found book o.0 job o.1 o.2 in
    ap (option_map (λ (x : Opening). x.ask.flight)) (opening_kept book (e ∷ []) job f.0 f.1 ∙ sym f.1)

no_holding : (e : Entry) {P : Type 0} → holdings (e ∷ []) ≡ [] → (x : Holding) → Has (holdings (e ∷ [])) x → P
no_holding e none x h = absurd (subst (λ (l : List Holding). Has l x) none h)

no_ending : (e : Entry) {P : Type 0} → endings (e ∷ []) ≡ [] → (x : Closing) → Has (endings (e ∷ [])) x → P
no_ending e none x h = absurd (subst (λ (l : List Closing). Has l x) none h)

quiet : (book : List Entry) (cs : List NoticeChange) (e : Entry) → IsOrderly book → IsHeard book cs → IsQuiet e (option_to_list (change_of book e))
    → ((job : ℕ) → is_gone job (cs ++ option_to_list (change_of book e)) ≡ is_ticket_gone job (book ++ e ∷ [])) → IsHeard (book ++ e ∷ []) (cs ++ option_to_list (change_of book e))
quiet book cs e s t q gone =
    let more = option_to_list (change_of book e) in
    record {
      ticket = ticket_more book cs e t;
      sent = sent_more book cs e t;
      flight = λ job. flight_append job cs more ∙ ap (option_or (flight_of job cs)) (q.flight job) ∙ or_none (flight_of job cs) ∙ t.flight job
          ∙ sym (quiet_flight book e job s (book_tells.is_closed job book) refl)
          ∙ ap (λ b. flight_if b (opening_of job (book ++ e ∷ []))) (sym (still.closed_still job book e q.held q.done));
      gone = gone;
      owed = λ job. owes_append job cs more ∙ ap (option_or (owes job cs)) (q.owed job) ∙ or_none (owes job cs) ∙ t.owed job
          ∙ rw (still.closed_still job book e q.held q.done, still.owed_still job book e q.held q.done) refl;
      last = λ flight. last_append flight cs more ∙ ap (λ o. option_or o (last_landed flight cs)) (q.last flight) ∙ t.last flight
          ∙ ap (option_map (λ (h : Holding). h.job)) (sym (last_holding_else flight book e s (λ x h. no_holding e q.held x h)));
      ended = λ flight. ended_append flight cs more ∙ ap (λ b. has_ended flight cs || b) (q.ended flight) ∙ or_false (has_ended flight cs) ∙ t.ended flight
          ∙ sym (ended_else flight book e s (λ x h. no_ending e q.done x h));
    }

-- it takes no ticket either
gone_not : (book : List Entry) (cs more : List NoticeChange) (e : Entry) → IsHeard book cs → decisions (e ∷ []) ≡ [] → endings (e ∷ []) ≡ [] → tickets_gone (e ∷ []) ≡ [] → ((job : ℕ) → is_gone job more ≡ false)
    → (job : ℕ) → is_gone job (cs ++ more) ≡ is_ticket_gone job (book ++ e ∷ [])
gone_not book cs more e t d k g none job =
    gone_append job cs more ∙ ap (λ b. is_gone job cs || b) (none job) ∙ or_false (is_gone job cs) ∙ t.gone job ∙ sym (still.ticket_gone_still job book e d k g)

-- the job isn't done, so that a decision says nothing of its ticket
gone_decided : (book : List Entry) (d : Closing) → book_tells.is_closed d.job book ≡ false → (job : ℕ) → is_ticket_gone job (book ++ Enters.Deciding d ∷ []) ≡ is_ticket_gone job book
unfolding is_ticket_gone
gone_decided book d u job = go (d.job == job) refl
  where
    go : (b : Bool) → (d.job == job) ≡ b → is_ticket_gone job (book ++ Enters.Deciding d ∷ []) ≡ is_ticket_gone job book
    go false h = rw (still.gone_still job book (Enters.Deciding d) refl, still.done_still job book (Enters.Deciding d) refl, decision_same job book (Enters.Deciding d) h) refl
    go true h =
        let n : is_done job book ≡ false = ap (λ j. is_done j book) (sym (same_number d.job job h)) ∙ (neither (is_held d.job book) (is_done d.job book) u).1 in
        rw (still.gone_still job book (Enters.Deciding d) refl, still.done_still job book (Enters.Deciding d) refl, n) refl

gone_taken : (book : List Entry) (job taken : ℕ) → is_ticket_gone job (book ++ Enters.TicketGone taken ∷ []) ≡ (is_ticket_gone job book || ((taken == job) || false))
unfolding is_ticket_gone
gone_taken book job taken =
    let e : Entry = Enters.TicketGone taken in
    rw (still.gone_either job book (e ∷ []), still.done_still job book e refl, decision_same_here) (swap (is_one_of job (tickets_gone book)) ((taken == job) || false) (is_done job book && is_some (decision_of job book)))
  where
    decision_same_here : decision_of job (book ++ Enters.TicketGone taken ∷ []) ≡ decision_of job book
    decision_same_here = still.decision_still job book (Enters.TicketGone taken) refl

    swap : (a b c : Bool) → ((a || b) || c) ≡ ((a || c) || b)
    swap true b c = refl
    swap false true true = refl
    swap false true false = refl
    swap false false true = refl
    swap false false false = refl

-- ---- an entry that closes a job

record Closes (book : List Entry) (e : Entry) (o : Opening) (job owed : ℕ) (c : NoticeChange) : Type 0 where
  opened : opening_of job book ≡ Some o
  unclosed : book_tells.is_closed job book ≡ false
  closed : (j : ℕ) → book_tells.is_closed j (e ∷ []) ≡ (job == j)
  flight : (j : ℕ) → flight_of j (c ∷ []) ≡ cond (job == j) (Some o.ask.flight) None
  owes_now : (j : ℕ) → owes j (c ∷ []) ≡ cond (job == j) (Some owed) None
  owed_now : length (book_tells.owed_of job (book ++ e ∷ [])) ≡ owed
  owed_else : (j : ℕ) → (job == j) ≡ false → book_tells.owed_of j (book ++ e ∷ []) ≡ book_tells.owed_of j book

closed_flight : (book : List Entry) (cs : List NoticeChange) (e : Entry) (o : Opening) (job owed : ℕ) (c : NoticeChange) → IsOrderly book → IsHeard book cs → Closes book e o job owed c
    → (j : ℕ) → flight_of j (cs ++ c ∷ []) ≡ flight_if (book_tells.is_closed j (book ++ e ∷ [])) (opening_of j (book ++ e ∷ []))
closed_flight book cs e o job owed c s t k j = flight_append j cs (c ∷ []) ∙ ap (option_or (flight_of j cs)) (k.flight j) ∙ go (job == j) refl
  where
    closed_is : (b : Bool) → (job == j) ≡ b → book_tells.is_closed j (book ++ e ∷ []) ≡ (book_tells.is_closed j book || b)
    closed_is b h = closed_by_either j book (e ∷ []) ∙ ap (λ x. book_tells.is_closed j book || x) (k.closed j ∙ h)

    go : (b : Bool) → (job == j) ≡ b → option_or (flight_of j cs) (cond b (Some o.ask.flight) None) ≡ flight_if (book_tells.is_closed j (book ++ e ∷ [])) (opening_of j (book ++ e ∷ []))
    go true h =
        let same : job ≡ j = same_number job j h in
        let u : book_tells.is_closed j book ≡ false = ap (λ x. book_tells.is_closed x book) (sym same) ∙ k.unclosed in
        let at : opening_of j (book ++ e ∷ []) ≡ Some o = opening_kept book (e ∷ []) j o (ap (λ x. opening_of x book) (sym same) ∙ k.opened) in
        ap (λ x. option_or x (Some o.ask.flight)) (t.flight j ∙ ap (λ b. flight_if b (opening_of j book)) u)
        ∙ sym (ap (λ b. flight_if b (opening_of j (book ++ e ∷ []))) (closed_is true h ∙ ap (λ b. b || true) u) ∙ ap (flight_if true) at)
    go false h =
        or_none (flight_of j cs) ∙ t.flight j ∙ sym (quiet_flight book e j s (book_tells.is_closed j book) refl)
        ∙ ap (λ b. flight_if b (opening_of j (book ++ e ∷ []))) (sym (closed_is false h ∙ or_false (book_tells.is_closed j book)))

closed_owed : (book : List Entry) (cs : List NoticeChange) (e : Entry) (o : Opening) (job owed : ℕ) (c : NoticeChange) → IsHeard book cs → Closes book e o job owed c
    → (j : ℕ) → owes j (cs ++ c ∷ []) ≡ owed_if (book_tells.is_closed j (book ++ e ∷ [])) (length (book_tells.owed_of j (book ++ e ∷ [])))
closed_owed book cs e o job owed c t k j = owes_append j cs (c ∷ []) ∙ ap (option_or (owes j cs)) (k.owes_now j) ∙ go (job == j) refl
  where
    closed_is : (b : Bool) → (job == j) ≡ b → book_tells.is_closed j (book ++ e ∷ []) ≡ (book_tells.is_closed j book || b)
    closed_is b h = closed_by_either j book (e ∷ []) ∙ ap (λ x. book_tells.is_closed j book || x) (k.closed j ∙ h)

    go : (b : Bool) → (job == j) ≡ b → option_or (owes j cs) (cond b (Some owed) None) ≡ owed_if (book_tells.is_closed j (book ++ e ∷ [])) (length (book_tells.owed_of j (book ++ e ∷ [])))
    go true h =
        let same : job ≡ j = same_number job j h in
        let u : book_tells.is_closed j book ≡ false = ap (λ x. book_tells.is_closed x book) (sym same) ∙ k.unclosed in
        ap (λ x. option_or x (Some owed)) (t.owed j ∙ ap (λ b. owed_if b (length (book_tells.owed_of j book))) u)
        ∙ sym (ap (λ b. owed_if b (length (book_tells.owed_of j (book ++ e ∷ [])))) (closed_is true h ∙ ap (λ b. b || true) u)
        ∙ ap (λ n. owed_if true n) (ap (λ x. length (book_tells.owed_of x (book ++ e ∷ []))) (sym same) ∙ k.owed_now))
    go false h =
        or_none (owes j cs) ∙ t.owed j
        ∙ sym (ap (λ b. owed_if b (length (book_tells.owed_of j (book ++ e ∷ [])))) (closed_is false h ∙ or_false (book_tells.is_closed j book))
        ∙ ap (λ l. owed_if (book_tells.is_closed j book) (length l)) (k.owed_else j h))

-- ---- what a job recorded

held_other : (book : List Entry) (h : Holding) (j : ℕ) → (h.job == j) ≡ false → holding_of j (book ++ Enters.Held h ∷ []) ≡ holding_of j book
unfolding holding_of
held_other book h j n =
    ap (λ (l : List Holding). find (λ (x : Holding). x.job == j) l) (holdings_append book (Enters.Held h ∷ []))
    ∙ find-append (λ (x : Holding). x.job == j) (holdings book) (h ∷ [])
    ∙ ap (λ b. option_or (find (λ (x : Holding). x.job == j) (holdings book)) (cond b (Some h) None)) n
    ∙ or_none (find (λ (x : Holding). x.job == j) (holdings book))

done_other : (book : List Entry) (d : Closing) (j : ℕ) → (d.job == j) ≡ false → ending_of j (book ++ Enters.Done d ∷ []) ≡ ending_of j book
unfolding ending_of
done_other book d j n =
    ap (λ (l : List Closing). find (λ (x : Closing). x.job == j) l) (endings_append book (Enters.Done d ∷ []))
    ∙ find-append (λ (x : Closing). x.job == j) (endings book) (d ∷ [])
    ∙ ap (λ b. option_or (find (λ (x : Closing). x.job == j) (endings book)) (cond b (Some d) None)) n
    ∙ or_none (find (λ (x : Closing). x.job == j) (endings book))

held_closes : (book : List Entry) (h : Holding) (o : Opening) → opening_of h.job book ≡ Some o → book_tells.is_closed h.job book ≡ false → Closes book (Enters.Held h) o h.job (length h.owed) (landing h o)
unfolding is_held is_done book_tells.owed_of
held_closes book h o at u =
    let p = neither (is_held h.job book) (is_done h.job book) u in
    record {
      opened = at;
      unclosed = u;
      closed = λ j. or_false ((h.job == j) || false) ∙ or_false (h.job == j);
      flight = λ j. or_none (cond (h.job == j) (Some o.ask.flight) None);
      owes_now = λ j. or_none (cond (h.job == j) (Some (length h.owed)) None);
      owed_now = rw (still.held_now book h (still.nothing_held h.job book p.0)) refl;
      owed_else = λ j n. rw (held_other book h j n, still.ending_still j book (Enters.Held h) refl) refl;
    }

held_last : (book : List Entry) (cs : List NoticeChange) (h : Holding) (o : Opening) → IsOrderly book → IsHeard book cs → opening_of h.job book ≡ Some o
    → (flight : ℕ) → last_landed flight (cs ++ landing h o ∷ []) ≡ option_map (λ (x : Holding). x.job) (last_holding flight (book ++ Enters.Held h ∷ []))
held_last book cs h o s t at flight = last_append flight cs (landing h o ∷ []) ∙ go (o.ask.flight == flight) refl
  where
    own : is_job_of flight h.job (book ++ Enters.Held h ∷ []) ≡ (o.ask.flight == flight)
    own = job_of_old book (Enters.Held h) flight h.job o at

    one : (x : Holding) → Has (holdings (Enters.Held h ∷ [])) x → (o.ask.flight == flight) ≡ false → is_job_of flight x.job (book ++ Enters.Held h ∷ []) ≡ false
    one x (inl q) n = ap (λ (y : Holding). is_job_of flight y.job (book ++ Enters.Held h ∷ [])) (sym q) ∙ own ∙ n
    one x (inr none) n = absurd none

    go : (b : Bool) → (o.ask.flight == flight) ≡ b → option_or (cond b (Some h.job) None) (last_landed flight cs) ≡ option_map (λ (x : Holding). x.job) (last_holding flight (book ++ Enters.Held h ∷ []))
    go true e = ap (option_map (λ (x : Holding). x.job)) (sym (last_holding_new flight book h s (own ∙ e)))
    go false e = t.last flight ∙ ap (option_map (λ (x : Holding). x.job)) (sym (last_holding_else flight book (Enters.Held h) s (λ x k. one x k e)))

and_false : (a : Bool) → ((a && false) || false) ≡ false
and_false true = refl
and_false false = refl

held_told : (book : List Entry) (cs : List NoticeChange) (h : Holding) (o : Opening) → IsOrderly book → IsHeard book cs → opening_of h.job book ≡ Some o → book_tells.is_closed h.job book ≡ false
    → IsHeard (book ++ Enters.Held h ∷ []) (cs ++ option_to_list (change_of book (Enters.Held h)))
held_told book cs h o s t at u =
    let e : Entry = Enters.Held h in
    let said : change_of book e ≡ Some (landing h o) = ap (option_map (landing h)) at in
    let k = held_closes book h o at u in
    subst (λ (c : Option NoticeChange). ((job : ℕ) → has_ticket job (cs ++ option_to_list c) ≡ is_ticket_open job (book ++ e ∷ [])) → ((job index : ℕ) → is_sent job index (cs ++ option_to_list c) ≡ book_tells.is_sent job index (book ++ e ∷ []))
    → IsHeard (book ++ e ∷ []) (cs ++ option_to_list c)) (sym said)
    (λ ticket sent. record {
      ticket = ticket;
      sent = sent;
      flight = closed_flight book cs e o h.job (length h.owed) (landing h o) s t k;
      gone = gone_not book cs (landing h o ∷ []) e t refl refl refl (λ job. and_false (h.job == job));
      owed = closed_owed book cs e o h.job (length h.owed) (landing h o) t k;
      last = held_last book cs h o s t at;
      ended = λ flight. ended_append flight cs (landing h o ∷ []) ∙ or_false (has_ended flight cs) ∙ t.ended flight ∙ sym (ended_else flight book e s (λ x none. absurd none));
    })
    (ticket_more book cs e t) (sent_more book cs e t)

-- ---- a job that ended otherwise

done_closes : (book : List Entry) (d : Closing) (o : Opening) → opening_of d.job book ≡ Some o → book_tells.is_closed d.job book ≡ false
    → Closes book (Enters.Done d) o d.job (length (owed_at_end d.end)) (closing book d o)
unfolding is_held is_done book_tells.owed_of
done_closes book d o at u =
    let p = neither (is_held d.job book) (is_done d.job book) u in
    record {
      opened = at;
      unclosed = u;
      closed = λ j. or_false (d.job == j);
      flight = λ j. or_none (cond (d.job == j) (Some o.ask.flight) None);
      owes_now = λ j. or_none (cond (d.job == j) (Some (length (owed_at_end d.end))) None);
      owed_now = rw (still.holding_still d.job book (Enters.Done d) refl, still.nothing_held d.job book p.0, still.ended_now book d (still.nothing_ended d.job book p.1)) refl;
      owed_else = λ j n. rw (still.holding_still j book (Enters.Done d) refl, done_other book d j n) refl;
    }

done_gone : (book : List Entry) (cs : List NoticeChange) (d : Closing) (o : Opening) → IsLegal book → IsHeard book cs → book_tells.is_closed d.job book ≡ false
    → (job : ℕ) → is_gone job (cs ++ closing book d o ∷ []) ≡ is_ticket_gone job (book ++ Enters.Done d ∷ [])
unfolding is_ticket_gone is_done
done_gone book cs d o l t u job =
    gone_append job cs (closing book d o ∷ []) ∙ ap (λ b. b || (((d.job == job) && is_some (decision_of d.job book)) || false)) (t.gone job) ∙ go (d.job == job) refl
  where
    e : Entry
    e = Enters.Done d

    now : is_ticket_gone job (book ++ e ∷ []) ≡ (is_one_of job (tickets_gone book) || ((is_done job book || ((d.job == job) || false)) && is_some (decision_of job book)))
    now = rw (still.gone_still job book e refl, still.done_either job book (e ∷ []), still.decision_still job book e refl) refl

    go : (b : Bool) → (d.job == job) ≡ b → (is_ticket_gone job book || ((b && is_some (decision_of d.job book)) || false)) ≡ is_ticket_gone job (book ++ e ∷ [])
    go true h =
        let same : d.job ≡ job = same_number d.job job h in
        let p = neither (is_held d.job book) (is_done d.job book) u in
        let undone : is_done job book ≡ false = ap (λ j. is_done j book) (sym same) ∙ p.1 in
        let there : is_one_of job (tickets_gone book) ≡ false = ap (λ j. is_one_of j (tickets_gone book)) (sym same) ∙ (unanswered book l d.job u).there in
        let was : is_ticket_gone job book ≡ false = rw (there, undone) refl in
        let is : is_ticket_gone job (book ++ e ∷ []) ≡ is_some (decision_of job book) = now ∙ rw (there, undone, h) refl in
        ap (λ b. b || (is_some (decision_of d.job book) || false)) was ∙ or_false (is_some (decision_of d.job book)) ∙ ap (λ j. is_some (decision_of j book)) same ∙ sym is
    go false h =
        or_false (is_ticket_gone job book)
        ∙ sym (now ∙ ap (λ b. is_one_of job (tickets_gone book) || ((is_done job book || (b || false)) && is_some (decision_of job book))) h
        ∙ ap (λ b. is_one_of job (tickets_gone book) || (b && is_some (decision_of job book))) (or_false (is_done job book)))

done_ended : (book : List Entry) (cs : List NoticeChange) (d : Closing) (o : Opening) → IsOrderly book → IsHeard book cs → opening_of d.job book ≡ Some o
    → (flight : ℕ) → has_ended flight (cs ++ closing book d o ∷ []) ≡ book_tells.has_ended flight (book ++ Enters.Done d ∷ [])
done_ended book cs d o s t at flight =
    ended_append flight cs (closing book d o ∷ []) ∙ ap (λ b. b || ((is_ended d.end && (o.ask.flight == flight)) || false)) (t.ended flight)
    ∙ ap (λ b. book_tells.has_ended flight book || b) (or_false (is_ended d.end && (o.ask.flight == flight))) ∙ go (o.ask.flight == flight) refl
  where
    own : is_job_of flight d.job (book ++ Enters.Done d ∷ []) ≡ (o.ask.flight == flight)
    own = job_of_old book (Enters.Done d) flight d.job o at

    and_true_end : (a : Bool) → (a && true) ≡ a
    and_true_end true = refl
    and_true_end false = refl

    one : (x : Closing) → Has (endings (Enters.Done d ∷ [])) x → (o.ask.flight == flight) ≡ false → (is_ended x.end && is_job_of flight x.job (book ++ Enters.Done d ∷ [])) ≡ false
    one x (inl q) n =
        ap (λ (y : Closing). is_ended y.end && is_job_of flight y.job (book ++ Enters.Done d ∷ [])) (sym q)
        ∙ first_false (is_ended d.end) (is_job_of flight d.job (book ++ Enters.Done d ∷ [])) (own ∙ n)
    one x (inr none) n = absurd none

    go : (b : Bool) → (o.ask.flight == flight) ≡ b → (book_tells.has_ended flight book || (is_ended d.end && b)) ≡ book_tells.has_ended flight (book ++ Enters.Done d ∷ [])
    go true e = ap (λ b. book_tells.has_ended flight book || b) (and_true_end (is_ended d.end)) ∙ sym (ended_new flight book d s (own ∙ e))
    go false e =
        ap (λ b. book_tells.has_ended flight book || b) (first_false (is_ended d.end) false refl) ∙ or_false (book_tells.has_ended flight book)
        ∙ sym (ended_else flight book (Enters.Done d) s (λ x k. one x k e))

done_told : (book : List Entry) (cs : List NoticeChange) (d : Closing) (o : Opening) → IsLegal book → IsHeard book cs → opening_of d.job book ≡ Some o → book_tells.is_closed d.job book ≡ false
    → IsHeard (book ++ Enters.Done d ∷ []) (cs ++ option_to_list (change_of book (Enters.Done d)))
done_told book cs d o l t at u =
    let e : Entry = Enters.Done d in
    let s = legal_is_orderly book l in
    let said : change_of book e ≡ Some (closing book d o) = ap (option_map (closing book d)) at in
    let k = done_closes book d o at u in
    subst (λ (c : Option NoticeChange). ((job : ℕ) → has_ticket job (cs ++ option_to_list c) ≡ is_ticket_open job (book ++ e ∷ [])) → ((job index : ℕ) → is_sent job index (cs ++ option_to_list c) ≡ book_tells.is_sent job index (book ++ e ∷ []))
    → IsHeard (book ++ e ∷ []) (cs ++ option_to_list c)) (sym said)
    (λ ticket sent. record {
      ticket = ticket;
      sent = sent;
      flight = closed_flight book cs e o d.job (length (owed_at_end d.end)) (closing book d o) s t k;
      gone = done_gone book cs d o l t u;
      owed = closed_owed book cs e o d.job (length (owed_at_end d.end)) (closing book d o) t k;
      last = λ flight. last_append flight cs (closing book d o ∷ []) ∙ t.last flight ∙ ap (option_map (λ (x : Holding). x.job)) (sym (last_holding_else flight book e s (λ x none. absurd none)));
      ended = done_ended book cs d o s t at;
    })
    (ticket_more book cs e t) (sent_more book cs e t)

-- ---- every legal book

told_after : (book : List Entry) (cs : List NoticeChange) (e : Entry) → IsLegal book → IsDue book e → IsHeard book cs → IsHeard (book ++ e ∷ []) (cs ++ option_to_list (change_of book e))
told_after book cs (Enters.Held h) l d t =
    let o = open_parts book h.job d.unfinished in
    held_told book cs h o.0 (legal_is_orderly book l) t o.1 o.2
told_after book cs (Enters.Done x) l d t = done_told book cs x d.opening l t d.opened d.unclosed
told_after book cs (Enters.Deciding x) l d t =
    let e : Entry = Enters.Deciding x in
    quiet book cs e (legal_is_orderly book l) t (record { held = refl; done = refl; flight = λ j. refl; owed = λ j. refl; last = λ f. refl; ended = λ f. refl })
    (λ job. gone_append job cs [] ∙ or_false (is_gone job cs) ∙ t.gone job ∙ sym (gone_decided book x d.unfinished.unclosed job))
told_after book cs (Enters.TicketGone taken) l d t =
    let e : Entry = Enters.TicketGone taken in
    quiet book cs e (legal_is_orderly book l) t (record { held = refl; done = refl; flight = λ j. refl; owed = λ j. refl; last = λ f. refl; ended = λ f. refl })
    (λ job. gone_append job cs (option_to_list (change_of book e)) ∙ ap (λ b. b || ((taken == job) || false)) (t.gone job) ∙ sym (gone_taken book job taken))
told_after book cs e l d t =
    quiet book cs e (legal_is_orderly book l) t (record { held = refl; done = refl; flight = λ j. refl; owed = λ j. refl; last = λ f. refl; ended = λ f. refl })
    (gone_not book cs (option_to_list (change_of book e)) e t refl refl refl (λ job. refl))

told_first : IsHeard [] []
unfolding is_ticket_open is_ticket_gone is_held is_done book_tells.is_sent book_tells.has_ended book_tells.holdings_of
told_first = record { ticket = λ j. refl; sent = λ j p. refl; flight = λ j. refl; gone = λ j. refl; owed = λ j. refl; last = λ f. refl; ended = λ f. refl }

pub told : (book : List Entry) → IsLegal book → IsHeard book (changes_of book)
told book l =
    each_legal (λ es. IsHeard es (changes_of es)) told_first
    (λ es e legal m t. subst (IsHeard (es ++ e ∷ [])) (sym (one_more es e)) (told_after es (changes_of es) e legal m.due t)) book l
