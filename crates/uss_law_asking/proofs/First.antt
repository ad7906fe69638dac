-- The first step of an exchange: it refuses, says that no change is asked for, or is of the job that the event names.
use Rattle.std.proofs.Common.{ℕ, ℤ, ◌+◌, ◌≤◌, ◌<◌, ◌==◌, ◌≡◌, ◌⊎◌, inl, inr, Bool, true, false, cond, not, ◌&&◌, ◌||◌, nat_lt, List, [], ◌∷◌, ◌++◌, filter, length, refl, ap, sym, subst, ◌∙◌, arith, Option, Some, None, is_some, IfSome}
use Rattle.std.specs.List.{find}
use Rattle.std.specs.Option.{option_map, option_or}
use Rattle.std.specs.Cmp.Lexicographic.{pointwise}
use Rattle.std.proofs.lemmas.List.Folds.{find-append}
use Rattle.uss_intent.specs.States.{same_state}
use Rattle.uss_event.specs.Same.{same_proposal, differing}
use Rattle.uss_event.specs.Pairs.{OperationalIntent}
use Rattle.uss_event.specs.declared.asks.Wish.{Wish}
use Rattle.uss_event.specs.declared.asks.Wish.TheVariants.{Put, End}
use Rattle.uss_event.specs.declared.asks.Conform.{Conform}
use Rattle.uss_event.specs.declared.asks.FlightAsk.{FlightAsk}
use Rattle.uss_event.specs.declared.asks.PositionAsk.{PositionAsk}
use Rattle.uss_event.specs.declared.asks.AskField.{AskField}
use Rattle.uss_event.specs.declared.asks.AskField.TheVariants as Fields
use Rattle.uss_event.specs.declared.asks.AskRefusal.{AskRefusal}
use Rattle.uss_event.specs.declared.asks.AskRefusal.TheVariants as Refuses
use Rattle.uss_event.specs.declared.entries.Entry.{Entry}
use Rattle.uss_event.specs.declared.entries.Ending.TheVariants as Ends
use Rattle.uss_event.specs.declared.calls.Outgoing.{Outgoing}
use Rattle.uss_event.specs.declared.events.Answer.TheVariants as Answers
use Rattle.uss_event.specs.declared.events.Said.TheVariants as Says
use Rattle.uss_event.specs.declared.events.Event.{Event}
use Rattle.uss_event.specs.declared.events.Event.TheVariants as Comes
use Rattle.uss_law_dss.specs.Lists.{Has}
use Rattle.uss_law_dss.proofs.Lists.{find_has, has_filter, has_passed}
use Rattle.uss_law_dss.proofs.Tests.{equal_number, same_number, other_number, both, not_true, not_less, some_same}
use Rattle.uss_event.specs.declared.entries.Opening.{Opening}
use Rattle.uss_event.specs.declared.entries.Holding.{Holding}
use Rattle.uss_event.specs.declared.entries.Closing.{Closing}
use Rattle.uss_law_book.specs.Lists.{openings, holdings, endings}
use Rattle.uss_law_book.specs.Legal.{IsAfter}
use Rattle.uss_law_book.specs.Orderly.{IsOrderly}
use Rattle.uss_law_book.specs.Contents.{jobs_of, open_job_of, last_of, is_closed, decision_of, holding_of, ending_of, rounds_of}
use Rattle.uss_law_book.specs.Attempts.{held}
use Rattle.uss_law_book.proofs.Entries.{openings_append}
use Rattle.uss_law_book.proofs.Held.{opening_is_found, open_job_is_found}
use Rattle.uss_law_book.proofs.Greatest.{number_is_greater}
use Rattle.uss_law_book.proofs.EachOrderly.{legal_is_orderly}
use Rattle.uss_law_duty.specs.Duties.{book_after}
use Rattle.uss_law_duty.specs.Answers.{job_of_request, job_named}
use Rattle.uss_law_supplier.specs.declared.duties.Duty.{Duty}
use Rattle.uss_law_supplier.specs.declared.duties.Duty.TheVariants as Duties
use Rattle.uss_law_supplier.specs.Table.{by_book}
use Rattle.uss_law_supplier.specs.Monitor.{Sighting, later_position}
use Rattle.uss_law_supplier.specs.Values.{awaited_of, round_of, progress_of, sightings_of}
use Rattle.uss_law_supplier.specs.Turns.{Standing, Turn, entering, with_entry}
use Rattle.uss_law_supplier.specs.Jobs.{is_end, view_of, carry_on, going_on, resuming_by, resuming, giving_up}
use Rattle.uss_law_supplier.specs.Asks.{first_some, plan_refusal, new_refusal, opening_entry, opening_for, refusing, new_by, asked_anew, answered_again, asked_for, repeated_by, repeated, asked_after, asked_with, asked}
use Rattle.uss_law_supplier.specs.Cancels.{cancelled_open, cancelled_job, cancelled_after, cancelled}
use Rattle.uss_law_supplier.specs.Positions.{sighting_of, is_refused, counted_unless, counted_with, acting_as, judged_unless, is_numbered, positioned_for, positioned_with, positioned}
use Rattle.uss_law_supplier.specs.Step.{stepped}
use Rattle.uss_law_supplier.specs.Laws.{IsSound}
use Rattle.uss_law_book.proofs.Known.{legal_known}
use Rattle.uss_law_supplier.proofs.Jobs.{still_named}
use Rattle.uss_law_supplier.proofs.Onward.{IsOpenJob}
use Rattle.uss_law_supplier.proofs.Asking.{last_is, request_found, IsAbout, first_kind}
use Rattle.uss_law_asking.specs.Exchange.{Exchanged, is_operators, event_in, turn_of, stands_then, stands_after, found_before}
use Rattle.uss_law_asking.specs.Refused.{old_number, other_wish, new_or_none, ask_refusal, cancel_refusal_after, cancel_refusal, change_refusal, finding_at, change_at, position_refusal_beside, position_refusal_with, refusal_at}
use Rattle.uss_law_asking.specs.Causes.{AsksForNoChange}
use Rattle.uss_law_asking.proofs.Budget.{cost, IsWaiting, IsWithin}
use Rattle.uss_law_asking.proofs.Acts.{gives_up}
use Rattle.uss_law_asking.proofs.Asked.{resumes, new_duty, opens}
use Rattle.uss_law_asking.proofs.Blocked.{IsFree, cancels_free, resumes_free}
use Rattle.uss_law_asking.proofs.Lacks.{IsPlain, gives_up_plain, resumes_plain}
use Rattle.uss_law_asking.proofs.Stops.{IsOnce, IsKeeping, asks_silently_after, gives_up_so, goes_on_silently, attempts_silently}

-- the step is of a job: so many calls suffice, and nothing is said, or what the book keeps of it
pub record OfJob (s : Standing) (event : Event) (o : Opening) (t : Turn) : Type 0 where
  pub named : job_named event (book_after s.book t.entry) ≡ Some o
  pub within : (n : ℕ) → found_before s.values (open_job_of o.ask.flight s.book) ≤ n → IsWithin n s o t (5 + cost (rounds_of o.ask.wish) n)
  pub keeps : IsKeeping s o t
  pub plain : IsPlain t
  pub free : IsFree t

-- it refuses, or is of a job that is so
abbrev pub FirstIs : (Opening → Type 0) → Standing → Event → Option AskRefusal → Turn → Type 0
FirstIs P s event refusal t = ((r : AskRefusal) × (refusal ≡ Some r) × (t ≡ refusing s r)) ⊎ ((refusal ≡ None) × (o : Opening) × P o × OfJob s event o t)

refuses : (P : Opening → Type 0) (s : Standing) (event : Event) (r : AskRefusal) → FirstIs P s event (Some r) (refusing s r)
refuses P s event r = inl (r, refl, refl)

-- a job that is resumed says nothing

carries_on_silently : (s : Standing) (o : Opening) (d : Duty) → IsKeeping s o (carry_on s o d)
carries_on_silently s o (Duties.Call kind) = goes_on_silently s o kind
carries_on_silently s o Duties.Attempt = attempts_silently s o 0 []
carries_on_silently s o _ = inl refl

resumes_silently : (s : Standing) (o : Opening) → IsKeeping s o (resuming s o)
resumes_silently s o = go (awaited_of o.job s.values)
  where
    go : (x : Option Outgoing) → IsKeeping s o (resuming_by s o x)
    go None = carries_on_silently s o (by_book (view_of s o))
    go (Some call) = inl refl

-- a legal book closes a job once

pub closed_once : (job : ℕ) (book : List Entry) → IsOrderly book → IsOnce job book
unfolding holding_of ending_of
closed_once job book s = at_held (holding_of job book) refl
  where
    at_done : (h : Holding) (x : Option Closing) → holding_of job book ≡ Some h → ending_of job book ≡ x → IsOnce job book
    at_done h None e q = inr q
    at_done h (Some d) e q =
        let a = find_has (λ (x : Holding). x.job == job) (holdings book) h e in
        let b = find_has (λ (x : Closing). x.job == job) (endings book) d q in
        absurd (s.held_or_ended h d a.0 b.0 (same_number h.job job a.1 ∙ sym (same_number d.job job b.1)))

    at_held : (x : Option Holding) → holding_of job book ≡ x → IsOnce job book
    at_held None e = inl e
    at_held (Some h) e = at_done h (ending_of job book) e refl

-- the job that an event names stays
pub named_then : (event : Event) (book : List Entry) (x : Option Entry) (o : Opening) → job_named event book ≡ Some o → job_named event (book_after book x) ≡ Some o
named_then event book None o h = h
named_then event book (Some e) o h = still_named event book e o h

-- to the end of an exchange
pub named_end : (event from : Event) (s : Standing) (moment : ℤ) (xs : List Exchanged) (o : Opening) → job_named event (book_after s.book (turn_of s moment from).entry) ≡ Some o → job_named event (stands_after s moment from xs).book ≡ Some o
named_end event from s moment [] o h = h
named_end event from s moment (x ∷ xs) o h =
    let t = stands_then s (turn_of s moment from) in
    named_end event (event_in x) t moment xs o (named_then event t.book (turn_of t moment (event_in x)).entry o h)

-- an open job of the book is resumed, and a closed one answers again

module _ (s : Standing) (event : Event) (o : Opening) (sound : IsSound s.owner s.book s.values) (has : Has (openings s.book) o) (named : job_named event s.book ≡ Some o) where
  its : is_closed o.job s.book ≡ false → IsOpenJob s.book o
  its u = record { opened = opening_is_found s.book o (legal_is_orderly s.book sound.legal) has; unclosed = u }

  few_of : (n : ℕ) → is_closed o.job s.book ≡ false → found_before s.values (open_job_of o.ask.flight s.book) ≤ n → length (round_of o.job s.values).found ≤ n
  few_of n u few = subst (λ (x : Option Opening). found_before s.values x ≤ n) (open_job_is_found s.book o (legal_is_orderly s.book sound.legal) has u) few

  of_resumed : is_closed o.job s.book ≡ false → OfJob s event o (resuming s o)
  of_resumed u =
      record {
        named = named_then event s.book (resuming s o).entry o named;
        within = λ n few. resumes n s o (its u) (legal_known s.book sound.legal) ((legal_known s.book sound.legal).firm o has) sound.fit (few_of n u few);
        keeps = resumes_silently s o;
        plain = resumes_plain s o;
        free = resumes_free s o;
      }

  of_given_up : is_closed o.job s.book ≡ false → OfJob s event o (giving_up s o Ends.Cancelled)
  of_given_up u =
      record {
        named = named_then event s.book (giving_up s o Ends.Cancelled).entry o named;
        within = λ n few. gives_up n s o Ends.Cancelled (5 + cost (rounds_of o.ask.wish) n) (its u) (omega arith);
        keeps = gives_up_so s o Ends.Cancelled (its u);
        plain = gives_up_plain s o Ends.Cancelled refl;
        free = cancels_free s o;
      }

  of_answered : OfJob s event o (answered_again s o)
  of_answered = record { named = named; within = λ n few. inl refl; keeps = inr (refl, closed_once o.job s.book (legal_is_orderly s.book sound.legal)); plain = refl; free = refl }

-- a repeated request has the rounds of the one before

same_rounds : (old new : Wish) → differing old new ≡ None → rounds_of old ≡ rounds_of new
same_rounds (Put to priority rounds proposals) (Put to' priority' rounds' proposals') h = at_state (same_state to to') h
  where
    at_rounds : (x : Bool) → (rounds == rounds') ≡ x → cond (not x) (Some Fields.Rounds) (cond (not (pointwise same_proposal proposals proposals')) (Some Fields.Proposals) None) ≡ None → rounds ≡ rounds'
    at_rounds true e h = same_number rounds rounds' e
    at_rounds false e h = cc

    at_priority : (x : Bool) → cond (not x) (Some Fields.Priority) (cond (not (rounds == rounds')) (Some Fields.Rounds) (cond (not (pointwise same_proposal proposals proposals')) (Some Fields.Proposals) None)) ≡ None → rounds ≡ rounds'
    at_priority true h = at_rounds (rounds == rounds') refl h
    at_priority false h = cc

    at_state : (x : Bool)
        → cond (not x) (Some Fields.To) (cond (not (priority == priority')) (Some Fields.Priority) (cond (not (rounds == rounds')) (Some Fields.Rounds) (cond (not (pointwise same_proposal proposals proposals')) (Some Fields.Proposals) None))) ≡ None
        → rounds ≡ rounds'
    at_state true h = at_priority (priority == priority') h
    at_state false h = cc
same_rounds End End h = refl
same_rounds (Put to priority rounds proposals) End h = cc
same_rounds End (Put to priority rounds proposals) h = cc

-- a new request is found by its number

new_named : (s : Standing) (at : ℤ) (ask : FlightAsk) → IfSome (last_of ask.flight s.book) (IsAfter ask) → job_of_request ask.flight ask.number (s.book ++ opening_entry s.book at ask ∷ []) ≡ Some (opening_for s at ask)
unfolding job_of_request
new_named s at ask later =
    ap (find p) (openings_append s.book (opening_entry s.book at ask ∷ [])) ∙ find-append p (openings s.book) (opening_for s at ask ∷ []) ∙ ap (λ x. option_or x (find p (opening_for s at ask ∷ []))) (none (find p (openings s.book)) refl)
    ∙ rw (equal_number ask.flight ask.flight refl, equal_number ask.number ask.number refl) refl
  where
    p : Opening → Bool
    p = λ o. (o.ask.flight == ask.flight) && (o.ask.number == ask.number)

    none : (x : Option Opening) → find p (openings s.book) ≡ x → x ≡ None
    none None e = refl
    none (Some o) e =
        let h = find_has p (openings s.book) o e in
        let b = both (o.ask.flight == ask.flight) (o.ask.number == ask.number) h.1 in
        let l = number_is_greater s.book ask o later h.0 (same_number o.ask.flight ask.flight b.0) in
        let q = same_number o.ask.number ask.number b.1 in
        absurd (omega (arith, l, q))

-- a request

-- the job is of the request's flight and has its rounds
pub record IsFor (ask : FlightAsk) (o : Opening) : Type 0 where
  pub flight : o.ask.flight ≡ ask.flight
  pub rounds : rounds_of o.ask.wish ≡ rounds_of ask.wish

only : {X : Type 0} (x : Option X) → first_some (x ∷ []) ≡ x
only None = refl
only (Some x) = refl

module _ (s : Standing) (event : Event) (at : ℤ) (ask : FlightAsk) (about : IsAbout event ask) (sound : IsSound s.owner s.book s.values) where
  of_new : plan_refusal ask.wish ≡ None → IfSome (last_of ask.flight s.book) (IsAfter ask) → FirstIs (IsFor ask) s event (new_refusal s.book at ask) (asked_anew s at ask)
  of_new plan later = go (new_refusal s.book at ask)
    where
      o : Opening
      o = opening_for s at ask

      e : Entry
      e = opening_entry s.book at ask

      orderly : IsOrderly s.book
      orderly = legal_is_orderly s.book sound.legal

      opened : OfJob s event (opening_for s at ask) (entering s (opening_entry s.book at ask) (λ after. going_on after (opening_for s at ask)))
      opened =
          record {
            named = about (s.book ++ e ∷ []) ∙ new_named s at ask later;
            within = λ n few. opens n s at ask orderly (legal_known s.book sound.legal) plan;
            keeps = subst (λ (t : Turn). IsKeeping s o (with_entry e t)) (sym (new_duty s at ask orderly (legal_known s.book sound.legal))) (asks_silently_after s o e (first_kind (is_end ask.wish)));
            plain = refl;
            free = refl;
          }

      go : (x : Option AskRefusal) → FirstIs (IsFor ask) s event x (new_by s at ask x)
      go None = inr (refl, o, record { flight = refl; rounds = refl }, opened)
      go (Some r) = refuses (IsFor ask) s event r

  of_repeated : (last : Opening) → last_of ask.flight s.book ≡ Some last → ask.number ≡ last.ask.number
      → FirstIs (IsFor ask) s event (first_some (option_map (λ field. Refuses.DifferentRepeat field) (differing last.ask.wish ask.wish) ∷ None ∷ [])) (repeated s last ask)
  of_repeated last e n = at_field (differing last.ask.wish ask.wish) refl
    where
      l : Has (openings s.book) last × (last.ask.flight ≡ ask.flight)
      l = last_is ask.flight s.book last e

      named : job_named event s.book ≡ Some last
      named = about s.book ∙ request_found ask.flight ask.number s.book last (legal_is_orderly s.book sound.legal) l.0 l.1 (sym n)

      at_closed : (b : Bool) → is_closed last.job s.book ≡ b → OfJob s event last (asked_for s last b)
      at_closed true q = of_answered s event last sound l.0 named
      at_closed false q = of_resumed s event last sound l.0 named q

      at_field : (x : Option AskField) → differing last.ask.wish ask.wish ≡ x → FirstIs (IsFor ask) s event (first_some (option_map (λ field. Refuses.DifferentRepeat field) x ∷ None ∷ [])) (repeated_by s last x)
      at_field (Some field) q = refuses (IsFor ask) s event (Refuses.DifferentRepeat field)
      at_field None q = inr (refl, last, record { flight = l.1; rounds = same_rounds last.ask.wish ask.wish q }, at_closed (is_closed last.job s.book) refl)

  pub of_ask : FirstIs (IsFor ask) s event (ask_refusal s.book at ask) (asked s at ask)
  of_ask = at_plan (plan_refusal ask.wish) refl
    where
      at_same : (last : Opening) (b : Bool) → last_of ask.flight s.book ≡ Some last → plan_refusal ask.wish ≡ None → last.ask.number ≤ ask.number → (ask.number == last.ask.number) ≡ b
          → FirstIs (IsFor ask) s event
          (first_some (cond b (option_map (λ field. Refuses.DifferentRepeat field) (differing last.ask.wish ask.wish)) None ∷ cond b None (new_refusal s.book at ask) ∷ []))
          (cond b (repeated s last ask) (asked_anew s at ask))
      at_same last true e plan k q = of_repeated last e (same_number ask.number last.ask.number q)
      at_same last false e plan k q =
          let n = other_number ask.number last.ask.number q in
          let later : last.ask.number < ask.number = omega (arith, k, n) in
          subst (λ r. FirstIs (IsFor ask) s event r (asked_anew s at ask)) (sym (only (new_refusal s.book at ask))) (of_new plan (subst (λ (x : Option Opening). IfSome x (IsAfter ask)) (sym e) later))

      at_less : (last : Opening) (b : Bool) → last_of ask.flight s.book ≡ Some last → plan_refusal ask.wish ≡ None → nat_lt ask.number last.ask.number ≡ b
          → FirstIs (IsFor ask) s event
          (first_some (cond b (Some (Refuses.OldNumber last.ask.number)) None ∷ other_wish ask (Some last) ∷ new_or_none s.book at ask (Some last) ∷ []))
          (cond b (refusing s (Refuses.OldNumber last.ask.number)) (cond (ask.number == last.ask.number) (repeated s last ask) (asked_anew s at ask)))
      at_less last true e plan q = refuses (IsFor ask) s event (Refuses.OldNumber last.ask.number)
      at_less last false e plan q = at_same last (ask.number == last.ask.number) e plan (not_less ask.number last.ask.number q) refl

      at_last : (x : Option Opening) → last_of ask.flight s.book ≡ x → plan_refusal ask.wish ≡ None
          → FirstIs (IsFor ask) s event (first_some (old_number ask x ∷ other_wish ask x ∷ new_or_none s.book at ask x ∷ [])) (asked_after s at ask x)
      at_last None e plan = subst (λ r. FirstIs (IsFor ask) s event r (asked_anew s at ask)) (sym (only (new_refusal s.book at ask))) (of_new plan (rw e tt))
      at_last (Some last) e plan = at_less last (nat_lt ask.number last.ask.number) e plan refl

      at_plan : (x : Option ℕ) → plan_refusal ask.wish ≡ x
          → FirstIs (IsFor ask) s event
          (first_some (option_map (λ number. Refuses.BadPlan number) x ∷ old_number ask (last_of ask.flight s.book) ∷ other_wish ask (last_of ask.flight s.book) ∷ new_or_none s.book at ask (last_of ask.flight s.book) ∷ []))
          (asked_with s at ask x)
      at_plan (Some number) e = refuses (IsFor ask) s event (Refuses.BadPlan number)
      at_plan None e = at_last (last_of ask.flight s.book) refl e

-- a cancel

abbrev pub AnyJob : Opening → Type 0
AnyJob o = Unit {0}

pub of_cancel : (s : Standing) (flight number : ℕ) → IsSound s.owner s.book s.values → FirstIs AnyJob s (Comes.Cancel flight number) (cancel_refusal s.book flight number) (cancelled s flight number)
of_cancel s flight number sound = at_last (last_of flight s.book) refl
  where
    event : Event
    event = Comes.Cancel flight number

    at_end : (last : Opening) (b : Bool) → Has (openings s.book) last → job_named event s.book ≡ Some last → is_closed last.job s.book ≡ false → OfJob s event last (cancelled_open s last b)
    at_end last true h named u = of_resumed s event last sound h named u
    at_end last false h named u = of_given_up s event last sound h named u

    at_closed : (last : Opening) (b : Bool) → Has (openings s.book) last → job_named event s.book ≡ Some last → is_closed last.job s.book ≡ b → OfJob s event last (cancelled_job s last b)
    at_closed last true h named q = of_answered s event last sound h named
    at_closed last false h named q = at_end last (is_end last.ask.wish || is_some (decision_of last.job s.book)) h named q

    at_number : (last : Opening) (b : Bool) → last_of flight s.book ≡ Some last → (number == last.ask.number) ≡ b
        → FirstIs AnyJob s event (cond b None (Some (Refuses.NotAsked last.ask.number))) (cond b (cancelled_job s last (is_closed last.job s.book)) (refusing s (Refuses.NotAsked last.ask.number)))
    at_number last true e q =
        let l = last_is flight s.book last e in
        let named = request_found flight number s.book last (legal_is_orderly s.book sound.legal) l.0 l.1 (sym (same_number number last.ask.number q)) in
        inr (refl, last, tt, at_closed last (is_closed last.job s.book) l.0 named refl)
    at_number last false e q = refuses AnyJob s event (Refuses.NotAsked last.ask.number)

    at_last : (x : Option Opening) → last_of flight s.book ≡ x → FirstIs AnyJob s event (cancel_refusal_after number x) (cancelled_after s number x)
    at_last None e = refuses AnyJob s event Refuses.NoSuchFlight
    at_last (Some last) e = at_number last (number == last.ask.number) e refl

-- a position

-- that it is counted leaves the job
counted_job : (s : Standing) (event : Event) (o : Opening) (flight : ℕ) (g : Sighting) (t : Turn) → OfJob s event o t → OfJob s event o (counted_with flight g t)
unfolding progress_of
counted_job s event o flight g t j = record { named = j.named; within = λ n few. go n (is_refused t.said) (j.within n few); keeps = j.keeps; plain = j.plain; free = j.free }
  where
    waits : (n : ℕ) (c : ℕ) (call : Outgoing) (b : Bool) → IsWaiting n (stands_then s t) o call c → IsWaiting n (stands_then s (record t { values = counted_unless b flight g t.values })) o call c
    waits n c call true w = w
    waits n c call false w = record { unfinished = w.unfinished; waits = w.waits; its_job = w.its_job; kind = w.kind; is = w.is; allows = w.allows }

    go : (n : ℕ) (b : Bool) → IsWithin n s o t (5 + cost (rounds_of o.ask.wish) n) → IsWithin n s o (record t { values = counted_unless b flight g t.values }) (5 + cost (rounds_of o.ask.wish) n)
    go n b (inl e) = inl e
    go n b (inr (call, c, e, w, l)) = inr (call, c, e, waits n c call b w, l)

counted_first : (P : Opening → Type 0) (s : Standing) (event : Event) (refusal : Option AskRefusal) (flight : ℕ) (g : Sighting) (t : Turn) → FirstIs P s event refusal t → FirstIs AnyJob s event refusal (counted_with flight g t)
counted_first P s event refusal flight g t (inl (r, e, q)) = inl (r, e, ap (counted_with flight g) q)
counted_first P s event refusal flight g t (inr (e, o, p, j)) = inr (e, o, tt, counted_job s event o flight g t j)

-- the open job of its number

open_is_there : (flight : ℕ) (book : List Entry) (o : Opening) → open_job_of flight book ≡ Some o → Has (openings book) o × (is_closed o.job book ≡ false) × (o.ask.flight ≡ flight)
unfolding open_job_of jobs_of
open_is_there flight book o e =
    let t : Opening → Bool = λ q. q.ask.flight == flight in
    let f = find_has (λ (q : Opening). not (is_closed q.job book)) (filter t (openings book)) o e in
    (has_filter t (openings book) o f.0, not_true (is_closed o.job book) f.1, same_number o.ask.flight flight (has_passed t (openings book) o f.0))

numbered_is : (number : ℕ) (x : Option Opening) (o : Opening) → is_numbered number x ≡ Some o → (x ≡ Some o) × (o.ask.number ≡ number)
numbered_is number None o e = cc
numbered_is number (Some q) o e = go (q.ask.number == number) refl e
  where
    go : (b : Bool) → (q.ask.number == number) ≡ b → cond b (Some q) None ≡ Some o → (Some q ≡ Some o) × (o.ask.number ≡ number)
    go true h k = let same : q ≡ o = some_same q o k in (k, ap (λ (x : Opening). x.ask.number) (sym same) ∙ same_number q.ask.number number h)
    go false h k = cc

-- whatever an operator sends

-- no change is asked for
abbrev pub IsSteady : Standing → ℤ → Event → Turn → Type 0
IsSteady s at event t = (refusal_at s at event ≡ None) × (finding : Conform) × AsksForNoChange s at event finding × (t.said ≡ Says.Answer (Answers.Steady finding)) × (t.sends ≡ [])

abbrev pub FirstStep : Standing → ℤ → Event → Turn → Type 0
FirstStep s at event t = FirstIs AnyJob s event (refusal_at s at event) t ⊎ IsSteady s at event t

pub of_position : (s : Standing) (at : ℤ) (p : PositionAsk) → IsSound s.owner s.book s.values → FirstStep s at (Comes.Position p) (positioned s at p)
of_position s at p sound = at_held (held p.flight s.book) refl
  where
    event : Event
    event = Comes.Position p

    so : (refusal : Option AskRefusal) (t : Turn) → FirstIs AnyJob s event refusal t → refusal_at s at event ≡ refusal → FirstStep s at event t
    so refusal t f e = inl (subst (λ r. FirstIs AnyJob s event r t) (sym e) f)

    at_wish : (pair : OperationalIntent) (x : Option Wish) → held p.flight s.book ≡ Some pair → is_numbered p.number (open_job_of p.flight s.book) ≡ None → later_position (sightings_of p.flight s.values) at ≡ None
        → change_at s at p pair ≡ x → refusal_at s at event ≡ first_some (change_refusal s.book at p x ∷ []) → FirstStep s at event (counted_with p.flight (sighting_of pair p at) (acting_as s at p (finding_at s at p pair) x))
    at_wish pair None h n l e q =
        inr (q, finding_at s at p pair, record { position = p; is = refl; pair = pair; is_held = h; no_job = n; not_late = l; finds = refl; no_change = e }, refl, refl)
    at_wish pair (Some wish) h n l e q =
        let ask : FlightAsk = record { flight = p.flight; number = p.number; wish = wish } in
        so (ask_refusal s.book at ask) _ (counted_first (IsFor ask) s event (ask_refusal s.book at ask) p.flight (sighting_of pair p at) (asked s at ask) (of_ask s event at ask (λ book. refl) sound)) (q ∙ only (ask_refusal s.book at ask))

    at_old : (pair : OperationalIntent) (x : Option ℤ) → held p.flight s.book ≡ Some pair → is_numbered p.number (open_job_of p.flight s.book) ≡ None → later_position (sightings_of p.flight s.values) at ≡ x
        → refusal_at s at event ≡ first_some (option_map (λ last. Refuses.OldPosition last) x ∷ change_refusal s.book at p (change_at s at p pair) ∷ []) → FirstStep s at event (judged_unless s at p pair x)
    at_old pair (Some last) h n e q = so (Some (Refuses.OldPosition last)) _ (refuses AnyJob s event (Refuses.OldPosition last)) q
    at_old pair None h n e q = at_wish pair (change_at s at p pair) h n e refl q

    at_job : (pair : OperationalIntent) (x : Option Opening) → held p.flight s.book ≡ Some pair → is_numbered p.number (open_job_of p.flight s.book) ≡ x → refusal_at s at event ≡ position_refusal_beside s at p pair x
        → FirstStep s at event (positioned_for s at p pair x)
    at_job pair (Some o) h e q =
        let k = numbered_is p.number (open_job_of p.flight s.book) o e in
        let i = open_is_there p.flight s.book o k.0 in
        so None _ (inr (refl, o, tt, of_resumed s event o sound i.0 (request_found p.flight p.number s.book o (legal_is_orderly s.book sound.legal) i.0 i.2 k.1) i.1)) q
    at_job pair None h e q = at_old pair (later_position (sightings_of p.flight s.values) at) h e refl q

    at_held : (x : Option OperationalIntent) → held p.flight s.book ≡ x → FirstStep s at event (positioned_with s at p x)
    at_held None e = so (Some Refuses.NoSuchFlight) _ (refuses AnyJob s event Refuses.NoSuchFlight) (ap (position_refusal_with s at p) e)
    at_held (Some pair) e = at_job pair (is_numbered p.number (open_job_of p.flight s.book)) e refl (ap (position_refusal_with s at p) e)

pub first_step : (s : Standing) (at : ℤ) (event : Event) → is_operators event ≡ true → IsSound s.owner s.book s.values → FirstStep s at event (stepped s at event)
first_step s at (Comes.Ask ask) h sound = inl (any (of_ask s (Comes.Ask ask) at ask (λ book. refl) sound))
  where
    any : FirstIs (IsFor ask) s (Comes.Ask ask) (ask_refusal s.book at ask) (asked s at ask) → FirstIs AnyJob s (Comes.Ask ask) (ask_refusal s.book at ask) (asked s at ask)
    any (inl r) = inl r
    any (inr (e, o, p, j)) = inr (e, o, tt, j)
first_step s at (Comes.Cancel flight number) h sound = inl (of_cancel s flight number sound)
first_step s at (Comes.Position p) h sound = of_position s at p sound
first_step s at _ h sound = cc
