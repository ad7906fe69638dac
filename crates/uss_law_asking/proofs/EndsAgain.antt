-- That the end of a flight comes, whether it is asked for the first time or again.
use Rattle.std.proofs.Common.{ℕ, ℤ, ◌<◌, ◌==◌, ◌≡◌, ◌≢◌, inl, inr, Bool, true, false, cond, nat_lt, is_some, List, [], ◌∷◌, ◌++◌, refl, ap, sym, subst, ◌∙◌, arith, Option, Some, None, IfSome}
use Rattle.std.specs.Option.{option_map}
use Rattle.std.proofs.lemmas.List.{append-nil, append_assoc}
use Rattle.uss_intent.specs.Identifiers.{flight_number}
use Rattle.uss_intent.specs.declared.calls.DssAsk.{DssAsk}
use Rattle.uss_intent.specs.declared.calls.DssAsk.TheVariants as Asks
use Rattle.uss_event.specs.Same.{differing}
use Rattle.uss_event.specs.Pairs.{OperationalIntent}
use Rattle.uss_event.specs.declared.asks.Wish.{Wish}
use Rattle.uss_event.specs.declared.asks.Wish.TheVariants.{Put, End}
use Rattle.uss_event.specs.declared.asks.FlightAsk.{FlightAsk}
use Rattle.uss_event.specs.declared.asks.AskField.{AskField}
use Rattle.uss_event.specs.declared.asks.AskRefusal.TheVariants as Refuses
use Rattle.uss_event.specs.declared.entries.Owner.{Owner}
use Rattle.uss_event.specs.declared.entries.Entry.{Entry}
use Rattle.uss_event.specs.declared.entries.Entry.TheVariants as Enters
use Rattle.uss_event.specs.declared.entries.Ending.{Ending}
use Rattle.uss_event.specs.declared.entries.Ending.TheVariants as Ends
use Rattle.uss_event.specs.declared.calls.DssCall.{DssCall}
use Rattle.uss_event.specs.declared.calls.Outgoing.{Outgoing}
use Rattle.uss_event.specs.declared.calls.Outgoing.TheVariants as Goes
use Rattle.uss_event.specs.declared.events.Answer.TheVariants as Answers
use Rattle.uss_event.specs.declared.events.Said.{Said}
use Rattle.uss_event.specs.declared.events.Said.TheVariants as Says
use Rattle.uss_event.specs.declared.events.Event.TheVariants as Comes
use Rattle.uss_law_dss.specs.Lists.{Has}
use Rattle.uss_law_dss.specs.Service.{Service}
use Rattle.uss_law_dss.proofs.Lists.{find_has}
use Rattle.uss_law_dss.proofs.Tests.{same_number, other_number, not_less, not_both, some_same}
use Rattle.uss_event.specs.declared.entries.Opening.{Opening}
use Rattle.uss_event.specs.declared.entries.Holding.{Holding}
use Rattle.uss_event.specs.declared.entries.Closing.{Closing}
use Rattle.uss_law_book.specs.Lists.{openings, holdings, endings}
use Rattle.uss_law_book.specs.Legal.{IsAfter, IsDue, MayFollow, MayAllFollow, IsLegal, EndsFlight, EndsWish}
use Rattle.uss_law_book.specs.Orderly.{IsOrderly}
use Rattle.uss_law_book.specs.Contents.{is_put, opening_of, is_closed, is_ticket_open, last_of, current_ovn_of, holding, holding_of, ending_of}
use Rattle.uss_law_book.proofs.Entries.{opening_kept}
use Rattle.uss_law_book.proofs.Held.{opening_is_found}
use Rattle.uss_law_book.proofs.EachOrderly.{legal_is_orderly, orderly_after, orderly_at_first}
use Rattle.uss_law_duty.specs.Duties.{clamped}
use Rattle.uss_law_duty.specs.Answers.{flight_of, by_end, by_close, kept_answer}
use Rattle.uss_law_supplier.specs.declared.duties.Awaited.{Awaited}
use Rattle.uss_law_supplier.specs.declared.duties.Awaited.TheVariants as Waits
use Rattle.uss_law_supplier.specs.Values.{Values, awaited_of, awaiting}
use Rattle.uss_law_supplier.specs.Calls.{call_of}
use Rattle.uss_law_supplier.specs.Table.{by_book}
use Rattle.uss_law_supplier.specs.Turns.{Standing, Turn, said_of, dss_call, calling, sending}
use Rattle.uss_law_supplier.specs.Jobs.{is_end, view_of, making, carry_on, going_on, resuming_by, resuming}
use Rattle.uss_law_supplier.specs.Asks.{plan_refusal, begins_flight, answered_again, new_refusal, asked_for, repeated_by, repeated, asked_after, asked_with, asked_anew, refusing}
use Rattle.uss_law_supplier.specs.Fitting.{IsPhase, IsAwaited, IsFit}
use Rattle.uss_law_supplier.specs.Laws.{IsSound}
use Rattle.uss_law_book.proofs.Known.{Known, legal_known, ticket_puts}
use Rattle.uss_law_supplier.proofs.Jobs.{closed_has_answer}
use Rattle.uss_law_supplier.proofs.Waits.{awaiting_own}
use Rattle.uss_law_supplier.proofs.Onward.{IsOpenJob}
use Rattle.uss_law_supplier.proofs.Asking.{last_is, parts_none}
use Rattle.uss_law_asking.specs.Exchange.{turn_of, stands_then}
use Rattle.uss_law_asking.specs.Refused.{bad_plan, old_number, other_wish, new_or_none}
use Rattle.uss_law_asking.specs.Complete.{its_flight, IsEnding, EndsAreAnswered, EndsComeOut}
use Rattle.uss_law_asking.proofs.Calm.{only_none}
use Rattle.uss_law_asking.proofs.Walk.{ComesOutAs, goes_on_by, stops_by}
use Rattle.uss_law_asking.proofs.Recorded.{held_recorded}
use Rattle.uss_law_asking.proofs.Ends.{held_there, removes_so, ends_so}
use Rattle.uss_law_asking.proofs.Stale.{new_ending}

-- a legal book ends an End with the end of its flight

abbrev EndsAreEnds : List Entry → Type 0
EndsAreEnds book = (job : ℕ) (c : Closing) (o : Opening) → ending_of job book ≡ Some c → opening_of job book ≡ Some o → o.ask.wish ≡ End → EndsFlight c.end

ending_opened : (book : List Entry) (job : ℕ) (c : Closing) → IsOrderly book → ending_of job book ≡ Some c → (o : Opening) × (opening_of job book ≡ Some o)
unfolding ending_of
ending_opened book job c s h =
    let f = find_has (λ (d : Closing). d.job == job) (endings book) c h in
    let o = s.ended c f.0 in
    (o.0, ap (λ j. opening_of j book) (sym (o.2 ∙ same_number c.job job f.1)) ∙ opening_is_found book o.0 s o.1)

ends_flight : (book : List Entry) (job : ℕ) (end : Ending) (wish : Wish) → wish ≡ End → EndsWish book job end wish → EndsFlight end
ends_flight book job end (Put to priority rounds proposals) w h = cc
ends_flight book job end End w h = h

ends_then : (book : List Entry) (e : Entry) → IsOrderly book → MayFollow book e → EndsAreEnds book → EndsAreEnds (book ++ e ∷ [])
ends_then book e s f old job c o h k w = elim (new_ending job book e c h) [ inl q ↦ before q | inr q ↦ now q ]
  where
    same : (p : Opening) → opening_of job book ≡ Some p → p ≡ o
    same p i = some_same p o (sym (opening_kept book (e ∷ []) job p i) ∙ k)

    before : ending_of job book ≡ Some c → EndsFlight c.end
    before q =
        let p = ending_opened book job c s q in
        old job c p.0 q p.1 (ap (λ (x : Opening). x.ask.wish) (same p.0 p.1) ∙ w)

    now : e ≡ Enters.Done (record { job = job; end = c.end }) → EndsFlight c.end
    now q =
        let d = subst (λ (x : Entry). IsDue book x) q f.due in
        ends_flight book job c.end d.opening.ask.wish (ap (λ (x : Opening). x.ask.wish) (same d.opening d.opened) ∙ w) d.wish

ends_from : (before es : List Entry) → IsOrderly before → EndsAreEnds before → MayAllFollow before es → EndsAreEnds (before ++ es)
ends_from before [] s p h = subst EndsAreEnds (sym (append-nil before)) p
ends_from before (e ∷ es) s p h = subst EndsAreEnds (append_assoc before (e ∷ []) es) (ends_from (before ++ e ∷ []) es (orderly_after before e s h.0) (ends_then before e s h.0 p) h.1)

ends_are_ends : (book : List Entry) → IsLegal book → EndsAreEnds book
unfolding ending_of
ends_are_ends book h = ends_from [] book orderly_at_first (λ job c o e k w. cc) h

-- what it keeps of a closed End

by_flight_end : (flight : ℕ) (end : Ending) → EndsFlight end → by_end flight end ≡ Answers.Ended flight
by_flight_end flight (Ends.Conflict other manager rule) h = absurd h
by_flight_end flight (Ends.Stale missing) h = absurd h
by_flight_end flight Ends.Cancelled h = absurd h
by_flight_end flight (Ends.Ended owed) h = refl

no_put : {P : Type 0} (wish : Wish) → wish ≡ End → is_put wish ≡ true → P
no_put (Put to priority rounds proposals) w h = cc
no_put End w h = cc

none_recorded_by : (book : List Entry) (o : Opening) → IsOrderly book → Known book → opening_of o.job book ≡ Some o → o.ask.wish ≡ End → holding_of o.job book ≡ None
unfolding holding_of
none_recorded_by book o s known opened w = go (holding_of o.job book) refl
  where
    go : (x : Option Holding) → holding_of o.job book ≡ x → x ≡ None
    go None e = refl
    go (Some h) e =
        let f = find_has (λ (y : Holding). y.job == o.job) (holdings book) h e in
        let t = s.own h f.0 in
        let ticket = ap (λ j. is_ticket_open j book) (sym (t.2 ∙ same_number h.job o.job f.1)) ∙ known.ticketed t.0 t.1 in
        no_put o.ask.wish w (ticket_puts book o known opened ticket)

keeps_its_end : (owner : Owner) (o : Opening) (book : List Entry) → IsLegal book → Has (openings book) o → o.ask.wish ≡ End → is_closed o.job book ≡ true → kept_answer owner o book ≡ Some (Answers.Ended (flight_of owner o))
unfolding kept_answer
keeps_its_end owner o book legal has w closed = ap (λ x. by_close book (flight_of owner o) x (ending_of o.job book)) none ∙ at (ending_of o.job book) refl
  where
    orderly : IsOrderly book
    orderly = legal_is_orderly book legal

    opened : opening_of o.job book ≡ Some o
    opened = opening_is_found book o orderly has

    none : holding_of o.job book ≡ None
    none = none_recorded_by book o orderly (legal_known book legal) opened w

    at : (x : Option Closing) → ending_of o.job book ≡ x → by_close book (flight_of owner o) None x ≡ Some (Answers.Ended (flight_of owner o))
    at None e =
        let a = closed_has_answer owner o book orderly closed in
        let q : None ≡ Some a.0 = sym (ap (λ x. by_close book (flight_of owner o) x (ending_of o.job book)) none ∙ ap (λ x. by_close book (flight_of owner o) None x) e) ∙ a.1 in
        cc (q)
    at (Some d) e = ap Some (by_flight_end (flight_of owner o) d.end (ends_are_ends book legal o.job d o e opened w))

-- the walk

abbrev IsEnded : Standing → FlightAsk → Said → Type 0
IsEnded s ask said = said ≡ Says.Answer (Answers.Ended (its_flight s ask))

-- an open End goes on with its Remove
record Removes (s : Standing) (o : Opening) (ovn : List ℕ) : Type 0 where
  values : Values
  turn : resuming s o ≡ sending values (dss_call o.job (Asks.Remove (flight_of s.owner o) ovn) ∷ [])
  waits : awaited_of o.job values ≡ Some (dss_call o.job (Asks.Remove (flight_of s.owner o) ovn))

-- the call that it waits for is that
module _ (s : Standing) (o : Opening) (ovn : List ℕ) (u : IsOpenJob s.book o) (w : o.ask.wish ≡ End) (base : current_ovn_of o.ask.flight s.book ≡ Some ovn) where
  no_phase : {P : Type 0} (kind : Awaited) → kind ≢ Waits.Remove → IsPhase s.book o kind → P
  no_phase Waits.TicketPut n p = no_put o.ask.wish w p.0
  no_phase Waits.Query n p = no_put o.ask.wish w p.put
  no_phase Waits.Details n p = no_put o.ask.wish w p.0.put
  no_phase Waits.Put n p = no_put o.ask.wish w p.put
  no_phase Waits.Get n p = no_put o.ask.wish w p.0
  no_phase Waits.TicketRemove n p = no_put o.ask.wish w p.0
  no_phase Waits.Remove n p = absurd (n refl)

  the_call : call_of s.owner s.book o Waits.Remove ≡ Some (Asks.Remove (flight_of s.owner o) ovn)
  the_call = ap (option_map (λ (v : List ℕ). Asks.Remove (flight_of s.owner o) v)) base

  by_kind : (kind : Awaited) (ask : DssAsk) → IsPhase s.book o kind → call_of s.owner s.book o kind ≡ Some ask → ask ≡ Asks.Remove (flight_of s.owner o) ovn
  by_kind Waits.Remove ask p e = some_same ask (Asks.Remove (flight_of s.owner o) ovn) (sym e ∙ the_call)
  by_kind Waits.TicketPut ask p e = no_phase Waits.TicketPut (λ q. cc) p
  by_kind Waits.Query ask p e = no_phase Waits.Query (λ q. cc) p
  by_kind Waits.Details ask p e = no_phase Waits.Details (λ q. cc) p
  by_kind Waits.Put ask p e = no_phase Waits.Put (λ q. cc) p
  by_kind Waits.Get ask p e = no_phase Waits.Get (λ q. cc) p
  by_kind Waits.TicketRemove ask p e = no_phase Waits.TicketRemove (λ q. cc) p

  waits_so : (call : Outgoing) → IsAwaited s.owner s.book s.values o.job call → call ≡ dss_call o.job (Asks.Remove (flight_of s.owner o) ovn)
  waits_so (Goes.Dss call) a =
      let same : a.opening ≡ o = some_same a.opening o (sym a.opened ∙ u.opened) in
      let phase = subst (λ (x : Opening). IsPhase s.book x a.kind) same a.phase in
      let is = subst (λ (x : Opening). call_of s.owner s.book x a.kind ≡ Some call.ask) same a.is in
      let ask = by_kind a.kind call.ask phase is in
      ap (λ (j : ℕ). dss_call j call.ask) a.its_job ∙ ap (dss_call o.job) ask
  waits_so (Goes.Peer call) a =
      let same : a.opening ≡ o = some_same a.opening o (sym a.opened ∙ u.opened) in
      no_phase Waits.Details (λ q. cc) (subst (λ (x : Opening). IsPhase s.book x Waits.Details) same a.phase)

  goes_by_book : going_on s o ≡ calling o.job (dss_call o.job (Asks.Remove (flight_of s.owner o) ovn)) s.values
  unfolding view_of
  goes_by_book = ap (λ (x : Wish). carry_on s o (by_book (record (view_of s o) { end = is_end x }))) w ∙ ap (making s o.job) the_call

  removes : IsFit s.owner s.book s.values → Removes s o ovn
  removes fit = go (awaited_of o.job s.values) refl
    where
      go : (x : Option Outgoing) → awaited_of o.job s.values ≡ x → Removes s o ovn
      go None e =
          record {
            values = awaiting o.job (dss_call o.job (Asks.Remove (flight_of s.owner o) ovn)) s.values;
            turn = ap (resuming_by s o) e ∙ goes_by_book;
            waits = awaiting_own o.job (dss_call o.job (Asks.Remove (flight_of s.owner o) ovn)) s.values;
          }
      go (Some call) e =
          let q = waits_so call (fit o.job call e) in
          record { values = s.values; turn = ap (resuming_by s o) e ∙ ap (λ (c : Outgoing). sending s.values (c ∷ [])) q; waits = e ∙ ap Some q }

-- what it rests on
module _ (s : Standing) (moment : ℤ) (ask : FlightAsk) (service : Service) (served : List OperationalIntent) (sound : IsSound s.owner s.book s.values) (e : IsEnding s moment ask service) where
  plan : plan_refusal ask.wish ≡ None
  plan = ap plan_refusal e.end

  -- the first time
  for_the_first_time : IfSome (last_of ask.flight s.book) (IsAfter ask) → new_refusal s.book (clamped moment) ask ≡ None → ComesOutAs (IsEnded s ask) s.owner.name served s moment (Comes.Ask ask) service
  for_the_first_time new accepted =
      let h = held_there s (clamped moment) ask (ap begins_flight e.end) accepted in
      ends_so s moment ask service served h.0.ovn e.end sound new accepted e.orderly (held_recorded s ask service h.0 sound e.orderly e.recorded h.1)

  -- again
  module _ (last : Opening) (found : last_of ask.flight s.book ≡ Some last) (w : last.ask.wish ≡ End) where
    its : Has (openings s.book) last × (last.ask.flight ≡ ask.flight)
    its = last_is ask.flight s.book last found

    same_flight : flight_of s.owner last ≡ its_flight s ask
    same_flight = ap (flight_number s.owner.number) its.1

    closed_answers : turn_of s moment (Comes.Ask ask) ≡ answered_again s last → is_closed last.job s.book ≡ true → ComesOutAs (IsEnded s ask) s.owner.name served s moment (Comes.Ask ask) service
    closed_answers turn closed =
        stops_by (IsEnded s ask) s.owner.name served s moment (Comes.Ask ask) service (Says.Answer (Answers.Ended (flight_of s.owner last)))
        (ap (λ (x : Turn). x.said) turn ∙ ap said_of (keeps_its_end s.owner last s.book sound.legal its.0 w closed)) refl (ap (λ f. Says.Answer (Answers.Ended f)) same_flight)

    -- something is held, since it is open and has something to end
    held_still : is_closed last.job s.book ≡ false → (h : Holding) × (holding ask.flight s.book ≡ Some h)
    held_still u = go (holding ask.flight s.book) refl (ap (λ f. is_some (current_ovn_of f s.book)) (sym its.1) ∙ (legal_known s.book sound.legal).based last its.0 w u)
      where
        go : (x : Option Holding) → holding ask.flight s.book ≡ x → is_some (current_ovn_of ask.flight s.book) ≡ true → (h : Holding) × (holding ask.flight s.book ≡ Some h)
        go (Some h) q k = (h, q)
        go None q k = let n : is_some (current_ovn_of ask.flight s.book) ≡ false = rw q refl in not_both (is_some (current_ovn_of ask.flight s.book)) k n

    open_removes : turn_of s moment (Comes.Ask ask) ≡ resuming s last → is_closed last.job s.book ≡ false → ComesOutAs (IsEnded s ask) s.owner.name served s moment (Comes.Ask ask) service
    open_removes turn u =
        let h = held_still u in
        let held = held_recorded s ask service h.0 sound e.orderly e.recorded h.1 in
        let unfinished : IsOpenJob s.book last = record { opened = opening_is_found s.book last (legal_is_orderly s.book sound.legal) its.0; unclosed = u } in
        let base : current_ovn_of last.ask.flight s.book ≡ Some h.0.ovn = ap (λ f. current_ovn_of f s.book) its.1 ∙ held.base in
        let r = removes s last h.0.ovn unfinished w base sound.fit in
        let call : DssCall = record { job = last.job; ask = Asks.Remove (flight_of s.owner last) h.0.ovn } in
        let t = sending r.values (Goes.Dss call ∷ []) in
        subst (λ f. ComesOutAs (λ said. said ≡ Says.Answer (Answers.Ended f)) s.owner.name served s moment (Comes.Ask ask) service) same_flight
        (goes_on_by (λ said. said ≡ Says.Answer (Answers.Ended (flight_of s.owner last))) s.owner.name served s moment (Comes.Ask ask) service call t (turn ∙ r.turn) refl refl
        (removes_so (stands_then s t) moment ask last service served h.0.ovn w unfinished r.waits e.orderly s held refl (sym its.1)))

    at_closed : (b : Bool) → is_closed last.job s.book ≡ b → turn_of s moment (Comes.Ask ask) ≡ asked_for s last b → ComesOutAs (IsEnded s ask) s.owner.name served s moment (Comes.Ask ask) service
    at_closed true q turn = closed_answers turn q
    at_closed false q turn = open_removes turn q

  -- the wish that is repeated is an End
  same_wish : (old new : Wish) → new ≡ End → differing old new ≡ None → old ≡ End
  same_wish (Put to priority rounds proposals) new n h = let q : differing (Put to priority rounds proposals) End ≡ None = ap (differing (Put to priority rounds proposals)) (sym n) ∙ h in cc
  same_wish End new n h = refl

  no_field : (x : Option AskField) → option_map (λ field. Refuses.DifferentRepeat field) x ≡ None → x ≡ None
  no_field None h = refl
  no_field (Some field) h = cc

  at_same : (last : Opening) (b : Bool) → last_of ask.flight s.book ≡ Some last → nat_lt ask.number last.ask.number ≡ false → (ask.number == last.ask.number) ≡ b
      → cond b (option_map (λ field. Refuses.DifferentRepeat field) (differing last.ask.wish ask.wish)) None ≡ None → cond b None (new_refusal s.book (clamped moment) ask) ≡ None
      → ComesOutAs (IsEnded s ask) s.owner.name served s moment (Comes.Ask ask) service
  at_same last true found l q f n =
      let none = no_field (differing last.ask.wish ask.wish) f in
      let w = same_wish last.ask.wish ask.wish e.end none in
      let turn : turn_of s moment (Comes.Ask ask) ≡ asked_for s last (is_closed last.job s.book) =
      ap (asked_with s (clamped moment) ask) plan ∙ ap (asked_after s (clamped moment) ask) found
      ∙ ap (λ (b : Bool). cond b (refusing s (Refuses.OldNumber last.ask.number)) (cond (ask.number == last.ask.number) (repeated s last ask) (asked_anew s (clamped moment) ask))) l
      ∙ ap (λ (b : Bool). cond b (repeated s last ask) (asked_anew s (clamped moment) ask)) q
      ∙ ap (repeated_by s last) none in
      at_closed last found w (is_closed last.job s.book) refl turn
  at_same last false found l q f n =
      let other = other_number ask.number last.ask.number q in
      let least = not_less ask.number last.ask.number l in
      let later : last.ask.number < ask.number = omega (arith, other, least) in
      for_the_first_time (subst (λ (x : Option Opening). IfSome x (IsAfter ask)) (sym found) later) n

  at_less : (last : Opening) (b : Bool) → last_of ask.flight s.book ≡ Some last → nat_lt ask.number last.ask.number ≡ b → cond b (Some (Refuses.OldNumber last.ask.number)) None ≡ None → other_wish ask (Some last) ≡ None
      → new_or_none s.book (clamped moment) ask (Some last) ≡ None → ComesOutAs (IsEnded s ask) s.owner.name served s moment (Comes.Ask ask) service
  at_less last true found l o f n = cc
  at_less last false found l o f n = at_same last (ask.number == last.ask.number) found l refl f n

  at_last : (x : Option Opening) → last_of ask.flight s.book ≡ x → old_number ask x ≡ None → other_wish ask x ≡ None → new_or_none s.book (clamped moment) ask x ≡ None
      → ComesOutAs (IsEnded s ask) s.owner.name served s moment (Comes.Ask ask) service
  at_last None found o f n = for_the_first_time (rw found tt) n
  at_last (Some last) found o f n = at_less last (nat_lt ask.number last.ask.number) found refl o f n

  ends_settle : ComesOutAs (IsEnded s ask) s.owner.name served s moment (Comes.Ask ask) service
  ends_settle =
      let last = last_of ask.flight s.book in
      let a = parts_none (bad_plan ask) _ e.accepted in
      let b = parts_none (old_number ask last) _ a.1 in
      let c = parts_none (other_wish ask last) _ b.1 in
      let d = only_none (new_or_none s.book (clamped moment) ask last) c.1 in
      at_last (last_of ask.flight s.book) refl b.0 c.0 d

pub ends_are_answered : EndsAreAnswered
ends_are_answered s moment ask service served sound e = (ends_settle s moment ask service served sound e).0

pub ends_come_out : EndsComeOut
ends_come_out s moment ask service served xs sound e = (ends_settle s moment ask service served sound e).1 xs
