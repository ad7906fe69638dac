-- A step of a supplier makes and waits for a call for its own flight only where it waited for it before, or where a refusal brings it.
use Rattle.std.proofs.Common.{ℕ, ℤ, ◌≡◌, ◌==◌, ◌&&◌, ◌||◌, nat_lt, Bool, true, false, cond, List, inl, inr, refl, ap, sym, subst, ◌∙◌, arith, Option, Some, None, is_some, slice_get, take, drop, option_and_then}
use Rattle.std.specs.Option.{option_map}
use Rattle.uss_intent.specs.Same.{same_ask}
use Rattle.uss_intent.specs.SameLaws.{ask_is_same}
use Rattle.uss_intent.specs.Refusals.{refusal_number}
use Rattle.uss_intent.specs.declared.records.Subscriber.{Subscriber}
use Rattle.uss_intent.specs.declared.calls.DssAsk.{DssAsk}
use Rattle.uss_intent.specs.declared.calls.DssAsk.TheVariants as Asks
use Rattle.uss_intent.specs.declared.calls.DssReply.{DssReply}
use Rattle.uss_intent.specs.declared.calls.DssReply.TheVariants as Replies
use Rattle.uss_intent.specs.declared.calls.DssRefusal.{DssRefusal}
use Rattle.uss_intent.specs.declared.calls.DssRefusal.TheVariants as Refuses
use Rattle.uss_event.specs.Fits.{peer_fits}
use Rattle.uss_event.specs.Same.{differing, same_call}
use Rattle.uss_event.specs.Pairs.{OperationalIntent}
use Rattle.uss_event.specs.declared.asks.Wish.{Wish}
use Rattle.uss_event.specs.declared.asks.FlightAsk.{FlightAsk}
use Rattle.uss_event.specs.declared.asks.PositionAsk.{PositionAsk}
use Rattle.uss_event.specs.declared.asks.AskField.{AskField}
use Rattle.uss_event.specs.declared.asks.AskRefusal.{AskRefusal}
use Rattle.uss_event.specs.declared.asks.AskRefusal.TheVariants as Whys
use Rattle.uss_event.specs.declared.asks.Conform.{Conform}
use Rattle.uss_event.specs.declared.entries.Owner.{Owner}
use Rattle.uss_event.specs.declared.entries.Entry.{Entry}
use Rattle.uss_event.specs.declared.entries.Ending.TheVariants as Ends
use Rattle.uss_event.specs.declared.calls.DssCall.{DssCall}
use Rattle.uss_event.specs.declared.calls.Note.{Note}
use Rattle.uss_event.specs.declared.calls.PeerCall.{PeerCall}
use Rattle.uss_event.specs.declared.calls.PeerCall.TheVariants as Calls
use Rattle.uss_event.specs.declared.calls.PeerReply.{PeerReply}
use Rattle.uss_event.specs.declared.calls.PeerReply.TheVariants as Peers
use Rattle.uss_event.specs.declared.calls.Outgoing.{Outgoing}
use Rattle.uss_event.specs.declared.calls.Outgoing.TheVariants as Goes
use Rattle.uss_event.specs.declared.events.Said.TheVariants as Says
use Rattle.uss_event.specs.declared.events.Event.{Event}
use Rattle.uss_event.specs.declared.events.Event.TheVariants as Comes
use Rattle.uss_law_dss.specs.Lists.{Has}
use Rattle.uss_law_dss.specs.Fits.{fits}
use Rattle.uss_law_dss.proofs.Tests.{same_number, some_same, both}
use Rattle.uss_event.specs.declared.entries.Opening.{Opening}
use Rattle.uss_law_book.specs.Lists.{openings}
use Rattle.uss_law_book.specs.Contents.{opening_of, is_closed, is_open, decision_of, last_of, open_job_of, owed_of}
use Rattle.uss_law_book.specs.Attempts.{held}
use Rattle.uss_law_book.proofs.Kept.{opening_has}
use Rattle.uss_event.specs.Heard.{News}
use Rattle.uss_law_duty.specs.Answers.{flight_of, job_of_call}
use Rattle.uss_law_duty.specs.Sends.{ticket_remove}
use Rattle.uss_law_supplier.specs.declared.duties.Awaited.{Awaited}
use Rattle.uss_law_supplier.specs.declared.duties.Awaited.TheVariants as Waits
use Rattle.uss_law_supplier.specs.declared.duties.Chore.{Chore}
use Rattle.uss_law_supplier.specs.declared.duties.Chore.TheVariants.{Notify, Retire}
use Rattle.uss_law_supplier.specs.declared.duties.Heard.TheVariants as Hears
use Rattle.uss_law_supplier.specs.Monitor.{Sighting, later_position}
use Rattle.uss_law_supplier.specs.Values.{Values, progress_of, awaited_of, counting, hearing, sightings_of}
use Rattle.uss_law_supplier.specs.Turns.{Standing, Turn, entered}
use Rattle.uss_law_supplier.specs.Table.{on_reply}
use Rattle.uss_law_supplier.specs.Calls.{call_of, kind_of_ask, kind_of, kind_of_call, is_it}
use Rattle.uss_law_supplier.specs.Jobs.{view_of, is_end, heard_of_dss, heard_of_peer, round_by_dss, round_by_peer, with_values, acting_on_dss, acting_on_peer, open_by_dss, open_by_peer}
use Rattle.uss_law_supplier.specs.Fitting.{IsDssAwaited, IsFit}
use Rattle.uss_law_supplier.specs.Asks.{refusing, new_refusal, opening_entry, opening_for, new_by, asked_for, repeated_by, asked_after, asked_with, plan_refusal, asked}
use Rattle.uss_law_supplier.specs.Cancels.{cancelled_open, cancelled_job, cancelled_after, cancelled}
use Rattle.uss_law_supplier.specs.Positions.{is_refused, counted_unless, counted_with, sighting_of, found_with, wished, acting_as, judged_as, judged, judged_unless, is_numbered, positioned_for, positioned_with, positioned}
use Rattle.uss_law_supplier.specs.Chores.{chores, notify, notify_of, chore_call, swept}
use Rattle.uss_law_supplier.specs.Replies.{closed_by_dss, closed_by_peer, retires, is_sent_now, waits_for_dss, waits_for_peer, of_job_by_dss, of_job_by_peer, replied_to, replied, replied_to_peer, heard_by, hearing_it, replied_by_peer}
use Rattle.uss_law_supplier.specs.Step.{is_of_another, notified_by, stepped}
use Rattle.uss_law_supplier.proofs.Choosing.{has_picked}
use Rattle.uss_law_supplier.proofs.Peering.{fit_hearing}
use Rattle.uss_law_world.specs.Claims.{is_unsettling}
use Rattle.uss_law_exact.proofs.Gets.{IsGet, Gets, IsGets, Settles, same_dss, round_leaves, on_reply_only, quiet, silencing, moved, IsGetDue, gets_going_on, gets_resuming, gets_giving_up, gets_carry_out, gets_carry_out_peer}

-- the reply is a refusal that comes to the open job only where it has its landing
pub record IsUnsettledBy (book : List Entry) (call : DssCall) (reply : DssReply) (j : ℕ) : Type 0 where
  pub refusal : DssRefusal
  pub is : reply ≡ Replies.Refused refusal
  pub its_job : call.job ≡ j
  pub unsettles : is_unsettling call.ask refusal ≡ true
  pub unfinished : is_open j book ≡ true

abbrev pub Cause : List Entry → Event → ℕ → Type 0
Cause book (Comes.Dss call reply) j = IsUnsettledBy book call reply j
Cause book _ j = ⊥

-- the refusals, by their numbers

by_number : (ask : DssAsk) (refusal : DssRefusal) (kind : Awaited) → kind_of_ask ask ≡ Some kind → Settles kind (refusal_number refusal)
    → is_unsettling ask refusal ≡ true
by_number (Asks.Put flight ovn extents key state base ticket) refusal kind e h = put refusal (subst (λ k. Settles k (refusal_number refusal)) (sym (some_same Waits.Put kind e)) h)
  where
    put : (r : DssRefusal) → Settles Waits.Put (refusal_number r) → is_unsettling (Asks.Put flight ovn extents key state base ticket) r ≡ true
    put Refuses.Exists h = refl
    put Refuses.StaleOvn h = refl
    put _ (inl q) = absurd (omega (arith, q))
    put _ (inr q) = absurd (omega (arith, q))
by_number (Asks.TicketRemove ticket version) refusal kind e h = remove refusal (subst (λ k. Settles k (refusal_number refusal)) (sym (some_same Waits.TicketRemove kind e)) h)
  where
    remove : (r : DssRefusal) → Settles Waits.TicketRemove (refusal_number r) → is_unsettling (Asks.TicketRemove ticket version) r ≡ true
    remove Refuses.TicketInUse q = refl
    remove _ q = absurd (omega (arith, q))
by_number (Asks.Query area) refusal kind e h = absurd (subst (λ k. Settles k (refusal_number refusal)) (sym (some_same Waits.Query kind e)) h)
by_number (Asks.Get flight) refusal kind e h = absurd (subst (λ k. Settles k (refusal_number refusal)) (sym (some_same Waits.Get kind e)) h)
by_number (Asks.Remove flight ovn) refusal kind e h = absurd (subst (λ k. Settles k (refusal_number refusal)) (sym (some_same Waits.Remove kind e)) h)
by_number (Asks.TicketPut ticket area base) refusal kind e h = absurd (subst (λ k. Settles k (refusal_number refusal)) (sym (some_same Waits.TicketPut kind e)) h)
by_number (Asks.TicketGet ticket) refusal kind e h = cc

heard_number : (n m : ℕ) → Hears.Refused n ≡ Hears.Refused m → n ≡ m
heard_number n m e = cc

heard_refused : (s : Standing) (o : Opening) (reply : DssReply) (n : ℕ) → heard_of_dss s o reply ≡ Hears.Refused n
    → (r : DssRefusal) × (reply ≡ Replies.Refused r) × (refusal_number r ≡ n)
heard_refused s o (Replies.Refused r) n e = (r, refl, heard_number (refusal_number r) n e)
heard_refused s o (Replies.Found references) n e = cc
heard_refused s o (Replies.Got reference) n e = cc
heard_refused s o (Replies.Landed reference subscribers) n e = cc
heard_refused s o (Replies.Removed reference subscribers) n e = cc
heard_refused s o (Replies.TicketMade ticket) n e = cc
heard_refused s o (Replies.TicketGot ticket) n e = cc
heard_refused s o (Replies.TicketRemoved ticket) n e = cc

peer_refused : {P : Type 0} (s : Standing) (o : Opening) (reply : PeerReply) (n : ℕ) → heard_of_peer s o reply ≡ Hears.Refused n → P
peer_refused s o (Peers.Status status) n e = cc
peer_refused s o (Peers.Served pair) n e = cc
peer_refused s o Peers.Gone n e = cc
peer_refused s o Peers.Noted n e = cc

-- a call that is the awaited one

same_dss_call : (a b : DssCall) → same_call (Goes.Dss a) (Goes.Dss b) ≡ true → a ≡ b
same_dss_call a b h =
    let p = both (a.job == b.job) (same_ask a.ask b.ask) h in
    let j = same_number a.job b.job p.0 in
    let k = (ask_is_same a.ask b.ask).0 p.1 in
    λ i. record { job = j i; ask = k i }

awaited_dss : (call : DssCall) (x : Option Outgoing) → is_it (Goes.Dss call) x ≡ true → x ≡ Some (Goes.Dss call)
awaited_dss call None h = cc
awaited_dss call (Some (Goes.Dss c)) h = ap (λ (d : DssCall). Some (Goes.Dss d)) (same_dss_call c call h)
awaited_dss call (Some (Goes.Peer c)) h = cc

awaited_peer : (call : PeerCall) (x : Option Outgoing) → is_it (Goes.Peer call) x ≡ true → (c : PeerCall) × (x ≡ Some (Goes.Peer c))
awaited_peer call None h = cc
awaited_peer call (Some (Goes.Dss c)) h = cc
awaited_peer call (Some (Goes.Peer c)) h = (c, refl)

peer_kind : {P : Type 0} (c : PeerCall) → kind_of_call c ≡ Some Waits.Get → P
peer_kind (Calls.Details job flight manager base) e = let k : Waits.Details ≡ Waits.Get = some_same Waits.Details Waits.Get e in cc
peer_kind (Calls.Notify job index base note) e = cc

-- what is waited for is the same where something else is kept

heard_leaves : (v : Values) (news : List News) (i : ℕ) → awaited_of i (hearing news v) ≡ awaited_of i v
unfolding progress_of
heard_leaves v news i = refl

counted_leaves : (v : Values) (flight : ℕ) (x : Sighting) (i : ℕ) → awaited_of i (counting flight x v) ≡ awaited_of i v
unfolding progress_of
counted_leaves v flight x i = refl

round_dss_leaves : (s : Standing) (o : Opening) (reply : DssReply) (i : ℕ) → awaited_of i (round_by_dss s o reply) ≡ awaited_of i s.values
round_dss_leaves s o (Replies.Found references) i = round_leaves o.job _ s.values i
round_dss_leaves s o _ i = refl

round_peer_leaves : (s : Standing) (o : Opening) (call : PeerCall) (reply : PeerReply) (i : ℕ)
    → awaited_of i (round_by_peer s o call reply) ≡ awaited_of i s.values
round_peer_leaves s o (Calls.Details job flight manager base) Peers.Gone i = round_leaves o.job _ s.values i
round_peer_leaves s o (Calls.Details job flight manager base) (Peers.Served pair) i = refl
round_peer_leaves s o (Calls.Details job flight manager base) Peers.Noted i = refl
round_peer_leaves s o (Calls.Details job flight manager base) (Peers.Status status) i = refl
round_peer_leaves s o (Calls.Notify job index base note) reply i = refl

view_awaits : (s : Standing) (o : Opening) → (view_of s o).awaited ≡ option_and_then kind_of (awaited_of o.job s.values)
unfolding view_of
view_awaits s o = refl

-- a call for the own flight is the one by the book
pub own_call : (owner : Owner) (book : List Entry) (j : ℕ) (call : DssCall) (w : IsDssAwaited owner book j call) → IsGet call.ask
    → call.ask ≡ Asks.Get (flight_of owner w.opening)
own_call owner book j call w g =
    let k : w.kind ≡ Waits.Get = some_same w.kind Waits.Get (sym w.is_of_kind ∙ g) in
    sym (some_same (Asks.Get (flight_of owner w.opening)) call.ask (subst (λ z. call_of owner book w.opening z ≡ Some call.ask) k w.is))

module _ (s : Standing) (fit : IsFit s.owner s.book s.values) where
  -- by a reply of the discovery service
  module _ (o : Opening) (call : DssCall) (reply : DssReply) where
    abbrev C : ℕ → Type 0
    C = IsUnsettledBy s.book call reply

    abbrev v : Values
    v = round_by_dss s o reply

    abbrev t : Standing
    t = with_values s v

    acts_dss : opening_of call.job s.book ≡ Some o → is_closed o.job s.book ≡ false → awaited_of o.job s.values ≡ Some (Goes.Dss call)
        → IsGets s.values C (acting_on_dss t o reply)
    acts_dss opened unclosed waits =
        moved C s.values v (acting_on_dss t o reply) (round_dss_leaves s o reply)
        (gets_carry_out C t o reply (on_reply (view_of t o) (heard_of_dss t o reply)) (on_reply_only (IsGetDue C t o) (view_of t o) (heard_of_dss t o reply) again refused))
      where
        has : Has (openings s.book) o × (o.job ≡ call.job)
        has = opening_has s.book call.job o opened

        waits_then : awaited_of o.job v ≡ Some (Goes.Dss call)
        waits_then = round_dss_leaves s o reply o.job ∙ waits

        kind_then : (kind : Awaited) → (view_of t o).awaited ≡ Some kind → kind_of_ask call.ask ≡ Some kind
        kind_then kind e = sym (view_awaits t o ∙ ap (option_and_then kind_of) waits_then) ∙ e

        again : (view_of t o).awaited ≡ Some Waits.Get → IsGetDue C t o
        again e =
            let w : IsDssAwaited s.owner s.book o.job call = fit o.job (Goes.Dss call) waits in
            let q = own_call s.owner s.book o.job call w (kind_then Waits.Get e) in
            let same : w.opening ≡ o = some_same w.opening o (sym w.opened ∙ subst (λ k. opening_of k s.book ≡ Some o) (sym has.1) opened) in
            let q' : call.ask ≡ Asks.Get (flight_of s.owner o) = q ∙ ap (λ z. Asks.Get (flight_of s.owner z)) same in
            let c : call ≡ record { job = o.job; ask = Asks.Get (flight_of s.owner o) } = (λ i. record { job = w.its_job i; ask = q' i }) in
            inl (waits_then ∙ ap (λ z. Some (Goes.Dss z)) c)

        refused : (kind : Awaited) (n : ℕ) → (view_of t o).awaited ≡ Some kind → heard_of_dss t o reply ≡ Hears.Refused n → Settles kind n
            → IsGetDue C t o
        refused kind n e h k =
            let r = heard_refused t o reply n h in
            inr (record {
              refusal = r.0;
              is = r.1;
              its_job = sym has.1;
              unsettles = by_number call.ask r.0 kind (kind_then kind e) (subst (Settles kind) (sym r.2) k);
              unfinished = rw (subst (λ j. opening_of j s.book ≡ Some o) (sym has.1) opened, unclosed) refl;
            })

  gets_open_by_dss : (o : Opening) (call : DssCall) (reply : DssReply) → opening_of call.job s.book ≡ Some o → is_closed o.job s.book ≡ false
      → (b : Bool) → (fits call.ask reply && waits_for_dss s o call) ≡ b
      → IsGets s.values (IsUnsettledBy s.book call reply) (open_by_dss s o reply b)
  gets_open_by_dss o call reply opened unclosed true e =
      acts_dss o call reply opened unclosed (awaited_dss call (awaited_of o.job s.values) (both (fits call.ask reply) (waits_for_dss s o call) e).1)
  gets_open_by_dss o call reply opened unclosed false e = gets_resuming (IsUnsettledBy s.book call reply) s o fit

  gets_replied : (call : DssCall) (reply : DssReply) → IsGets s.values (IsUnsettledBy s.book call reply) (replied s call reply)
  gets_replied call reply = go (opening_of call.job s.book) refl
    where
      closed : (o : Opening) (b : Bool) → IsGets s.values (IsUnsettledBy s.book call reply) (closed_by_dss s o b)
      closed o true = quiet (IsUnsettledBy s.book call reply) s.values Says.Nothing
      closed o false = quiet (IsUnsettledBy s.book call reply) s.values Says.Nothing

      by_job : (o : Opening) → opening_of call.job s.book ≡ Some o → (b : Bool) → is_closed o.job s.book ≡ b
          → IsGets s.values (IsUnsettledBy s.book call reply) (of_job_by_dss s o call reply b)
      by_job o e true c = closed o (retires s o call.ask reply)
      by_job o e false c = gets_open_by_dss o call reply e c (fits call.ask reply && waits_for_dss s o call) refl

      go : (x : Option Opening) → opening_of call.job s.book ≡ x → IsGets s.values (IsUnsettledBy s.book call reply) (replied_to s call reply x)
      go None e = quiet (IsUnsettledBy s.book call reply) s.values Says.Nothing
      go (Some o) e = by_job o e (is_closed o.job s.book) refl

  module _ (C : ℕ → Type 0) where
    -- by a reply of another supplier
    module _ (o : Opening) (call : PeerCall) (reply : PeerReply) where
      abbrev v' : Values
      v' = round_by_peer s o call reply

      abbrev t' : Standing
      t' = with_values s v'

      acts_peer : (c : PeerCall) → awaited_of o.job s.values ≡ Some (Goes.Peer c) → IsGets s.values C (acting_on_peer t' o call reply)
      acts_peer c waits =
          moved C s.values v' (acting_on_peer t' o call reply) (round_peer_leaves s o call reply)
          (gets_carry_out_peer C t' o call reply (on_reply (view_of t' o) (heard_of_peer t' o reply))
          (on_reply_only (IsGetDue C t' o) (view_of t' o) (heard_of_peer t' o reply) again (λ kind n e h k. peer_refused t' o reply n h)))
        where
          again : (view_of t' o).awaited ≡ Some Waits.Get → IsGetDue C t' o
          again e = peer_kind c (sym (view_awaits t' o ∙ ap (option_and_then kind_of) (round_peer_leaves s o call reply o.job ∙ waits)) ∙ e)

    gets_replied_to_peer : (call : PeerCall) (reply : PeerReply) (x : Option Opening) → IsGets s.values C (replied_to_peer s call reply x)
    gets_replied_to_peer call reply None = quiet C s.values Says.Nothing
    gets_replied_to_peer call reply (Some o) = by_job (is_closed o.job s.book)
      where
        closed : (b : Bool) → IsGets s.values C (closed_by_peer s o call b)
        closed true = quiet C s.values Says.Nothing
        closed false = quiet C s.values Says.Nothing

        open_job : (b : Bool) → (peer_fits call reply && waits_for_peer s o call) ≡ b → IsGets s.values C (open_by_peer s o call reply b)
        open_job true e = let p = awaited_peer call (awaited_of o.job s.values) (both (peer_fits call reply) (waits_for_peer s o call) e).1 in acts_peer o call reply p.0 p.1
        open_job false e = gets_resuming C s o fit

        by_job : (b : Bool) → IsGets s.values C (of_job_by_peer s o call reply b)
        by_job true = closed (is_sent_now s o call reply)
        by_job false = open_job (peer_fits call reply && waits_for_peer s o call) refl

    -- by a request
    gets_repeated : (o : Opening) (x : Option AskField) → IsGets s.values C (repeated_by s o x)
    gets_repeated o (Some field) = quiet C s.values Says.Nothing
    gets_repeated o None = go (is_closed o.job s.book)
      where
        go : (b : Bool) → IsGets s.values C (asked_for s o b)
        go true = quiet C s.values Says.Nothing
        go false = gets_resuming C s o fit

    gets_new : (moment : ℤ) (ask : FlightAsk) (x : Option AskRefusal) → IsGets s.values C (new_by s moment ask x)
    gets_new moment ask (Some refusal) = quiet C s.values Says.Nothing
    gets_new moment ask None = gets_going_on C (entered s (opening_entry s.book moment ask)) (opening_for s moment ask)

    gets_asked_after : (moment : ℤ) (ask : FlightAsk) (x : Option Opening) → IsGets s.values C (asked_after s moment ask x)
    gets_asked_after moment ask None = gets_new moment ask (new_refusal s.book moment ask)
    gets_asked_after moment ask (Some last) = at_old (nat_lt ask.number last.ask.number)
      where
        at_same : (b : Bool)
            → IsGets s.values C (cond b (repeated_by s last (differing last.ask.wish ask.wish)) (new_by s moment ask (new_refusal s.book moment ask)))
        at_same true = gets_repeated last (differing last.ask.wish ask.wish)
        at_same false = gets_new moment ask (new_refusal s.book moment ask)

        at_old : (b : Bool) → IsGets s.values C (cond b (refusing s (Whys.OldNumber last.ask.number))
            (cond (ask.number == last.ask.number) (repeated_by s last (differing last.ask.wish ask.wish)) (new_by s moment ask (new_refusal s.book moment ask))))
        at_old true = quiet C s.values Says.Nothing
        at_old false = at_same (ask.number == last.ask.number)

    gets_asked : (moment : ℤ) (ask : FlightAsk) → IsGets s.values C (asked s moment ask)
    gets_asked moment ask = go (plan_refusal ask.wish)
      where
        go : (x : Option ℕ) → IsGets s.values C (asked_with s moment ask x)
        go (Some number) = quiet C s.values Says.Nothing
        go None = gets_asked_after moment ask (last_of ask.flight s.book)

    gets_cancelled : (flight number : ℕ) → IsGets s.values C (cancelled s flight number)
    gets_cancelled flight number = go (last_of flight s.book)
      where
        open_job : (o : Opening) (b : Bool) → IsGets s.values C (cancelled_open s o b)
        open_job o true = gets_resuming C s o fit
        open_job o false = gets_giving_up C s o Ends.Cancelled

        of_job : (o : Opening) (b : Bool) → IsGets s.values C (cancelled_job s o b)
        of_job o true = quiet C s.values Says.Nothing
        of_job o false = open_job o (is_end o.ask.wish || is_some (decision_of o.job s.book))

        numbered : (o : Opening) (b : Bool)
            → IsGets s.values C (cond b (cancelled_job s o (is_closed o.job s.book)) (refusing s (Whys.NotAsked o.ask.number)))
        numbered o true = of_job o (is_closed o.job s.book)
        numbered o false = quiet C s.values Says.Nothing

        go : (x : Option Opening) → IsGets s.values C (cancelled_after s number x)
        go None = quiet C s.values Says.Nothing
        go (Some o) = numbered o (number == o.ask.number)

    -- by a position
    counts : (flight : ℕ) (x : Sighting) (t : Turn) → IsGets s.values C t → IsGets s.values C (counted_with flight x t)
    counts flight x t g = go (is_refused t.said)
      where
        go : (b : Bool) → Gets s.values C t.sends (counted_unless b flight x t.values)
        go true = g
        go false =
            record {
              sent = λ call h k. counted_leaves t.values flight x call.job ∙ g.sent call h k;
              waits = λ j call e k. g.waits j call (sym (counted_leaves t.values flight x j) ∙ e) k;
            }

    gets_acting_as : (moment : ℤ) (p : PositionAsk) (found : Conform) (x : Option Wish) → IsGets s.values C (acting_as s moment p found x)
    gets_acting_as moment p found None = quiet C s.values Says.Nothing
    gets_acting_as moment p found (Some wish) = gets_asked moment (record { flight = p.flight; number = p.number; wish = wish })

    gets_judged : (moment : ℤ) (p : PositionAsk) (pair : OperationalIntent) → IsGets s.values C (judged s moment p pair)
    gets_judged moment p pair =
        let found = found_with (sightings_of p.flight s.values) (sighting_of pair p moment) in
        counts p.flight (sighting_of pair p moment) (judged_as s moment p pair found) (gets_acting_as moment p found (wished pair p pair.reference.state found))

    gets_positioned : (moment : ℤ) (p : PositionAsk) → IsGets s.values C (positioned s moment p)
    gets_positioned moment p = go (held p.flight s.book)
      where
        later : (pair : OperationalIntent) (x : Option ℤ) → IsGets s.values C (judged_unless s moment p pair x)
        later pair (Some last) = quiet C s.values Says.Nothing
        later pair None = gets_judged moment p pair

        for_job : (pair : OperationalIntent) (x : Option Opening) → IsGets s.values C (positioned_for s moment p pair x)
        for_job pair (Some o) = gets_resuming C s o fit
        for_job pair None = later pair (later_position (sightings_of p.flight s.values) moment)

        go : (x : Option OperationalIntent) → IsGets s.values C (positioned_with s moment p x)
        go None = quiet C s.values Says.Nothing
        go (Some pair) = for_job pair (is_numbered p.number (open_job_of p.flight s.book))

    -- by a sweep
    chore_is : (chore : Chore) (call : DssCall) → chore_call s.owner s.book chore ≡ Some (Goes.Dss call) → IsGet call.ask → ⊥
    chore_is (Notify job index) call e g = at_job (opening_of job s.book) e
      where
        at_place : (o : Opening) (x : Option Subscriber) → option_map (notify s.owner s.book index o) x ≡ Some (Goes.Dss call) → ⊥
        at_place o None e = cc
        at_place o (Some b) e = let q : notify s.owner s.book index o b ≡ Goes.Dss call = some_same (notify s.owner s.book index o b) (Goes.Dss call) e in cc

        at_job : (x : Option Opening) → option_and_then (notify_of s.owner s.book index) x ≡ Some (Goes.Dss call) → ⊥
        at_job None e = cc
        at_job (Some o) e = at_place o (slice_get (owed_of o.job s.book) index) e
    chore_is (Retire job) call e g =
        let q = same_dss (record { job = job; ask = ticket_remove s.owner job }) call (some_same _ (Goes.Dss call) e) in
        let k : Some Waits.TicketRemove ≡ Some Waits.Get = ap (λ (c : DssCall). kind_of_ask c.ask) q ∙ g in
        let n : Waits.TicketRemove ≡ Waits.Get = some_same Waits.TicketRemove Waits.Get k in
        cc

    gets_swept : (skip : ℕ) → IsGets s.values C (swept s skip)
    gets_swept skip =
        record {
          sent = λ call h g. (let p = has_picked (chore_call s.owner s.book) (take 64 (drop skip (chores s.book))) (Goes.Dss call) h in absurd (chore_is p.0 call p.2 g));
          waits = λ j call e g. inl e;
        }

    gets_notified : (note : Note) (b : Bool) → IsGets s.values C (notified_by s note b)
    gets_notified note true = quiet C s.values Says.NotManager
    gets_notified note false = moved C s.values (hearing _ s.values) (notified_by s note false) (λ i. heard_leaves s.values _ i) (quiet C (hearing _ s.values) Says.Noted)

-- hearing a pair leaves what fits
hearing_fits : (s : Standing) (call : PeerCall) (reply : PeerReply) → IsFit s.owner s.book s.values
    → IsFit s.owner s.book (hearing_it s call reply).values
hearing_fits s call reply f = fit_hearing s.owner s.book s.values (heard_by call reply) f

pub gets_stepped : (s : Standing) (moment : ℤ) (event : Event) → IsFit s.owner s.book s.values
    → IsGets s.values (Cause s.book event) (stepped s moment event)
gets_stepped s moment (Comes.Ask ask) f = gets_asked s f (λ j. ⊥) moment ask
gets_stepped s moment (Comes.Cancel flight number) f = gets_cancelled s f (λ j. ⊥) flight number
gets_stepped s moment (Comes.Position p) f = gets_positioned s f (λ j. ⊥) moment p
gets_stepped s moment (Comes.Sweep skip) f = gets_swept s f (λ j. ⊥) skip
gets_stepped s moment (Comes.Dss call reply) f = gets_replied s f call reply
gets_stepped s moment (Comes.Peer call reply) f =
    moved (λ j. ⊥) s.values (hearing_it s call reply).values (replied_by_peer s call reply) (λ i. heard_leaves s.values (heard_by call reply) i)
    (gets_replied_to_peer (hearing_it s call reply) (hearing_fits s call reply f) (λ j. ⊥) call reply (opening_of (job_of_call call) s.book))
gets_stepped s moment (Comes.Failed job) f = silencing (λ j. ⊥) s.values job Says.Nothing
gets_stepped s moment (Comes.Details client flight) f = quiet (λ j. ⊥) s.values Says.Nothing
gets_stepped s moment (Comes.Notified client note) f = gets_notified s f (λ j. ⊥) note (is_of_another client note.pair)
