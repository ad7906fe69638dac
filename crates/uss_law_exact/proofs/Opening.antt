-- In a step of a supplier a job opens only for a request, and for a position that acts as one.
use Rattle.std.proofs.Common.{ℕ, ℤ, ◌≡◌, ◌==◌, ◌&&◌, ◌||◌, nat_lt, Bool, true, false, cond, List, [], ◌∷◌, refl, subst, Option, Some, None, is_some, slice_get}
use Rattle.uss_intent.specs.declared.records.Reference.{Reference}
use Rattle.uss_intent.specs.declared.records.Subscriber.{Subscriber}
use Rattle.uss_intent.specs.declared.calls.DssAsk.{DssAsk}
use Rattle.uss_intent.specs.declared.calls.DssReply.{DssReply}
use Rattle.uss_event.specs.Fits.{peer_fits}
use Rattle.uss_event.specs.Same.{differing}
use Rattle.uss_event.specs.Pairs.{OperationalIntent}
use Rattle.uss_event.specs.declared.rules.Verdict.{Verdict}
use Rattle.uss_event.specs.declared.asks.Wish.{Wish}
use Rattle.uss_event.specs.declared.asks.Wish.TheVariants.{Put, End}
use Rattle.uss_event.specs.declared.asks.FlightAsk.{FlightAsk}
use Rattle.uss_event.specs.declared.asks.PositionAsk.{PositionAsk}
use Rattle.uss_event.specs.declared.asks.AskField.{AskField}
use Rattle.uss_event.specs.declared.asks.AskRefusal.{AskRefusal}
use Rattle.uss_event.specs.declared.asks.AskRefusal.TheVariants as Whys
use Rattle.uss_event.specs.declared.asks.Conform.{Conform}
use Rattle.uss_event.specs.declared.entries.Ending.{Ending}
use Rattle.uss_event.specs.declared.entries.Ending.TheVariants as Ends
use Rattle.uss_event.specs.declared.entries.Entry.{Entry}
use Rattle.uss_event.specs.declared.entries.Entry.TheVariants as Enters
use Rattle.uss_event.specs.declared.calls.DssCall.{DssCall}
use Rattle.uss_event.specs.declared.calls.Note.{Note}
use Rattle.uss_event.specs.declared.calls.Outgoing.{Outgoing}
use Rattle.uss_event.specs.declared.calls.PeerCall.{PeerCall}
use Rattle.uss_event.specs.declared.calls.PeerReply.{PeerReply}
use Rattle.uss_event.specs.declared.events.Event.{Event}
use Rattle.uss_event.specs.declared.events.Event.TheVariants as Comes
use Rattle.uss_plan.specs.declared.choice.Choice.{Choice}
use Rattle.uss_plan.specs.declared.choice.Choice.TheVariants.{Chosen, Blocked}
use Rattle.uss_law_dss.specs.Fits.{fits}
use Rattle.uss_event.specs.declared.entries.Opening.{Opening}
use Rattle.uss_event.specs.declared.entries.Trial.{Trial}
use Rattle.uss_event.specs.declared.entries.Closing.{Closing}
use Rattle.uss_law_book.specs.Contents.{opening_of, is_closed, decision_of, last_of, open_job_of, trials_of}
use Rattle.uss_law_book.specs.Attempts.{held}
use Rattle.uss_law_duty.specs.Answers.{job_of_call}
use Rattle.uss_law_duty.specs.Entered.{shown_tag}
use Rattle.uss_law_supplier.specs.declared.duties.Awaited.{Awaited}
use Rattle.uss_law_supplier.specs.declared.duties.Awaited.TheVariants as Waits
use Rattle.uss_law_supplier.specs.declared.duties.Duty.{Duty}
use Rattle.uss_law_supplier.specs.declared.duties.Duty.TheVariants as Duties
use Rattle.uss_law_supplier.specs.Monitor.{later_position}
use Rattle.uss_law_supplier.specs.Values.{awaited_of, round_of, sightings_of}
use Rattle.uss_law_supplier.specs.Turns.{Standing}
use Rattle.uss_law_supplier.specs.Table.{by_book, on_reply}
use Rattle.uss_law_supplier.specs.Calls.{call_of}
use Rattle.uss_law_supplier.specs.Airspace.{next_unheard, pairs_in, choice_of}
use Rattle.uss_law_supplier.specs.Jobs.{view_of, is_end, owed_by, reference_by, heard_of_dss, heard_of_peer, round_by_dss, round_by_peer, with_values, making, asking, holding_as, recording, giving_up_after, giving_up, ending_as, closing, looking_at, blocked_by, choosing_by, choosing, call_made, carry_on, going_on, resuming_by, resuming, carry_out, carry_out_peer, open_by_dss, open_by_peer}
use Rattle.uss_law_supplier.specs.Asks.{refusing, new_refusal, new_by, asked_for, repeated_by, asked_after, asked_with, plan_refusal, asked}
use Rattle.uss_law_supplier.specs.Cancels.{cancelled_open, cancelled_job, cancelled_after, cancelled}
use Rattle.uss_law_supplier.specs.Positions.{sighting_of, found_with, wished, acting_as, judged, judged_unless, is_numbered, positioned_for, positioned_with, positioned}
use Rattle.uss_law_supplier.specs.Replies.{closed_by_dss, closed_by_peer, retires, is_sent_now, waits_for_dss, waits_for_peer, of_job_by_dss, of_job_by_peer, replied_to, replied, replied_to_peer, hearing_it}
use Rattle.uss_law_supplier.specs.Step.{is_of_another, notified_by, stepped}
use Rattle.uss_law_exact.specs.Requests.{ActsAs}

-- a job that an entry opens is such
abbrev pub Opens : (ℤ → FlightAsk → Type 0) → Option Entry → Type 0
Opens P (Some (Enters.Opened o)) = P o.moment o.ask
Opens P _ = Unit {0}

-- what a job does opens none
module _ (P : ℤ → FlightAsk → Type 0) where
  makes : (s : Standing) (job : ℕ) (x : Option DssAsk) → Opens P (making s job x).entry
  makes s job None = tt
  makes s job (Some ask) = tt

  asks : (s : Standing) (o : Opening) (kind : Awaited) → Opens P (asking s o kind).entry
  asks s o kind = makes s o.job (call_of s.owner s.book o kind)

  looks : (s : Standing) (o : Opening) (x : Option Reference) → Opens P (looking_at s o x).entry
  looks s o None = tt
  looks s o (Some r) = tt

  calls : (s : Standing) (o : Opening) (kind : Awaited) → Opens P (call_made s o kind).entry
  calls s o Waits.TicketPut = asks s o Waits.TicketPut
  calls s o Waits.Query = asks s o Waits.Query
  calls s o Waits.Details = looks s o (next_unheard s.owner s.values.heard (round_of o.job s.values))
  calls s o Waits.Put = asks s o Waits.Put
  calls s o Waits.Get = asks s o Waits.Get
  calls s o Waits.TicketRemove = asks s o Waits.TicketRemove
  calls s o Waits.Remove = asks s o Waits.Remove

  carries_on : (s : Standing) (o : Opening) (d : Duty) → Opens P (carry_on s o d).entry
  carries_on s o (Duties.Call kind) = calls s o kind
  carries_on s o Duties.Attempt = tt
  carries_on s o _ = tt

  goes_on : (s : Standing) (o : Opening) → Opens P (going_on s o).entry
  goes_on s o = carries_on s o (by_book (view_of s o))

  resumes : (s : Standing) (o : Opening) → Opens P (resuming s o).entry
  resumes s o = go (awaited_of o.job s.values)
    where
      go : (x : Option Outgoing) → Opens P (resuming_by s o x).entry
      go None = goes_on s o
      go (Some call) = tt

  gives_up : (s : Standing) (o : Opening) (e : Ending) → Opens P (giving_up s o e).entry
  gives_up s o e = go (trials_of o.job s.book)
    where
      go : (ts : List Trial) → Opens P (giving_up_after s o e ts).entry
      go [] = tt
      go (t ∷ ts) = tt

  holds : (s : Standing) (o : Opening) (owed : List Subscriber) (r : Reference) (t : Option ℕ) (v : Option (List ℕ))
      → Opens P (holding_as s o owed r t v).entry
  holds s o owed r None v = tt
  holds s o owed r (Some t) None = tt
  holds s o owed r (Some t) (Some v) = tt

  records : (s : Standing) (o : Opening) (owed : List Subscriber) (x : Option Reference) → Opens P (recording s o owed x).entry
  records s o owed None = tt
  records s o owed (Some r) = holds s o owed r (shown_tag r) r.ovn

  ends_as : (s : Standing) (o : Opening) (x : Option Closing) → Opens P (ending_as s o x).entry
  ends_as s o None = tt
  ends_as s o (Some d) = tt

  closes : (s : Standing) (o : Opening) (owed : List Subscriber) (wish : Wish) → Opens P (closing s o owed wish).entry
  closes s o owed (Put to priority rounds proposals) = ends_as s o (decision_of o.job s.book)
  closes s o owed End = tt

  blocks : (s : Standing) (o : Opening) (rule : Verdict) (x : Option OperationalIntent) → Opens P (blocked_by s o rule x).entry
  blocks s o rule None = tt
  blocks s o rule (Some p) = gives_up s o (Ends.Conflict p.reference.flight p.reference.manager rule)

  chooses_by : (s : Standing) (o : Opening) (pairs : List OperationalIntent) (c : Choice) → Opens P (choosing_by s o pairs c).entry
  chooses_by s o pairs (Chosen alternative) = tt
  chooses_by s o pairs (Blocked place rule) = blocks s o rule (slice_get pairs place)

  chooses : (s : Standing) (o : Opening) → Opens P (choosing s o).entry
  chooses s o = chooses_by s o (pairs_in s (round_of o.job s.values)) (choice_of s o (pairs_in s (round_of o.job s.values)))

  carries_out : (s : Standing) (o : Opening) (reply : DssReply) (d : Duty) → Opens P (carry_out s o reply d).entry
  carries_out s o reply (Duties.Call kind) = calls s o kind
  carries_out s o reply Duties.OpenTicket = tt
  carries_out s o reply Duties.Attempt = tt
  carries_out s o reply Duties.Choose = chooses s o
  carries_out s o reply Duties.Hold = records s o (owed_by reply) (reference_by reply)
  carries_out s o reply Duties.DecideStale = tt
  carries_out s o reply Duties.Close = closes s o (owed_by reply) o.ask.wish
  carries_out s o reply Duties.Crowded = tt
  carries_out s o reply Duties.PeerRefused = tt
  carries_out s o reply Duties.Unsettled = tt
  carries_out s o reply (Duties.DssRefused number) = tt

  carries_out_peer : (s : Standing) (o : Opening) (call : PeerCall) (reply : PeerReply) (d : Duty) → Opens P (carry_out_peer s o call reply d).entry
  carries_out_peer s o call reply (Duties.Call kind) = calls s o kind
  carries_out_peer s o call reply Duties.Attempt = tt
  carries_out_peer s o call reply Duties.Choose = chooses s o
  carries_out_peer s o call reply Duties.PeerRefused = tt
  carries_out_peer s o call reply _ = tt

  -- replies
  by_dss : (s : Standing) (call : DssCall) (reply : DssReply) → Opens P (replied s call reply).entry
  by_dss s call reply = go (opening_of call.job s.book)
    where
      closed : (o : Opening) (b : Bool) → Opens P (closed_by_dss s o b).entry
      closed o true = tt
      closed o false = tt

      opened : (o : Opening) (b : Bool) → Opens P (open_by_dss s o reply b).entry
      opened o true =
          let t = with_values s (round_by_dss s o reply) in
          carries_out t o reply (on_reply (view_of t o) (heard_of_dss t o reply))
      opened o false = resumes s o

      of_job : (o : Opening) (b : Bool) → Opens P (of_job_by_dss s o call reply b).entry
      of_job o true = closed o (retires s o call.ask reply)
      of_job o false = opened o (fits call.ask reply && waits_for_dss s o call)

      go : (x : Option Opening) → Opens P (replied_to s call reply x).entry
      go None = tt
      go (Some o) = of_job o (is_closed o.job s.book)

  by_peer : (s : Standing) (call : PeerCall) (reply : PeerReply) → Opens P (replied_to_peer s call reply (opening_of (job_of_call call) s.book)).entry
  by_peer s call reply = go (opening_of (job_of_call call) s.book)
    where
      closed : (o : Opening) (b : Bool) → Opens P (closed_by_peer s o call b).entry
      closed o true = tt
      closed o false = tt

      opened : (o : Opening) (b : Bool) → Opens P (open_by_peer s o call reply b).entry
      opened o true =
          let t = with_values s (round_by_peer s o call reply) in
          carries_out_peer t o call reply (on_reply (view_of t o) (heard_of_peer t o reply))
      opened o false = resumes s o

      of_job : (o : Opening) (b : Bool) → Opens P (of_job_by_peer s o call reply b).entry
      of_job o true = closed o (is_sent_now s o call reply)
      of_job o false = opened o (peer_fits call reply && waits_for_peer s o call)

      go : (x : Option Opening) → Opens P (replied_to_peer s call reply x).entry
      go None = tt
      go (Some o) = of_job o (is_closed o.job s.book)

  by_cancel : (s : Standing) (flight number : ℕ) → Opens P (cancelled s flight number).entry
  by_cancel s flight number = go (last_of flight s.book)
    where
      opened : (o : Opening) (b : Bool) → Opens P (cancelled_open s o b).entry
      opened o true = resumes s o
      opened o false = gives_up s o Ends.Cancelled

      of_job : (o : Opening) (b : Bool) → Opens P (cancelled_job s o b).entry
      of_job o true = tt
      of_job o false = opened o (is_end o.ask.wish || is_some (decision_of o.job s.book))

      numbered : (o : Opening) (b : Bool)
          → Opens P (cond b (cancelled_job s o (is_closed o.job s.book)) (refusing s (Whys.NotAsked o.ask.number))).entry
      numbered o true = of_job o (is_closed o.job s.book)
      numbered o false = tt

      go : (x : Option Opening) → Opens P (cancelled_after s number x).entry
      go None = tt
      go (Some o) = numbered o (number == o.ask.number)

  by_note : (s : Standing) (note : Note) (b : Bool) → Opens P (notified_by s note b).entry
  by_note s note true = tt
  by_note s note false = tt

  -- a request opens a job for itself alone
  module _ (s : Standing) (moment : ℤ) (ask : FlightAsk) (its : P moment ask) where
    opens_anew : (x : Option AskRefusal) → Opens P (new_by s moment ask x).entry
    opens_anew None = its
    opens_anew (Some refusal) = tt

    opens_again : (o : Opening) (x : Option AskField) → Opens P (repeated_by s o x).entry
    opens_again o (Some field) = tt
    opens_again o None = go (is_closed o.job s.book)
      where
        go : (b : Bool) → Opens P (asked_for s o b).entry
        go true = tt
        go false = resumes s o

    opens_after : (x : Option Opening) → Opens P (asked_after s moment ask x).entry
    opens_after None = opens_anew (new_refusal s.book moment ask)
    opens_after (Some last) = at_old (nat_lt ask.number last.ask.number)
      where
        at_same : (b : Bool)
            → Opens P (cond b (repeated_by s last (differing last.ask.wish ask.wish)) (new_by s moment ask (new_refusal s.book moment ask))).entry
        at_same true = opens_again last (differing last.ask.wish ask.wish)
        at_same false = opens_anew (new_refusal s.book moment ask)

        at_old : (b : Bool) → Opens P (cond b (refusing s (Whys.OldNumber last.ask.number))
            (cond (ask.number == last.ask.number) (repeated_by s last (differing last.ask.wish ask.wish)) (new_by s moment ask (new_refusal s.book moment ask)))).entry
        at_old true = tt
        at_old false = at_same (ask.number == last.ask.number)

    by_request : Opens P (asked s moment ask).entry
    by_request = go (plan_refusal ask.wish)
      where
        go : (x : Option ℕ) → Opens P (asked_with s moment ask x).entry
        go (Some number) = tt
        go None = opens_after (last_of ask.flight s.book)

-- a position opens one where it acts as a request
module _ (s : Standing) (moment : ℤ) (p : PositionAsk) where
  abbrev Acts : ℤ → FlightAsk → Type 0
  Acts at ask = (at ≡ moment) × ActsAs s.book s.values moment p ask

  by_position : Opens Acts (positioned s moment p).entry
  by_position = go (held p.flight s.book) refl
    where
      acts : (pair : OperationalIntent) → held p.flight s.book ≡ Some pair → (found : Conform)
          → found ≡ found_with (sightings_of p.flight s.values) (sighting_of pair p moment)
          → (x : Option Wish) → wished pair p pair.reference.state found ≡ x → Opens Acts (acting_as s moment p found x).entry
      acts pair e found f None q = tt
      acts pair e found f (Some wish) q =
          by_request Acts s moment (record { flight = p.flight; number = p.number; wish = wish })
          (refl, record { flight = refl; number = refl; pair = pair; is_held = e; wish = subst (λ z. wished pair p pair.reference.state z ≡ Some wish) f q })

      is_judged : (pair : OperationalIntent) → held p.flight s.book ≡ Some pair → Opens Acts (judged s moment p pair).entry
      is_judged pair e =
          let found = found_with (sightings_of p.flight s.values) (sighting_of pair p moment) in
          acts pair e found refl (wished pair p pair.reference.state found) refl

      later : (pair : OperationalIntent) → held p.flight s.book ≡ Some pair → (x : Option ℤ) → Opens Acts (judged_unless s moment p pair x).entry
      later pair e (Some last) = tt
      later pair e None = is_judged pair e

      for_job : (pair : OperationalIntent) → held p.flight s.book ≡ Some pair → (x : Option Opening)
          → Opens Acts (positioned_for s moment p pair x).entry
      for_job pair e (Some o) = resumes Acts s o
      for_job pair e None = later pair e (later_position (sightings_of p.flight s.values) moment)

      go : (x : Option OperationalIntent) → held p.flight s.book ≡ x → Opens Acts (positioned_with s moment p x).entry
      go None e = tt
      go (Some pair) e = for_job pair e (is_numbered p.number (open_job_of p.flight s.book))

-- the event asks so
abbrev pub IsAskedBy : Standing → ℤ → Event → FlightAsk → Type 0
IsAskedBy s moment (Comes.Ask asked) ask = asked ≡ ask
IsAskedBy s moment (Comes.Position p) ask = ActsAs s.book s.values moment p ask
IsAskedBy s moment _ ask = ⊥

pub step_opens : (s : Standing) (moment : ℤ) (event : Event)
    → Opens (λ at ask. (at ≡ moment) × IsAskedBy s moment event ask) (stepped s moment event).entry
step_opens s moment (Comes.Ask ask) = by_request (λ at asked. (at ≡ moment) × (ask ≡ asked)) s moment ask (refl, refl)
step_opens s moment (Comes.Cancel flight number) = by_cancel _ s flight number
step_opens s moment (Comes.Position p) = by_position s moment p
step_opens s moment (Comes.Sweep skip) = tt
step_opens s moment (Comes.Dss call reply) = by_dss _ s call reply
step_opens s moment (Comes.Peer call reply) = by_peer _ (hearing_it s call reply) call reply
step_opens s moment (Comes.Failed job) = tt
step_opens s moment (Comes.Details client flight) = tt
step_opens s moment (Comes.Notified client note) = by_note _ s note (is_of_another client note.pair)
