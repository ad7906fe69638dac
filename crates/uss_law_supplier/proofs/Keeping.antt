-- What a step changes of what a supplier keeps beside its book.
use Rattle.std.proofs.Common.{ℕ, ◌==◌, ℤ, Bool, true, false, cond, nat_lt, ◌||◌, List, [], ◌∷◌, ◌++◌, ◌≡◌, inl, inr, refl, ap, sym, subst, ◌∙◌, Option, Some, None, is_some}
use Rattle.std.proofs.lemmas.List.{append-nil}
use Rattle.uss_intent.specs.declared.records.Reference.{Reference}
use Rattle.uss_intent.specs.declared.records.Subscriber.{Subscriber}
use Rattle.uss_intent.specs.declared.calls.DssAsk.{DssAsk}
use Rattle.uss_intent.specs.declared.calls.DssReply.{DssReply}
use Rattle.uss_intent.specs.declared.calls.DssReply.TheVariants as Replies
use Rattle.uss_event.specs.Pairs.{OperationalIntent}
use Rattle.uss_event.specs.declared.rules.Verdict.{Verdict}
use Rattle.uss_event.specs.declared.asks.Wish.{Wish}
use Rattle.uss_event.specs.declared.asks.Wish.TheVariants.{Put, End}
use Rattle.uss_event.specs.declared.asks.Conform.{Conform}
use Rattle.uss_event.specs.declared.asks.AskField.{AskField}
use Rattle.uss_event.specs.declared.asks.AskRefusal.{AskRefusal}
use Rattle.uss_event.specs.declared.asks.AskRefusal.TheVariants as Refuses
use Rattle.uss_event.specs.declared.asks.FlightAsk.{FlightAsk}
use Rattle.uss_event.specs.declared.asks.PositionAsk.{PositionAsk}
use Rattle.uss_event.specs.declared.entries.Entry.TheVariants as Enters
use Rattle.uss_event.specs.declared.entries.Ending.{Ending}
use Rattle.uss_event.specs.declared.entries.Ending.TheVariants as Ends
use Rattle.uss_event.specs.declared.calls.Note.{Note}
use Rattle.uss_event.specs.declared.calls.DssCall.{DssCall}
use Rattle.uss_event.specs.declared.calls.PeerCall.{PeerCall}
use Rattle.uss_event.specs.declared.calls.PeerCall.TheVariants as Calls
use Rattle.uss_event.specs.declared.calls.PeerReply.{PeerReply}
use Rattle.uss_event.specs.declared.calls.PeerReply.TheVariants as Peers
use Rattle.uss_event.specs.declared.calls.Outgoing.{Outgoing}
use Rattle.uss_event.specs.declared.calls.Outgoing.TheVariants as Goes
use Rattle.uss_event.specs.declared.events.Said.{Said}
use Rattle.uss_event.specs.declared.events.Event.{Event}
use Rattle.uss_event.specs.declared.events.Event.TheVariants as Comes
use Rattle.uss_plan.specs.declared.choice.Choice.{Choice}
use Rattle.uss_plan.specs.declared.choice.Choice.TheVariants.{Chosen, Blocked}
use Rattle.uss_event.specs.declared.entries.Opening.{Opening}
use Rattle.uss_event.specs.declared.entries.Trial.{Trial}
use Rattle.uss_event.specs.declared.entries.Closing.{Closing}
use Rattle.uss_law_book.specs.Contents.{is_closed, decision_of, trials_of, opening_of, open_job_of, last_of}
use Rattle.uss_law_book.specs.Attempts.{held}
use Rattle.uss_event.specs.Heard.{News, by_pair}
use Rattle.uss_law_duty.specs.Entered.{shown_tag}
use Rattle.uss_law_duty.specs.Duties.{clamped}
use Rattle.uss_law_duty.specs.Answers.{job_of_call}
use Rattle.uss_law_supplier.specs.declared.duties.Awaited.{Awaited}
use Rattle.uss_law_supplier.specs.declared.duties.Awaited.TheVariants as Waits
use Rattle.uss_law_supplier.specs.declared.duties.Duty.{Duty}
use Rattle.uss_law_supplier.specs.declared.duties.Duty.TheVariants as Duties
use Rattle.uss_law_supplier.specs.Values.{Values, Counted, Round, round_of, progress_of, awaited_of, sightings_of, in_round, without_job, unawaited, with_progress, asking_for, hearing}
use Rattle.uss_law_supplier.specs.Turns.{Standing, Turn, calling, dss_call, entered}
use Rattle.uss_law_supplier.specs.Airspace.{next_unheard, pairs_in, key_of, choice_of}
use Rattle.uss_law_supplier.specs.Table.{by_book, on_reply}
use Rattle.uss_law_supplier.specs.Calls.{call_of}
use Rattle.uss_law_supplier.specs.Jobs.{making, asking, pending, attempting, ending, holding_as, recording, deciding, giving_up_after, ending_as, closing, looking_at, blocked_by, choosing_by, choosing, call_made, carry_on, resuming_by, carry_out, carry_out_peer, owed_by, reference_by, missing_by, view_of, round_by_dss, round_by_peer, heard_of_dss, heard_of_peer, with_values, open_by_dss, open_by_peer, acting_on_dss, acting_on_peer}
use Rattle.uss_law_supplier.specs.Asks.{opening_entry, opening_for, new_refusal, new_by, asked_anew, asked_for, repeated_by, repeated, asked_after, asked_with, refusing, plan_refusal}
use Rattle.uss_law_supplier.specs.Cancels.{cancelled_open, cancelled_job, cancelled_after}
use Rattle.uss_law_supplier.specs.Monitor.{Sighting, later_position}
use Rattle.uss_law_supplier.specs.Positions.{sighting_of, found_with, wished, is_refused, counted_unless, acting_as, judged_as, judged_unless, is_numbered, positioned_for, positioned_with}
use Rattle.uss_law_supplier.specs.Replies.{retires, is_sent_now, heard_by, hearing_it, closed_by_dss, closed_by_peer, of_job_by_dss, of_job_by_peer, replied_to, replied_to_peer}
use Rattle.uss_law_supplier.specs.Step.{is_of_another, notified_by, stepped}
use Rattle.uss_law_supplier.specs.Keeping.{news_of, counted_position, counted_by, counted_of, WaitsThen, Advances, Changes, StepsChangeSo}
use Rattle.uss_law_supplier.proofs.Waits.{awaiting_own, awaiting_other, without_own, other_without, unawaited_own, unawaited_other, round_awaited, round_other}

-- one job gets further, and all else is kept
pub record Kept (v : Values) (job : ℕ) (sends : List Outgoing) (after : Values) : Type 0 where
  pub heard : after.heard ≡ v.heard
  pub positions : after.positions ≡ v.positions
  pub advances : Advances v job sends after

abbrev IsKept : Values → ℕ → Turn → Type 0
IsKept v job t = Kept v job t.sends t.values

-- the parts of a step

kept_none : (v : Values) (job : ℕ) → Kept v job [] v
kept_none v job = record { heard = refl; positions = refl; advances = record { others = λ i n. refl; waits = inr (inl refl) } }

kept_sending : (v : Values) (job : ℕ) (sends : List Outgoing) → Kept v job sends v
kept_sending v job sends = record { heard = refl; positions = refl; advances = record { others = λ i n. refl; waits = inr (inl refl) } }

kept_without : (v : Values) (job : ℕ) → Kept v job [] (without_job job v)
unfolding without_job
kept_without v job = record { heard = refl; positions = refl; advances = record { others = λ i n. other_without i job v n; waits = inl (without_own job v) } }

kept_unawaited : (v : Values) (job : ℕ) → Kept v job [] (unawaited job v)
unfolding unawaited
kept_unawaited v job = record { heard = refl; positions = refl; advances = record { others = λ i n. unawaited_other i job v n; waits = inl (unawaited_own job v) } }

kept_calling : (v : Values) (job : ℕ) (call : Outgoing) → IsKept v job (calling job call v)
unfolding with_progress
kept_calling v job call =
    record { heard = refl; positions = refl; advances = record { others = λ i n. awaiting_other i job call v n; waits = inr (inr (call, awaiting_own job call v, refl)) } }

-- from values in which the job waits for the same, in another round
waits_from : (v w : Values) (job : ℕ) (sends : List Outgoing) (after : Values) → awaited_of job w ≡ awaited_of job v → WaitsThen w job sends after → WaitsThen v job sends after
waits_from v w job sends after e (inl n) = inl n
waits_from v w job sends after e (inr (inl s)) = inr (inl (s ∙ e))
waits_from v w job sends after e (inr (inr c)) = inr (inr c)

kept_round : (v : Values) (job : ℕ) (round : Round) (sends : List Outgoing) (after : Values) → Kept (in_round job round v) job sends after → Kept v job sends after
unfolding with_progress
kept_round v job round sends after k =
    record {
      heard = k.heard;
      positions = k.positions;
      advances =
          record {
            others = λ i n. k.advances.others i n ∙ round_other i job round v n;
            waits = waits_from v (in_round job round v) job sends after (round_awaited job round v) k.advances.waits;
          };
    }

-- the duties of a job

kept_making : (s : Standing) (job : ℕ) (x : Option DssAsk) → IsKept s.values job (making s job x)
kept_making s job None = kept_none s.values job
kept_making s job (Some ask) = kept_calling s.values job (dss_call job ask)

kept_asking : (s : Standing) (o : Opening) (kind : Awaited) → IsKept s.values o.job (asking s o kind)
kept_asking s o kind = kept_making s o.job (call_of s.owner s.book o kind)

kept_attempting : (s : Standing) (o : Opening) (alternative : ℕ) (key : List (List ℕ)) → IsKept s.values o.job (attempting s o alternative key)
kept_attempting s o alternative key = kept_asking (entered s (pending s o alternative key)) o Waits.Put

kept_ending : (s : Standing) (o : Opening) (end : Ending) → IsKept s.values o.job (ending s o end)
kept_ending s o end = kept_without s.values o.job

kept_holding : (s : Standing) (o : Opening) (owed : List Subscriber) (r : Reference) (t : Option ℕ) (v : Option (List ℕ)) → IsKept s.values o.job (holding_as s o owed r t v)
kept_holding s o owed r None v = kept_none s.values o.job
kept_holding s o owed r (Some t) None = kept_none s.values o.job
kept_holding s o owed r (Some t) (Some v) = kept_without s.values o.job

kept_recording : (s : Standing) (o : Opening) (owed : List Subscriber) (x : Option Reference) → IsKept s.values o.job (recording s o owed x)
kept_recording s o owed None = kept_none s.values o.job
kept_recording s o owed (Some r) = kept_holding s o owed r (shown_tag r) r.ovn

kept_deciding : (s : Standing) (o : Opening) (end : Ending) → IsKept s.values o.job (deciding s o end)
kept_deciding s o end = kept_asking (entered s (Enters.Deciding (record { job = o.job; end = end }))) o Waits.TicketRemove

kept_giving_up : (s : Standing) (o : Opening) (end : Ending) (ts : List Trial) → IsKept s.values o.job (giving_up_after s o end ts)
kept_giving_up s o end [] = kept_ending s o end
kept_giving_up s o end (t ∷ ts) = kept_deciding s o end

kept_ending_as : (s : Standing) (o : Opening) (x : Option Closing) → IsKept s.values o.job (ending_as s o x)
kept_ending_as s o None = kept_none s.values o.job
kept_ending_as s o (Some d) = kept_ending s o d.end

kept_closing : (s : Standing) (o : Opening) (owed : List Subscriber) (wish : Wish) → IsKept s.values o.job (closing s o owed wish)
kept_closing s o owed (Put to priority rounds proposals) = kept_ending_as s o (decision_of o.job s.book)
kept_closing s o owed End = kept_ending s o (Ends.Ended owed)

kept_looking : (s : Standing) (o : Opening) (x : Option Reference) → IsKept s.values o.job (looking_at s o x)
kept_looking s o None = kept_none s.values o.job
kept_looking s o (Some r) =
    let round = asking_for r.flight (round_of o.job s.values) in
    kept_round s.values o.job round _ _ (kept_calling (in_round o.job round s.values) o.job (Goes.Peer (Calls.Details o.job r.flight r.manager r.base)))

kept_blocked : (s : Standing) (o : Opening) (rule : Verdict) (x : Option OperationalIntent) → IsKept s.values o.job (blocked_by s o rule x)
kept_blocked s o rule None = kept_none s.values o.job
kept_blocked s o rule (Some p) = kept_giving_up s o _ (trials_of o.job s.book)

kept_choosing_by : (s : Standing) (o : Opening) (pairs : List OperationalIntent) (c : Choice) → IsKept s.values o.job (choosing_by s o pairs c)
kept_choosing_by s o pairs (Chosen alternative) = kept_attempting s o alternative (key_of pairs)
kept_choosing_by s o pairs (Blocked place rule) = kept_blocked s o rule _

kept_choosing : (s : Standing) (o : Opening) → IsKept s.values o.job (choosing s o)
kept_choosing s o = kept_choosing_by s o (pairs_in s (round_of o.job s.values)) (choice_of s o (pairs_in s (round_of o.job s.values)))

kept_call : (s : Standing) (o : Opening) (kind : Awaited) → IsKept s.values o.job (call_made s o kind)
kept_call s o Waits.Details = kept_looking s o (next_unheard s.owner s.values.heard (round_of o.job s.values))
kept_call s o Waits.TicketPut = kept_asking s o Waits.TicketPut
kept_call s o Waits.Query = kept_asking s o Waits.Query
kept_call s o Waits.Put = kept_asking s o Waits.Put
kept_call s o Waits.Get = kept_asking s o Waits.Get
kept_call s o Waits.TicketRemove = kept_asking s o Waits.TicketRemove
kept_call s o Waits.Remove = kept_asking s o Waits.Remove

kept_on : (s : Standing) (o : Opening) (d : Duty) → IsKept s.values o.job (carry_on s o d)
kept_on s o (Duties.Call kind) = kept_call s o kind
kept_on s o Duties.Attempt = kept_attempting s o 0 []
kept_on s o _ = kept_none s.values o.job

kept_resuming : (s : Standing) (o : Opening) (x : Option Outgoing) → IsKept s.values o.job (resuming_by s o x)
kept_resuming s o None = kept_on s o (by_book (view_of s o))
kept_resuming s o (Some call) = kept_sending s.values o.job (call ∷ [])

kept_out : (s : Standing) (o : Opening) (reply : DssReply) (d : Duty) → IsKept s.values o.job (carry_out s o reply d)
kept_out s o reply Duties.OpenTicket = kept_asking (entered s (Enters.TicketOpen o.job)) o Waits.Query
kept_out s o reply Duties.Choose = kept_choosing s o
kept_out s o reply Duties.Hold = kept_recording s o (owed_by reply) (reference_by reply)
kept_out s o reply Duties.DecideStale = kept_deciding s o (Ends.Stale (missing_by reply))
kept_out s o reply Duties.Close = kept_closing s o (owed_by reply) o.ask.wish
kept_out s o reply Duties.Crowded = kept_without s.values o.job
kept_out s o reply Duties.Unsettled = kept_without s.values o.job
kept_out s o reply (Duties.DssRefused number) = kept_without s.values o.job
kept_out s o reply (Duties.Call kind) = kept_call s o kind
kept_out s o reply Duties.Attempt = kept_attempting s o 0 []
kept_out s o reply Duties.PeerRefused = kept_none s.values o.job

kept_out_peer : (s : Standing) (o : Opening) (call : PeerCall) (reply : PeerReply) (d : Duty) → IsKept s.values o.job (carry_out_peer s o call reply d)
kept_out_peer s o call reply Duties.Choose = kept_choosing s o
kept_out_peer s o call reply Duties.PeerRefused = kept_without s.values o.job
kept_out_peer s o call reply (Duties.Call kind) = kept_call s o kind
kept_out_peer s o call reply Duties.Attempt = kept_attempting s o 0 []
kept_out_peer s o call reply _ = kept_none s.values o.job

-- replies

kept_acting : (s : Standing) (o : Opening) (reply : DssReply) → IsKept s.values o.job (acting_on_dss (with_values s (round_by_dss s o reply)) o reply)
kept_acting s o (Replies.Found references) =
    let t = with_values s (round_by_dss s o (Replies.Found references)) in
    kept_round s.values o.job _ _ _ (kept_out t o (Replies.Found references) (on_reply (view_of t o) (heard_of_dss t o (Replies.Found references))))
kept_acting s o reply = kept_out (with_values s s.values) o reply _

kept_acting_peer : (s : Standing) (o : Opening) (call : PeerCall) (reply : PeerReply) → IsKept s.values o.job (acting_on_peer (with_values s (round_by_peer s o call reply)) o call reply)
kept_acting_peer s o (Calls.Details job flight manager base) Peers.Gone =
    let call = Calls.Details job flight manager base in
    let t = with_values s (round_by_peer s o call Peers.Gone) in
    kept_round s.values o.job _ _ _ (kept_out_peer t o call Peers.Gone (on_reply (view_of t o) (heard_of_peer t o Peers.Gone)))
kept_acting_peer s o call reply = kept_out_peer (with_values s s.values) o call reply _

kept_open : (s : Standing) (o : Opening) (reply : DssReply) (b : Bool) → IsKept s.values o.job (open_by_dss s o reply b)
kept_open s o reply true = kept_acting s o reply
kept_open s o reply false = kept_resuming s o (awaited_of o.job s.values)

kept_open_peer : (s : Standing) (o : Opening) (call : PeerCall) (reply : PeerReply) (b : Bool) → IsKept s.values o.job (open_by_peer s o call reply b)
kept_open_peer s o call reply true = kept_acting_peer s o call reply
kept_open_peer s o call reply false = kept_resuming s o (awaited_of o.job s.values)

kept_closed : (s : Standing) (o : Opening) (b : Bool) → IsKept s.values o.job (closed_by_dss s o b)
kept_closed s o true = kept_none s.values o.job
kept_closed s o false = kept_none s.values o.job

kept_closed_peer : (s : Standing) (o : Opening) (call : PeerCall) (b : Bool) → IsKept s.values o.job (closed_by_peer s o call b)
kept_closed_peer s o call true = kept_none s.values o.job
kept_closed_peer s o call false = kept_none s.values o.job

kept_of_job : (s : Standing) (o : Opening) (call : DssCall) (reply : DssReply) (b : Bool) → IsKept s.values o.job (of_job_by_dss s o call reply b)
kept_of_job s o call reply true = kept_closed s o (retires s o call.ask reply)
kept_of_job s o call reply false = kept_open s o reply _

kept_of_job_peer : (s : Standing) (o : Opening) (call : PeerCall) (reply : PeerReply) (b : Bool) → IsKept s.values o.job (of_job_by_peer s o call reply b)
kept_of_job_peer s o call reply true = kept_closed_peer s o call (is_sent_now s o call reply)
kept_of_job_peer s o call reply false = kept_open_peer s o call reply _

-- of some job
abbrev IsKeptBy : Values → Turn → Type 0
IsKeptBy v t = (job : ℕ) × IsKept v job t

kept_replied : (s : Standing) (call : DssCall) (reply : DssReply) (x : Option Opening) → IsKeptBy s.values (replied_to s call reply x)
kept_replied s call reply None = (call.job, kept_none s.values call.job)
kept_replied s call reply (Some o) = (o.job, kept_of_job s o call reply (is_closed o.job s.book))

kept_replied_peer : (s : Standing) (call : PeerCall) (reply : PeerReply) (x : Option Opening) → IsKeptBy s.values (replied_to_peer s call reply x)
kept_replied_peer s call reply None = (job_of_call call, kept_none s.values (job_of_call call))
kept_replied_peer s call reply (Some o) = (o.job, kept_of_job_peer s o call reply (is_closed o.job s.book))

-- requests

kept_refusing : (s : Standing) → (job : ℕ) × Kept s.values job [] s.values
kept_refusing s = (0, kept_none s.values 0)

kept_new : (s : Standing) (moment : ℤ) (ask : FlightAsk) (x : Option AskRefusal) → IsKeptBy s.values (new_by s moment ask x)
kept_new s moment ask (Some refusal) = kept_refusing s
kept_new s moment ask None =
    let t = entered s (opening_entry s.book moment ask) in
    let o = opening_for s moment ask in
    (o.job, kept_on t o (by_book (view_of t o)))

kept_for : (s : Standing) (o : Opening) (b : Bool) → IsKeptBy s.values (asked_for s o b)
kept_for s o true = (o.job, kept_none s.values o.job)
kept_for s o false = (o.job, kept_resuming s o (awaited_of o.job s.values))

kept_repeated : (s : Standing) (o : Opening) (x : Option AskField) → IsKeptBy s.values (repeated_by s o x)
kept_repeated s o (Some field) = kept_refusing s
kept_repeated s o None = kept_for s o (is_closed o.job s.book)

kept_after : (s : Standing) (moment : ℤ) (ask : FlightAsk) (x : Option Opening) → IsKeptBy s.values (asked_after s moment ask x)
kept_after s moment ask None = kept_new s moment ask (new_refusal s.book moment ask)
kept_after s moment ask (Some last) = at (nat_lt ask.number last.ask.number) (ask.number == last.ask.number)
  where
    at : (b c : Bool) → IsKeptBy s.values (cond b (refusing s (Refuses.OldNumber last.ask.number)) (cond c (repeated s last ask) (asked_anew s moment ask)))
    at true c = kept_refusing s
    at false true = kept_repeated s last _
    at false false = kept_new s moment ask (new_refusal s.book moment ask)

kept_asked : (s : Standing) (moment : ℤ) (ask : FlightAsk) (x : Option ℕ) → IsKeptBy s.values (asked_with s moment ask x)
kept_asked s moment ask (Some number) = kept_refusing s
kept_asked s moment ask None = kept_after s moment ask (last_of ask.flight s.book)

kept_cancelled_open : (s : Standing) (o : Opening) (b : Bool) → IsKept s.values o.job (cancelled_open s o b)
kept_cancelled_open s o true = kept_resuming s o (awaited_of o.job s.values)
kept_cancelled_open s o false = kept_giving_up s o Ends.Cancelled (trials_of o.job s.book)

kept_cancelled_job : (s : Standing) (o : Opening) (b : Bool) → IsKept s.values o.job (cancelled_job s o b)
kept_cancelled_job s o true = kept_none s.values o.job
kept_cancelled_job s o false = kept_cancelled_open s o _

kept_cancelled : (s : Standing) (number : ℕ) (x : Option Opening) → IsKeptBy s.values (cancelled_after s number x)
kept_cancelled s number None = kept_refusing s
kept_cancelled s number (Some last) = at (number == last.ask.number)
  where
    at : (b : Bool) → IsKeptBy s.values (cond b (cancelled_job s last (is_closed last.job s.book)) (refusing s (Refuses.NotAsked last.ask.number)))
    at true = (last.job, kept_cancelled_job s last (is_closed last.job s.book))
    at false = kept_refusing s

-- positions

-- this was counted too
record Moved (v : Values) (counted : List Counted) (sends : List Outgoing) (after : Values) : Type 0 where
  heard : after.heard ≡ v.heard
  positions : after.positions ≡ v.positions ++ counted
  jobs : (job : ℕ) × Advances v job sends after

abbrev IsMoved : Values → List Counted → Turn → Type 0
IsMoved v counted t = Moved v counted t.sends t.values

moved_not : (v : Values) (sends : List Outgoing) (after : Values) → (job : ℕ) × Kept v job sends after → Moved v [] sends after
moved_not v sends after k = record { heard = k.1.heard; positions = k.1.positions ∙ sym (append-nil v.positions); jobs = (k.0, k.1.advances) }

moved_with : (v : Values) (flight : ℕ) (sighting : Sighting) (t : Turn) (b : Bool) → IsKeptBy v t
    → Moved v (cond b [] (record { flight = flight; sighting = sighting } ∷ [])) t.sends (counted_unless b flight sighting t.values)
unfolding progress_of
moved_with v flight sighting t true k = moved_not v t.sends t.values k
moved_with v flight sighting t false k =
    record {
      heard = k.1.heard;
      positions = ap (λ l. l ++ record { flight = flight; sighting = sighting } ∷ []) k.1.positions;
      jobs = (k.0, record { others = k.1.advances.others; waits = k.1.advances.waits });
    }

kept_acting_as : (s : Standing) (moment : ℤ) (p : PositionAsk) (found : Conform) (x : Option Wish) → IsKeptBy s.values (acting_as s moment p found x)
kept_acting_as s moment p found None = (0, kept_none s.values 0)
kept_acting_as s moment p found (Some wish) = kept_asked s moment _ (plan_refusal wish)

-- what is counted, by whether the position resumes a job
abbrev count_for : PositionAsk → ℤ → OperationalIntent → Option Opening → Said → List Counted
count_for p moment pair x said = counted_position (is_some x || is_refused said) p moment pair

same_count : (p : PositionAsk) (moment : ℤ) (pair : OperationalIntent) (b : Bool) → cond b [] (record { flight = p.flight; sighting = sighting_of pair p moment } ∷ []) ≡ counted_position b p moment pair
same_count p moment pair true = refl
same_count p moment pair false = refl

moved_unless : (s : Standing) (moment : ℤ) (p : PositionAsk) (pair : OperationalIntent) (x : Option ℤ) → IsMoved s.values (count_for p moment pair None (judged_unless s moment p pair x).said) (judged_unless s moment p pair x)
moved_unless s moment p pair (Some last) = moved_not s.values _ _ (kept_refusing s)
moved_unless s moment p pair None =
    let found = found_with (sightings_of p.flight s.values) (sighting_of pair p moment) in
    let t = judged_as s moment p pair found in
    subst (λ l. Moved s.values l t.sends (counted_unless (is_refused t.said) p.flight (sighting_of pair p moment) t.values)) (same_count p moment pair (is_refused t.said))
    (moved_with s.values p.flight (sighting_of pair p moment) t (is_refused t.said) (kept_acting_as s moment p found (wished pair p pair.reference.state found)))

moved_for : (s : Standing) (moment : ℤ) (p : PositionAsk) (pair : OperationalIntent) (x : Option Opening) → IsMoved s.values (count_for p moment pair x (positioned_for s moment p pair x).said) (positioned_for s moment p pair x)
moved_for s moment p pair (Some o) = moved_not s.values _ _ (o.job, kept_resuming s o (awaited_of o.job s.values))
moved_for s moment p pair None = moved_unless s moment p pair (later_position (sightings_of p.flight s.values) moment)

moved_positioned : (s : Standing) (moment : ℤ) (p : PositionAsk) (x : Option OperationalIntent) → IsMoved s.values (counted_by s.book p moment (positioned_with s moment p x).said x) (positioned_with s moment p x)
moved_positioned s moment p None = moved_not s.values _ _ (kept_refusing s)
moved_positioned s moment p (Some pair) = moved_for s moment p pair (is_numbered p.number (open_job_of p.flight s.book))

-- each event

moved : (s : Standing) (event : Event) (moment : ℤ) (t : Turn) → news_of event ≡ [] → IsMoved s.values (counted_of s.book event moment t.said) t → Changes s.book s.values moment event t
moved s event moment t e m =
    record { heard = m.heard ∙ sym (append-nil s.values.heard) ∙ ap (λ l. s.values.heard ++ l) (sym e); positions = m.positions; jobs = m.jobs }

-- what is heard changes nothing else
hearing_more : (v : Values) (news : List News) (sends : List Outgoing) (after : Values) (job : ℕ) → Kept (hearing news v) job sends after → Advances v job sends after
unfolding progress_of
hearing_more v news sends after job k = record { others = k.advances.others; waits = k.advances.waits }

kept_notified : (s : Standing) (moment : ℤ) (client : List ℕ) (note : Note) (b : Bool) → is_of_another client note.pair ≡ b → Changes s.book s.values moment (Comes.Notified client note) (notified_by s note b)
kept_notified s moment client note true e =
    moved s (Comes.Notified client note) moment (notified_by s note true) (ap (λ b. cond b [] (by_pair note.flight note.pair)) e) (moved_not s.values _ _ (0, kept_none s.values 0))
kept_notified s moment client note false e =
    let news = by_pair note.flight note.pair in
    let t = notified_by s note false in
    record {
      heard = ap (λ b. s.values.heard ++ cond b [] news) (sym e);
      positions = sym (append-nil s.values.positions);
      jobs = (0, hearing_more s.values news t.sends t.values 0 (kept_none (hearing news s.values) 0));
    }

kept_by_peer : (s : Standing) (moment : ℤ) (call : PeerCall) (reply : PeerReply) → Changes s.book s.values moment (Comes.Peer call reply) (replied_to_peer (hearing_it s call reply) call reply (opening_of (job_of_call call) s.book))
kept_by_peer s moment call reply =
    let k = kept_replied_peer (hearing_it s call reply) call reply (opening_of (job_of_call call) s.book) in
    record { heard = k.1.heard; positions = k.1.positions ∙ sym (append-nil s.values.positions); jobs = (k.0, hearing_more s.values (heard_by call reply) _ _ k.0 k.1) }

pub changes : (s : Standing) (moment : ℤ) (event : Event) → Changes s.book s.values moment event (stepped s moment event)
changes s moment (Comes.Ask ask) = moved s (Comes.Ask ask) moment _ refl (moved_not s.values _ _ (kept_asked s moment ask (plan_refusal ask.wish)))
changes s moment (Comes.Cancel flight number) = moved s (Comes.Cancel flight number) moment _ refl (moved_not s.values _ _ (kept_cancelled s number (last_of flight s.book)))
changes s moment (Comes.Position p) = moved s (Comes.Position p) moment _ refl (moved_positioned s moment p (held p.flight s.book))
changes s moment (Comes.Sweep skip) = moved s (Comes.Sweep skip) moment _ refl (moved_not s.values _ _ (0, kept_sending s.values 0 _))
changes s moment (Comes.Dss call reply) = moved s (Comes.Dss call reply) moment _ refl (moved_not s.values _ _ (kept_replied s call reply (opening_of call.job s.book)))
changes s moment (Comes.Peer call reply) = kept_by_peer s moment call reply
changes s moment (Comes.Failed job) = moved s (Comes.Failed job) moment _ refl (moved_not s.values _ _ (job, kept_unawaited s.values job))
changes s moment (Comes.Details client flight) = moved s (Comes.Details client flight) moment _ refl (moved_not s.values _ _ (0, kept_none s.values 0))
changes s moment (Comes.Notified client note) = kept_notified s moment client note (is_of_another client note.pair) refl

pub steps_change_so : StepsChangeSo
steps_change_so owner book values moment event = changes (record { owner = owner; book = book; values = values }) (clamped moment) event
