-- A refusal changes nothing.
use Rattle.std.proofs.Common.{ℕ, ℤ, ◌==◌, Bool, true, false, cond, nat_lt, List, [], ◌∷◌, ◌++◌, ◌≡◌, refl, ap, sym, ◌∙◌, Option, Some, None}
use Rattle.uss_intent.specs.declared.records.Reference.{Reference}
use Rattle.uss_intent.specs.declared.records.Subscriber.{Subscriber}
use Rattle.uss_intent.specs.declared.calls.DssAsk.{DssAsk}
use Rattle.uss_intent.specs.declared.calls.DssReply.{DssReply}
use Rattle.uss_law_duty.specs.Duties.{clamped}
use Rattle.uss_event.specs.Pairs.{OperationalIntent}
use Rattle.uss_event.specs.declared.rules.Verdict.{Verdict}
use Rattle.uss_event.specs.declared.asks.Wish.{Wish}
use Rattle.uss_event.specs.declared.asks.Wish.TheVariants.{Put, End}
use Rattle.uss_event.specs.declared.asks.Conform.{Conform}
use Rattle.uss_event.specs.declared.asks.AskField.{AskField}
use Rattle.uss_event.specs.declared.asks.AskRefusal.{AskRefusal}
use Rattle.uss_event.specs.declared.asks.AskRefusal.TheVariants as Refuses
use Rattle.uss_event.specs.declared.asks.FlightAsk.{FlightAsk}
use Rattle.uss_event.specs.declared.asks.PositionAsk.{PositionAsk}
use Rattle.uss_event.specs.declared.entries.Ending.{Ending}
use Rattle.uss_event.specs.declared.calls.Note.{Note}
use Rattle.uss_event.specs.declared.calls.DssCall.{DssCall}
use Rattle.uss_event.specs.declared.calls.PeerCall.{PeerCall}
use Rattle.uss_event.specs.declared.calls.PeerReply.{PeerReply}
use Rattle.uss_event.specs.declared.calls.Outgoing.{Outgoing}
use Rattle.uss_event.specs.declared.events.Answer.{Answer}
use Rattle.uss_event.specs.declared.events.Event.{Event}
use Rattle.uss_event.specs.declared.events.Event.TheVariants as Comes
use Rattle.uss_plan.specs.declared.choice.Choice.{Choice}
use Rattle.uss_plan.specs.declared.choice.Choice.TheVariants.{Chosen, Blocked}
use Rattle.uss_event.specs.declared.entries.Opening.{Opening}
use Rattle.uss_event.specs.declared.entries.Trial.{Trial}
use Rattle.uss_event.specs.declared.entries.Closing.{Closing}
use Rattle.uss_law_book.specs.Contents.{is_closed}
use Rattle.uss_law_supplier.specs.declared.duties.Awaited.{Awaited}
use Rattle.uss_law_supplier.specs.declared.duties.Awaited.TheVariants as Waits
use Rattle.uss_law_supplier.specs.declared.duties.Duty.{Duty}
use Rattle.uss_law_supplier.specs.declared.duties.Duty.TheVariants as Duties
use Rattle.uss_law_supplier.specs.Values.{round_of, sightings_of}
use Rattle.uss_law_supplier.specs.Turns.{Standing, Turn, said_of, entered}
use Rattle.uss_law_supplier.specs.Airspace.{pairs_in, key_of, choice_of}
use Rattle.uss_law_supplier.specs.Table.{by_book}
use Rattle.uss_law_supplier.specs.Calls.{call_of}
use Rattle.uss_law_supplier.specs.Jobs.{making, pending, attempting, holding_as, recording, deciding, giving_up_after, ending_as, closing, looking_at, blocked_by, choosing_by, call_made, carry_on, resuming_by, carry_out, carry_out_peer, open_by_dss, open_by_peer, view_of}
use Rattle.uss_law_supplier.specs.Asks.{opening_entry, opening_for, new_by, asked_anew, asked_for, repeated_by, repeated, asked_after, asked_with, refusing}
use Rattle.uss_law_supplier.specs.Cancels.{cancelled_open, cancelled_job, cancelled_after}
use Rattle.uss_law_supplier.specs.Monitor.{Sighting}
use Rattle.uss_law_supplier.specs.Positions.{sighting_of, found_with, wished, is_refused, counted_with, counted_unless, acting_as, judged_unless, positioned_for, positioned_with}
use Rattle.uss_law_supplier.specs.Replies.{closed_by_dss, closed_by_peer, of_job_by_dss, of_job_by_peer, replied_to, replied_to_peer}
use Rattle.uss_law_supplier.specs.Step.{notified_by, stepped}
use Rattle.uss_law_supplier.specs.Refusals.{RefusalsChangeNothing}

-- what is said is no refusal
abbrev IsQuiet : Turn → Type 0
IsQuiet t = is_refused t.said ≡ false

quiet_making : (s : Standing) (job : ℕ) (x : Option DssAsk) → IsQuiet (making s job x)
quiet_making s job None = refl
quiet_making s job (Some ask) = refl

quiet_attempting : (s : Standing) (o : Opening) (alternative : ℕ) (key : List (List ℕ)) → IsQuiet (attempting s o alternative key)
quiet_attempting s o alternative key =
    quiet_making (entered s (pending s o alternative key)) o.job (call_of s.owner (s.book ++ pending s o alternative key ∷ []) o Waits.Put)

quiet_deciding : (s : Standing) (o : Opening) (end : Ending) → IsQuiet (deciding s o end)
quiet_deciding s o end = refl

quiet_said : (x : Option Answer) → is_refused (said_of x) ≡ false
quiet_said None = refl
quiet_said (Some a) = refl

quiet_holding : (s : Standing) (o : Opening) (owed : List Subscriber) (r : Reference) (t : Option ℕ) (v : Option (List ℕ)) → IsQuiet (holding_as s o owed r t v)
quiet_holding s o owed r None v = refl
quiet_holding s o owed r (Some t) None = refl
quiet_holding s o owed r (Some t) (Some v) = quiet_said _

quiet_recording : (s : Standing) (o : Opening) (owed : List Subscriber) (x : Option Reference) → IsQuiet (recording s o owed x)
quiet_recording s o owed None = refl
quiet_recording s o owed (Some r) = quiet_holding s o owed r _ _

quiet_giving_up : (s : Standing) (o : Opening) (end : Ending) (ts : List Trial) → IsQuiet (giving_up_after s o end ts)
quiet_giving_up s o end [] = quiet_said _
quiet_giving_up s o end (t ∷ ts) = quiet_deciding s o end

quiet_ending : (s : Standing) (o : Opening) (x : Option Closing) → IsQuiet (ending_as s o x)
quiet_ending s o None = refl
quiet_ending s o (Some d) = quiet_said _

quiet_closing : (s : Standing) (o : Opening) (owed : List Subscriber) (wish : Wish) → IsQuiet (closing s o owed wish)
quiet_closing s o owed (Put to priority rounds proposals) = quiet_ending s o _
quiet_closing s o owed End = quiet_said _

quiet_looking : (s : Standing) (o : Opening) (x : Option Reference) → IsQuiet (looking_at s o x)
quiet_looking s o None = refl
quiet_looking s o (Some r) = refl

quiet_blocked : (s : Standing) (o : Opening) (rule : Verdict) (x : Option OperationalIntent) → IsQuiet (blocked_by s o rule x)
quiet_blocked s o rule None = refl
quiet_blocked s o rule (Some p) = quiet_giving_up s o _ _

quiet_choosing : (s : Standing) (o : Opening) (pairs : List OperationalIntent) (c : Choice) → IsQuiet (choosing_by s o pairs c)
quiet_choosing s o pairs (Chosen alternative) = quiet_attempting s o alternative (key_of pairs)
quiet_choosing s o pairs (Blocked place rule) = quiet_blocked s o rule _

quiet_call : (s : Standing) (o : Opening) (kind : Awaited) → IsQuiet (call_made s o kind)
quiet_call s o Waits.Details = quiet_looking s o _
quiet_call s o Waits.TicketPut = refl
quiet_call s o Waits.Query = refl
quiet_call s o Waits.Put = quiet_making s o.job (call_of s.owner s.book o Waits.Put)
quiet_call s o Waits.Get = refl
quiet_call s o Waits.TicketRemove = refl
quiet_call s o Waits.Remove = quiet_making s o.job (call_of s.owner s.book o Waits.Remove)

quiet_on : (s : Standing) (o : Opening) (d : Duty) → IsQuiet (carry_on s o d)
quiet_on s o (Duties.Call kind) = quiet_call s o kind
quiet_on s o Duties.Attempt = quiet_attempting s o 0 []
quiet_on s o _ = refl

quiet_resuming : (s : Standing) (o : Opening) (x : Option Outgoing) → IsQuiet (resuming_by s o x)
quiet_resuming s o None = quiet_on s o _
quiet_resuming s o (Some call) = refl

quiet_out : (s : Standing) (o : Opening) (reply : DssReply) (d : Duty) → IsQuiet (carry_out s o reply d)
quiet_out s o reply Duties.OpenTicket = refl
quiet_out s o reply Duties.Choose = quiet_choosing s o (pairs_in s (round_of o.job s.values)) (choice_of s o (pairs_in s (round_of o.job s.values)))
quiet_out s o reply Duties.Hold = quiet_recording s o _ _
quiet_out s o reply Duties.DecideStale = refl
quiet_out s o reply Duties.Close = quiet_closing s o _ _
quiet_out s o reply (Duties.Call kind) = quiet_call s o kind
quiet_out s o reply Duties.Attempt = quiet_attempting s o 0 []
quiet_out s o reply _ = refl

quiet_out_peer : (s : Standing) (o : Opening) (call : PeerCall) (reply : PeerReply) (d : Duty) → IsQuiet (carry_out_peer s o call reply d)
quiet_out_peer s o call reply Duties.Choose = quiet_choosing s o (pairs_in s (round_of o.job s.values)) (choice_of s o (pairs_in s (round_of o.job s.values)))
quiet_out_peer s o call reply (Duties.Call kind) = quiet_call s o kind
quiet_out_peer s o call reply Duties.Attempt = quiet_attempting s o 0 []
quiet_out_peer s o call reply _ = refl

quiet_open : (s : Standing) (o : Opening) (reply : DssReply) (b : Bool) → IsQuiet (open_by_dss s o reply b)
quiet_open s o reply true = quiet_out _ o reply _
quiet_open s o reply false = quiet_resuming s o _

quiet_open_peer : (s : Standing) (o : Opening) (call : PeerCall) (reply : PeerReply) (b : Bool) → IsQuiet (open_by_peer s o call reply b)
quiet_open_peer s o call reply true = quiet_out_peer _ o call reply _
quiet_open_peer s o call reply false = quiet_resuming s o _

quiet_closed : (s : Standing) (o : Opening) (b : Bool) → IsQuiet (closed_by_dss s o b)
quiet_closed s o true = refl
quiet_closed s o false = quiet_said _

quiet_closed_peer : (s : Standing) (o : Opening) (call : PeerCall) (b : Bool) → IsQuiet (closed_by_peer s o call b)
quiet_closed_peer s o call true = refl
quiet_closed_peer s o call false = quiet_said _

quiet_of_job : (s : Standing) (o : Opening) (call : DssCall) (reply : DssReply) (b : Bool) → IsQuiet (of_job_by_dss s o call reply b)
quiet_of_job s o call reply true = quiet_closed s o _
quiet_of_job s o call reply false = quiet_open s o reply _

quiet_of_job_peer : (s : Standing) (o : Opening) (call : PeerCall) (reply : PeerReply) (b : Bool) → IsQuiet (of_job_by_peer s o call reply b)
quiet_of_job_peer s o call reply true = quiet_closed_peer s o call _
quiet_of_job_peer s o call reply false = quiet_open_peer s o call reply _

quiet_replied : (s : Standing) (call : DssCall) (reply : DssReply) (x : Option Opening) → IsQuiet (replied_to s call reply x)
quiet_replied s call reply None = refl
quiet_replied s call reply (Some o) = quiet_of_job s o call reply _

quiet_replied_peer : (s : Standing) (call : PeerCall) (reply : PeerReply) (x : Option Opening) → IsQuiet (replied_to_peer s call reply x)
quiet_replied_peer s call reply None = refl
quiet_replied_peer s call reply (Some o) = quiet_of_job_peer s o call reply _

-- a refusal leaves all as it was
pub record Leaves (s : Standing) (t : Turn) : Type 0 where
  pub entry : t.entry ≡ None
  pub sends : t.sends ≡ []
  pub values_are : t.values ≡ s.values

abbrev IsIdle : Standing → Turn → Type 0
IsIdle s t = is_refused t.said ≡ true → Leaves s t

idle_quiet : (s : Standing) (t : Turn) → IsQuiet t → IsIdle s t
idle_quiet s t q h = let f : true ≡ false = sym h ∙ q in cc

idle_refusing : (s : Standing) (r : AskRefusal) → IsIdle s (refusing s r)
idle_refusing s r h = record { entry = refl; sends = refl; values_are = refl }

idle_new : (s : Standing) (moment : ℤ) (ask : FlightAsk) (x : Option AskRefusal) → IsIdle s (new_by s moment ask x)
idle_new s moment ask (Some r) = idle_refusing s r
idle_new s moment ask None =
    idle_quiet s (new_by s moment ask None) (quiet_on (entered s (opening_entry s.book moment ask)) (opening_for s moment ask) (by_book (view_of (entered s (opening_entry s.book moment ask)) (opening_for s moment ask))))

idle_for : (s : Standing) (o : Opening) (b : Bool) → IsIdle s (asked_for s o b)
idle_for s o true = idle_quiet s _ (quiet_said _)
idle_for s o false = idle_quiet s _ (quiet_resuming s o _)

idle_repeated : (s : Standing) (o : Opening) (x : Option AskField) → IsIdle s (repeated_by s o x)
idle_repeated s o (Some field) = idle_refusing s _
idle_repeated s o None = idle_for s o _

idle_after : (s : Standing) (moment : ℤ) (ask : FlightAsk) (x : Option Opening) → IsIdle s (asked_after s moment ask x)
idle_after s moment ask None = idle_new s moment ask _
idle_after s moment ask (Some last) = at (nat_lt ask.number last.ask.number) (ask.number == last.ask.number)
  where
    at : (b c : Bool) → IsIdle s (cond b (refusing s (Refuses.OldNumber last.ask.number)) (cond c (repeated s last ask) (asked_anew s moment ask)))
    at true c = idle_refusing s _
    at false true = idle_repeated s last _
    at false false = idle_new s moment ask _

idle_asked : (s : Standing) (moment : ℤ) (ask : FlightAsk) (x : Option ℕ) → IsIdle s (asked_with s moment ask x)
idle_asked s moment ask (Some number) = idle_refusing s _
idle_asked s moment ask None = idle_after s moment ask _

idle_open : (s : Standing) (o : Opening) (b : Bool) → IsIdle s (cancelled_open s o b)
idle_open s o true = idle_quiet s _ (quiet_resuming s o _)
idle_open s o false = idle_quiet s _ (quiet_giving_up s o _ _)

idle_job : (s : Standing) (o : Opening) (b : Bool) → IsIdle s (cancelled_job s o b)
idle_job s o true = idle_quiet s _ (quiet_said _)
idle_job s o false = idle_open s o _

idle_cancelled : (s : Standing) (number : ℕ) (x : Option Opening) → IsIdle s (cancelled_after s number x)
idle_cancelled s number None = idle_refusing s _
idle_cancelled s number (Some last) = at (number == last.ask.number)
  where
    at : (b : Bool) → IsIdle s (cond b (cancelled_job s last (is_closed last.job s.book)) (refusing s (Refuses.NotAsked last.ask.number)))
    at true = idle_job s last _
    at false = idle_refusing s _

idle_acting : (s : Standing) (moment : ℤ) (p : PositionAsk) (found : Conform) (x : Option Wish) → IsIdle s (acting_as s moment p found x)
idle_acting s moment p found None = idle_quiet s _ refl
idle_acting s moment p found (Some wish) = idle_asked s moment _ _

-- a position that is refused isn't counted
idle_counted : (s : Standing) (flight : ℕ) (sighting : Sighting) (t : Turn) → IsIdle s t → IsIdle s (counted_with flight sighting t)
idle_counted s flight sighting t i h =
    let l = i h in
    record { entry = l.entry; sends = l.sends; values_are = ap (λ b. counted_unless b flight sighting t.values) h ∙ l.values_are }

idle_unless : (s : Standing) (moment : ℤ) (p : PositionAsk) (pair : OperationalIntent) (x : Option ℤ) → IsIdle s (judged_unless s moment p pair x)
idle_unless s moment p pair (Some last) = idle_refusing s _
idle_unless s moment p pair None =
    let found = found_with (sightings_of p.flight s.values) (sighting_of pair p moment) in
    let wish = wished pair p pair.reference.state found in
    idle_counted s p.flight (sighting_of pair p moment) (acting_as s moment p found wish) (idle_acting s moment p found wish)

idle_position : (s : Standing) (moment : ℤ) (p : PositionAsk) (pair : OperationalIntent) (x : Option Opening) → IsIdle s (positioned_for s moment p pair x)
idle_position s moment p pair (Some o) = idle_quiet s _ (quiet_resuming s o _)
idle_position s moment p pair None = idle_unless s moment p pair _

idle_positioned : (s : Standing) (moment : ℤ) (p : PositionAsk) (x : Option OperationalIntent) → IsIdle s (positioned_with s moment p x)
idle_positioned s moment p None = idle_refusing s _
idle_positioned s moment p (Some pair) = idle_position s moment p pair _

quiet_notified : (s : Standing) (note : Note) (b : Bool) → IsQuiet (notified_by s note b)
quiet_notified s note true = refl
quiet_notified s note false = refl

idle : (s : Standing) (moment : ℤ) (event : Event) → IsIdle s (stepped s moment event)
idle s moment (Comes.Ask ask) = idle_asked s moment ask _
idle s moment (Comes.Cancel flight number) = idle_cancelled s number _
idle s moment (Comes.Position p) = idle_positioned s moment p _
idle s moment (Comes.Sweep skip) = idle_quiet s _ refl
idle s moment (Comes.Dss call reply) = idle_quiet s _ (quiet_replied s call reply _)
idle s moment (Comes.Peer call reply) = idle_quiet s _ (quiet_replied_peer _ call reply _)
idle s moment (Comes.Failed job) = idle_quiet s _ refl
idle s moment (Comes.Details client flight) = idle_quiet s _ refl
idle s moment (Comes.Notified client note) = idle_quiet s _ (quiet_notified s note _)

pub refusals_change_nothing : RefusalsChangeNothing
refusals_change_nothing owner book values moment event refusal e =
    let l = idle (record { owner = owner; book = book; values = values }) (clamped moment) event (ap is_refused e) in
    record { entry = l.entry; sends = l.sends; values_are = l.values_are }
