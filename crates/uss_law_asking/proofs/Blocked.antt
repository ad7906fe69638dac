-- Which steps come to a conflict: those whose choice is blocked, and those that end as was decided before.
use Rattle.std.proofs.Common.{ℕ, ◌≡◌, ◌⊎◌, inl, inr, Bool, true, false, cond, nat_lt, List, [], ◌∷◌, slice_get, length, refl, subst, Option, Some, None}
use Rattle.uss_vol4.specs.Volume.{Volume4D}
use Rattle.uss_intent.specs.Refusals.{refusal_number}
use Rattle.uss_intent.specs.declared.records.State.{State}
use Rattle.uss_intent.specs.declared.records.Reference.{Reference}
use Rattle.uss_intent.specs.declared.records.Subscriber.{Subscriber}
use Rattle.uss_intent.specs.declared.calls.DssAsk.{DssAsk}
use Rattle.uss_intent.specs.declared.calls.DssAsk.TheVariants as Asks
use Rattle.uss_intent.specs.declared.calls.DssReply.{DssReply}
use Rattle.uss_intent.specs.declared.calls.DssReply.TheVariants as Replies
use Rattle.uss_intent.specs.declared.calls.DssRefusal.{DssRefusal}
use Rattle.uss_intent.specs.declared.calls.DssRefusal.TheVariants as Refuses
use Rattle.uss_event.specs.Fits.{peer_fits}
use Rattle.uss_event.specs.Pairs.{OperationalIntent}
use Rattle.uss_event.specs.declared.rules.Verdict.{Verdict}
use Rattle.uss_event.specs.declared.asks.Wish.{Wish}
use Rattle.uss_event.specs.declared.asks.Wish.TheVariants.{Put, End}
use Rattle.uss_event.specs.declared.entries.Entry.{Entry}
use Rattle.uss_event.specs.declared.entries.Entry.TheVariants as Enters
use Rattle.uss_event.specs.declared.entries.Ending.{Ending}
use Rattle.uss_event.specs.declared.entries.Ending.TheVariants as Ends
use Rattle.uss_event.specs.declared.calls.PeerCall.{PeerCall}
use Rattle.uss_event.specs.declared.calls.PeerCall.TheVariants as Calls
use Rattle.uss_event.specs.declared.calls.PeerReply.{PeerReply}
use Rattle.uss_event.specs.declared.calls.Outgoing.{Outgoing}
use Rattle.uss_event.specs.declared.calls.PeerReply.TheVariants as Peers
use Rattle.uss_plan.specs.declared.choice.Choice.{Choice}
use Rattle.uss_plan.specs.declared.choice.Choice.TheVariants.{Chosen, Blocked}
use Rattle.uss_law_dss.specs.Fits.{fits}
use Rattle.uss_law_dss.proofs.Tests.{some_same}
use Rattle.uss_event.specs.declared.entries.Opening.{Opening}
use Rattle.uss_event.specs.declared.entries.Trial.{Trial}
use Rattle.uss_event.specs.declared.entries.Closing.{Closing}
use Rattle.uss_law_book.specs.Contents.{trials_of, decision_of}
use Rattle.uss_law_duty.specs.Answers.{flight_of}
use Rattle.uss_law_duty.specs.Sayings.{others}
use Rattle.uss_law_duty.specs.Entered.{shown_tag}
use Rattle.uss_law_supplier.specs.declared.duties.Awaited.{Awaited}
use Rattle.uss_law_supplier.specs.declared.duties.Awaited.TheVariants as Waits
use Rattle.uss_law_supplier.specs.declared.duties.Duty.{Duty}
use Rattle.uss_law_supplier.specs.declared.duties.Duty.TheVariants as Duties
use Rattle.uss_law_supplier.specs.Values.{awaited_of, round_of}
use Rattle.uss_law_supplier.specs.Table.{by_book, next_or_choice, on_found, on_got, on_put_refused, on_heard}
use Rattle.uss_law_supplier.specs.Calls.{call_of, kind_of_ask}
use Rattle.uss_law_supplier.specs.Turns.{Standing, Turn}
use Rattle.uss_law_supplier.specs.Airspace.{next_unheard, is_left, choice_of, pairs_in}
use Rattle.uss_law_supplier.specs.Jobs.{keeps_key, view_of, heard_of_dss, heard_of_peer, owns_tag, making, asking, holding_as, giving_up_after, giving_up, ending_as, closing, looking_at, looking, blocked_by, choosing_by, choosing, call_made, carry_on, resuming_by, resuming, carry_out, carry_out_peer}
use Rattle.uss_law_asking.specs.Causes.{IsBlockedBy}

-- the entry says that a plan is in conflict

abbrev pub is_conflict : Ending → Bool
is_conflict (Ends.Conflict flight manager rule) = true
is_conflict _ = false

abbrev pub is_in_conflict : Option Entry → Bool
is_in_conflict (Some (Enters.Deciding d)) = is_conflict d.end
is_in_conflict (Some (Enters.Done d)) = is_conflict d.end
is_in_conflict _ = false

abbrev pub IsFree : Turn → Type 0
IsFree t = is_in_conflict t.entry ≡ false

-- the choice is blocked, and the job decides so or ends
pub record ByChoice (s : Standing) (o : Opening) (t : Turn) : Type 0 where
  pub flight : ℕ
  pub manager : List ℕ
  pub rule : Verdict
  pub blocked : IsBlockedBy s o flight manager rule
  pub enters : (t.entry ≡ Some (Enters.Deciding (record { job = o.job; end = Ends.Conflict flight manager rule }))) ⊎ (t.entry ≡ Some (Enters.Done (record { job = o.job; end = Ends.Conflict flight manager rule })))

-- it ends as it decided
abbrev pub ByDecision : Standing → Opening → Turn → Type 0
ByDecision s o t = (d : Closing) × (decision_of o.job s.book ≡ Some d) × (t.entry ≡ Some (Enters.Done (record { job = o.job; end = d.end })))

pub data Conflicts (s : Standing) (o : Opening) (t : Turn) : Type 0 where
  Free : (f : IsFree t) → Conflicts s o t
  Chooses : (c : ByChoice s o t) → Conflicts s o t
  Keeps : (d : ByDecision s o t) → Conflicts s o t

-- the parts

made_free : (s : Standing) (job : ℕ) (x : Option DssAsk) → IsFree (making s job x)
made_free s job None = refl
made_free s job (Some ask) = refl

pub asks_free : (s : Standing) (o : Opening) (kind : Awaited) → IsFree (asking s o kind)
asks_free s o kind = made_free s o.job (call_of s.owner s.book o kind)

gives_up_free_after : (s : Standing) (o : Opening) (ts : List Trial) → IsFree (giving_up_after s o Ends.Cancelled ts)
gives_up_free_after s o [] = refl
gives_up_free_after s o (t ∷ ts) = refl

pub cancels_free : (s : Standing) (o : Opening) → IsFree (giving_up s o Ends.Cancelled)
cancels_free s o = gives_up_free_after s o (trials_of o.job s.book)

gives_up_blocked : (s : Standing) (o : Opening) (flight : ℕ) (manager : List ℕ) (rule : Verdict) → IsBlockedBy s o flight manager rule → (ts : List Trial) → ByChoice s o (giving_up_after s o (Ends.Conflict flight manager rule) ts)
gives_up_blocked s o flight manager rule b [] = record { flight = flight; manager = manager; rule = rule; blocked = b; enters = inr refl }
gives_up_blocked s o flight manager rule b (t ∷ ts) = record { flight = flight; manager = manager; rule = rule; blocked = b; enters = inl refl }

chooses : (s : Standing) (o : Opening) → Conflicts s o (choosing s o)
chooses s o = at (choice_of s o (pairs_in s (round_of o.job s.values))) refl
  where
    by : (place : ℕ) (rule : Verdict) (x : Option OperationalIntent) → choice_of s o (pairs_in s (round_of o.job s.values)) ≡ Blocked place rule → slice_get (pairs_in s (round_of o.job s.values)) place ≡ x → Conflicts s o (blocked_by s o rule x)
    by place rule None e q = Free refl
    by place rule (Some p) e q =
        Chooses (gives_up_blocked s o p.reference.flight p.reference.manager rule (record { place = place; pair = p; blocked = e; at = q; flight_is = refl; manager_is = refl }) (trials_of o.job s.book))

    at : (c : Choice) → choice_of s o (pairs_in s (round_of o.job s.values)) ≡ c → Conflicts s o (choosing_by s o (pairs_in s (round_of o.job s.values)) c)
    at (Chosen alternative) e = Free refl
    at (Blocked place rule) e = by place rule (slice_get (pairs_in s (round_of o.job s.values)) place) e refl

looks_free : (s : Standing) (o : Opening) → IsFree (looking s o)
looks_free s o = go (next_unheard s.owner s.values.heard (round_of o.job s.values))
  where
    go : (x : Option Reference) → IsFree (looking_at s o x)
    go None = refl
    go (Some r) = refl

holds_free : (s : Standing) (o : Opening) (owed : List Subscriber) (r : Reference) (tag : Option ℕ) (ovn : Option (List ℕ)) → IsFree (holding_as s o owed r tag ovn)
holds_free s o owed r (Some tag) (Some ovn) = refl
holds_free s o owed r None ovn = refl
holds_free s o owed r (Some tag) None = refl

closes : (s : Standing) (o : Opening) (owed : List Subscriber) (wish : Wish) → Conflicts s o (closing s o owed wish)
closes s o owed (Put to priority rounds proposals) = go (decision_of o.job s.book) refl
  where
    go : (x : Option Closing) → decision_of o.job s.book ≡ x → Conflicts s o (ending_as s o x)
    go None e = Free refl
    go (Some d) e = Keeps (d, e, refl)
closes s o owed End = Free refl

next_one : (s : Standing) (o : Opening) (reply : DssReply) (b : Bool) → Conflicts s o (carry_out s o reply (next_or_choice b))
next_one s o reply true = Free (looks_free s o)
next_one s o reply false = chooses s o

next_by_peer : (s : Standing) (o : Opening) (call : PeerCall) (reply : PeerReply) (b : Bool) → Conflicts s o (carry_out_peer s o call reply (next_or_choice b))
next_by_peer s o call reply true = Free (looks_free s o)
next_by_peer s o call reply false = chooses s o

-- a job that goes on by its book

calls_free : (s : Standing) (o : Opening) (kind : Awaited) → IsFree (call_made s o kind)
calls_free s o Waits.TicketPut = asks_free s o Waits.TicketPut
calls_free s o Waits.Query = asks_free s o Waits.Query
calls_free s o Waits.Details = looks_free s o
calls_free s o Waits.Put = asks_free s o Waits.Put
calls_free s o Waits.Get = asks_free s o Waits.Get
calls_free s o Waits.TicketRemove = asks_free s o Waits.TicketRemove
calls_free s o Waits.Remove = asks_free s o Waits.Remove

carries_free : (s : Standing) (o : Opening) (d : Duty) → IsFree (carry_on s o d)
carries_free s o (Duties.Call kind) = calls_free s o kind
carries_free s o _ = refl

pub resumes_free : (s : Standing) (o : Opening) → IsFree (resuming s o)
resumes_free s o = go (awaited_of o.job s.values)
  where
    go : (x : Option Outgoing) → IsFree (resuming_by s o x)
    go None = carries_free s o (by_book (view_of s o))
    go (Some call) = refl

-- the reply of another supplier

pub conflicts_by_peer : (s : Standing) (o : Opening) (job flight : ℕ) (manager base : List ℕ) (reply : PeerReply) → peer_fits (Calls.Details job flight manager base) reply ≡ true
    → Conflicts s o (carry_out_peer s o (Calls.Details job flight manager base) reply (on_heard (view_of s o) Waits.Details (heard_of_peer s o reply)))
conflicts_by_peer s o job flight manager base (Peers.Served pair) fit = next_by_peer s o (Calls.Details job flight manager base) (Peers.Served pair) (is_left s.owner s.values.heard (round_of o.job s.values))
conflicts_by_peer s o job flight manager base Peers.Gone fit = next_by_peer s o (Calls.Details job flight manager base) Peers.Gone (is_left s.owner s.values.heard (round_of o.job s.values))
conflicts_by_peer s o job flight manager base Peers.Noted fit = cc
conflicts_by_peer s o job flight manager base (Peers.Status status) fit = Free refl

-- the reply of the discovery service

abbrev ConflictsSo : Standing → Opening → DssAsk → DssReply → Awaited → Type 0
ConflictsSo s o ask reply kind = fits ask reply ≡ true → Conflicts s o (carry_out s o reply (on_heard (view_of s o) kind (heard_of_dss s o reply)))

by_ticket_put : (s : Standing) (o : Opening) (ticket : ℕ) (area : Volume4D) (base : List ℕ) (reply : DssReply) → ConflictsSo s o (Asks.TicketPut ticket area base) reply Waits.TicketPut
by_ticket_put s o ticket area base (Replies.TicketMade t) fit = Free refl
by_ticket_put s o ticket area base (Replies.Refused Refuses.Exists) fit = Free refl
by_ticket_put s o ticket area base (Replies.Refused refusal) fit = Free refl
by_ticket_put s o ticket area base reply fit = let f = fit in cc

by_query : (s : Standing) (o : Opening) (area : Volume4D) (reply : DssReply) → ConflictsSo s o (Asks.Query area) reply Waits.Query
unfolding view_of
by_query s o area (Replies.Found rs) fit = at_key (keeps_key o.ask.wish)
  where
    count : ℕ
    count = length (others (flight_of s.owner o) rs)

    at_crowd : (x : Bool) → Conflicts s o (carry_out s o (Replies.Found rs) (cond x Duties.Crowded (next_or_choice (is_left s.owner s.values.heard (round_of o.job s.values)))))
    at_crowd true = Free refl
    at_crowd false = next_one s o (Replies.Found rs) (is_left s.owner s.values.heard (round_of o.job s.values))

    at_key : (x : Bool) → Conflicts s o (carry_out s o (Replies.Found rs) (on_found x count (is_left s.owner s.values.heard (round_of o.job s.values))))
    at_key true = at_crowd (nat_lt 1024 count)
    at_key false = Free refl
by_query s o area reply fit = let f = fit in cc

lacks_free : (s : Standing) (o : Opening) (rs : List Reference) (b : Bool) → IsFree (carry_out s o (Replies.Refused (Refuses.MissingKey rs)) (cond b (Duties.Call Waits.Query) Duties.DecideStale))
lacks_free s o rs true = asks_free s o Waits.Query
lacks_free s o rs false = refl

refused_put : (s : Standing) (o : Opening) (refusal : DssRefusal) (keyed : Bool) → IsFree (carry_out s o (Replies.Refused refusal) (on_put_refused (record (view_of s o) { keyed = keyed }) (refusal_number refusal)))
refused_put s o (Refuses.MissingKey rs) true = lacks_free s o rs (nat_lt (view_of s o).attempts (view_of s o).rounds)
refused_put s o (Refuses.MissingKey rs) false = refl
refused_put s o Refuses.Exists keyed = asks_free s o Waits.Get
refused_put s o Refuses.StaleOvn keyed = asks_free s o Waits.Get
refused_put s o refusal keyed = refl

by_put : (s : Standing) (o : Opening) (flight : ℕ) (ovn : Option (List ℕ)) (extents : List Volume4D) (key : List (List ℕ)) (state : State) (base : List ℕ) (ticket : ℕ) (reply : DssReply)
    → ConflictsSo s o (Asks.Put flight ovn extents key state base ticket) reply Waits.Put
unfolding view_of
by_put s o flight ovn extents key state base ticket (Replies.Landed r subscribers) fit = Free (holds_free s o subscribers r (shown_tag r) r.ovn)
by_put s o flight ovn extents key state base ticket (Replies.Refused refusal) fit = Free (refused_put s o refusal (keeps_key o.ask.wish))
by_put s o flight ovn extents key state base ticket reply fit = let f = fit in cc

by_get : (s : Standing) (o : Opening) (flight : ℕ) (reply : DssReply) → ConflictsSo s o (Asks.Get flight) reply Waits.Get
by_get s o flight (Replies.Got r) fit = Free (go (owns_tag o.job s.book (shown_tag r)))
  where
    go : (x : Bool) → IsFree (carry_out s o (Replies.Got r) (on_got x))
    go true = holds_free s o [] r (shown_tag r) r.ovn
    go false = refl
by_get s o flight (Replies.Refused refusal) fit = Free refl
by_get s o flight reply fit = let f = fit in cc

by_ticket_remove : (s : Standing) (o : Opening) (ticket version : ℕ) (reply : DssReply) → ConflictsSo s o (Asks.TicketRemove ticket version) reply Waits.TicketRemove
by_ticket_remove s o ticket version (Replies.TicketRemoved t) fit = closes s o [] o.ask.wish
by_ticket_remove s o ticket version (Replies.Refused Refuses.Retired) fit = closes s o [] o.ask.wish
by_ticket_remove s o ticket version (Replies.Refused Refuses.TicketInUse) fit = Free (asks_free s o Waits.Get)
by_ticket_remove s o ticket version (Replies.Refused refusal) fit = Free refl
by_ticket_remove s o ticket version reply fit = let f = fit in cc

by_remove : (s : Standing) (o : Opening) (flight : ℕ) (ovn : List ℕ) (reply : DssReply) → ConflictsSo s o (Asks.Remove flight ovn) reply Waits.Remove
by_remove s o flight ovn (Replies.Removed r subscribers) fit = closes s o subscribers o.ask.wish
by_remove s o flight ovn (Replies.Refused Refuses.Retired) fit = closes s o [] o.ask.wish
by_remove s o flight ovn (Replies.Refused refusal) fit = Free refl
by_remove s o flight ovn reply fit = let f = fit in cc

the_kind : (s : Standing) (o : Opening) (ask : DssAsk) (reply : DssReply) (kind other : Awaited) → Some other ≡ Some kind → ConflictsSo s o ask reply other → ConflictsSo s o ask reply kind
the_kind s o ask reply kind other e a = subst (λ x. ConflictsSo s o ask reply x) (some_same other kind e) a

pub conflicts_by_dss : (s : Standing) (o : Opening) (ask : DssAsk) (reply : DssReply) (kind : Awaited) → kind_of_ask ask ≡ Some kind → ConflictsSo s o ask reply kind
conflicts_by_dss s o (Asks.Query area) reply kind e = the_kind s o (Asks.Query area) reply kind Waits.Query e (by_query s o area reply)
conflicts_by_dss s o (Asks.Get flight) reply kind e = the_kind s o (Asks.Get flight) reply kind Waits.Get e (by_get s o flight reply)
conflicts_by_dss s o (Asks.Put flight ovn extents key state base ticket) reply kind e = the_kind s o (Asks.Put flight ovn extents key state base ticket) reply kind Waits.Put e (by_put s o flight ovn extents key state base ticket reply)
conflicts_by_dss s o (Asks.Remove flight ovn) reply kind e = the_kind s o (Asks.Remove flight ovn) reply kind Waits.Remove e (by_remove s o flight ovn reply)
conflicts_by_dss s o (Asks.TicketPut ticket area base) reply kind e = the_kind s o (Asks.TicketPut ticket area base) reply kind Waits.TicketPut e (by_ticket_put s o ticket area base reply)
conflicts_by_dss s o (Asks.TicketGet ticket) reply kind e = cc
conflicts_by_dss s o (Asks.TicketRemove ticket version) reply kind e = the_kind s o (Asks.TicketRemove ticket version) reply kind Waits.TicketRemove e (by_ticket_remove s o ticket version reply)
