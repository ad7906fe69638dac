-- Which steps decide that a plan is stale: those on a refusal for want of OVNs, with the flights that this names.
use Rattle.std.proofs.Common.{ℕ, ◌≡◌, ◌⊎◌, inl, inr, Bool, true, false, cond, nat_lt, List, [], ◌∷◌, slice_get, length, map, refl, subst, Option, Some, None}
use Rattle.uss_vol4.specs.Volume.{Volume4D}
use Rattle.uss_intent.specs.Refusals.{refusal_number}
use Rattle.uss_intent.specs.declared.records.State.{State}
use Rattle.uss_intent.specs.declared.records.Reference.{Reference}
use Rattle.uss_intent.specs.declared.records.Subscriber.{Subscriber}
use Rattle.uss_intent.specs.declared.calls.DssAsk.{DssAsk}
use Rattle.uss_intent.specs.declared.calls.DssAsk.TheVariants as Asks
use Rattle.uss_intent.specs.declared.calls.DssReply.{DssReply}
use Rattle.uss_intent.specs.declared.calls.DssReply.TheVariants as Replies
use Rattle.uss_intent.specs.declared.calls.DssRefusal.{DssRefusal}
use Rattle.uss_intent.specs.declared.calls.DssRefusal.TheVariants as Refuses
use Rattle.uss_event.specs.Fits.{peer_fits}
use Rattle.uss_event.specs.Pairs.{OperationalIntent}
use Rattle.uss_event.specs.declared.rules.Verdict.{Verdict}
use Rattle.uss_event.specs.declared.asks.Wish.{Wish}
use Rattle.uss_event.specs.declared.asks.Wish.TheVariants.{Put, End}
use Rattle.uss_event.specs.declared.entries.Entry.{Entry}
use Rattle.uss_event.specs.declared.entries.Entry.TheVariants as Enters
use Rattle.uss_event.specs.declared.entries.Ending.{Ending}
use Rattle.uss_event.specs.declared.entries.Ending.TheVariants as Ends
use Rattle.uss_event.specs.declared.calls.DssCall.{DssCall}
use Rattle.uss_event.specs.declared.calls.PeerCall.{PeerCall}
use Rattle.uss_event.specs.declared.calls.PeerCall.TheVariants as Calls
use Rattle.uss_event.specs.declared.calls.PeerReply.{PeerReply}
use Rattle.uss_event.specs.declared.calls.Outgoing.{Outgoing}
use Rattle.uss_event.specs.declared.calls.PeerReply.TheVariants as Peers
use Rattle.uss_plan.specs.declared.choice.Choice.{Choice}
use Rattle.uss_plan.specs.declared.choice.Choice.TheVariants.{Chosen, Blocked}
use Rattle.uss_law_dss.specs.Fits.{fits}
use Rattle.uss_law_dss.proofs.Tests.{some_same}
use Rattle.uss_event.specs.declared.entries.Opening.{Opening}
use Rattle.uss_event.specs.declared.entries.Trial.{Trial}
use Rattle.uss_event.specs.declared.entries.Closing.{Closing}
use Rattle.uss_law_book.specs.Contents.{trials_of, decision_of}
use Rattle.uss_law_duty.specs.Answers.{flight_of}
use Rattle.uss_law_duty.specs.Sayings.{others}
use Rattle.uss_law_duty.specs.Entered.{shown_tag}
use Rattle.uss_law_supplier.specs.declared.duties.Awaited.{Awaited}
use Rattle.uss_law_supplier.specs.declared.duties.Awaited.TheVariants as Waits
use Rattle.uss_law_supplier.specs.declared.duties.Duty.{Duty}
use Rattle.uss_law_supplier.specs.declared.duties.Duty.TheVariants as Duties
use Rattle.uss_law_supplier.specs.Values.{awaited_of, round_of}
use Rattle.uss_law_supplier.specs.Table.{by_book, next_or_choice, on_found, on_got, on_put_refused, on_heard}
use Rattle.uss_law_supplier.specs.Calls.{call_of, kind_of_ask}
use Rattle.uss_law_supplier.specs.Turns.{Standing, Turn}
use Rattle.uss_law_supplier.specs.Airspace.{next_unheard, is_left, choice_of, pairs_in}
use Rattle.uss_law_supplier.specs.Jobs.{keeps_key, view_of, heard_of_dss, heard_of_peer, owns_tag, making, asking, holding_as, deciding, giving_up_after, giving_up, ending_as, closing, looking_at, looking, blocked_by, choosing_by, choosing, call_made, carry_on, resuming_by, resuming, carry_out, carry_out_peer}
use Rattle.uss_law_asking.specs.Exchange.Exchanged.{OfDss}
use Rattle.uss_law_asking.specs.Causes.{missing_in}

abbrev is_stale : Ending → Bool
is_stale (Ends.Stale missing) = true
is_stale _ = false

-- the entry decides that a plan is stale
abbrev pub is_stale_decision : Option Entry → Bool
is_stale_decision (Some (Enters.Deciding d)) = is_stale d.end
is_stale_decision _ = false

abbrev pub IsPlain : Turn → Type 0
IsPlain t = is_stale_decision t.entry ≡ false

-- or it names the flights that the reply names
abbrev pub IsNaming : Opening → Option (List ℕ) → Turn → Type 0
IsNaming o named t = IsPlain t ⊎ ((m : List ℕ) × (t.entry ≡ Some (Enters.Deciding (record { job = o.job; end = Ends.Stale m }))) × (named ≡ Some m))

-- the parts

made_plain : (s : Standing) (job : ℕ) (x : Option DssAsk) → IsPlain (making s job x)
made_plain s job None = refl
made_plain s job (Some ask) = refl

pub asks_plain : (s : Standing) (o : Opening) (kind : Awaited) → IsPlain (asking s o kind)
asks_plain s o kind = made_plain s o.job (call_of s.owner s.book o kind)

decides_plain : (s : Standing) (o : Opening) (end : Ending) → is_stale end ≡ false → IsPlain (deciding s o end)
decides_plain s o (Ends.Conflict flight manager rule) h = refl
decides_plain s o (Ends.Stale missing) h = cc
decides_plain s o Ends.Cancelled h = refl
decides_plain s o (Ends.Ended owed) h = refl

pub gives_up_plain : (s : Standing) (o : Opening) (end : Ending) → is_stale end ≡ false → IsPlain (giving_up s o end)
gives_up_plain s o end h = go (trials_of o.job s.book)
  where
    go : (ts : List Trial) → IsPlain (giving_up_after s o end ts)
    go [] = refl
    go (t ∷ ts) = decides_plain s o end h

chooses_plain : (s : Standing) (o : Opening) → IsPlain (choosing s o)
chooses_plain s o = at (pairs_in s (round_of o.job s.values)) (choice_of s o (pairs_in s (round_of o.job s.values)))
  where
    by : (rule : Verdict) (x : Option OperationalIntent) → IsPlain (blocked_by s o rule x)
    by rule None = refl
    by rule (Some p) = gives_up_plain s o (Ends.Conflict p.reference.flight p.reference.manager rule) refl

    at : (pairs : List OperationalIntent) (c : Choice) → IsPlain (choosing_by s o pairs c)
    at pairs (Chosen alternative) = refl
    at pairs (Blocked place rule) = by rule (slice_get pairs place)

looks_plain : (s : Standing) (o : Opening) → IsPlain (looking s o)
looks_plain s o = go (next_unheard s.owner s.values.heard (round_of o.job s.values))
  where
    go : (x : Option Reference) → IsPlain (looking_at s o x)
    go None = refl
    go (Some r) = refl

holds_plain : (s : Standing) (o : Opening) (owed : List Subscriber) (r : Reference) (tag : Option ℕ) (ovn : Option (List ℕ)) → IsPlain (holding_as s o owed r tag ovn)
holds_plain s o owed r (Some tag) (Some ovn) = refl
holds_plain s o owed r None ovn = refl
holds_plain s o owed r (Some tag) None = refl

closes_plain : (s : Standing) (o : Opening) (owed : List Subscriber) (wish : Wish) → IsPlain (closing s o owed wish)
closes_plain s o owed (Put to priority rounds proposals) = go (decision_of o.job s.book)
  where
    go : (x : Option Closing) → IsPlain (ending_as s o x)
    go None = refl
    go (Some d) = refl
closes_plain s o owed End = refl

next_plain : (s : Standing) (o : Opening) (reply : DssReply) (b : Bool) → IsPlain (carry_out s o reply (next_or_choice b))
next_plain s o reply true = looks_plain s o
next_plain s o reply false = chooses_plain s o

next_plain_peer : (s : Standing) (o : Opening) (call : PeerCall) (reply : PeerReply) (b : Bool) → IsPlain (carry_out_peer s o call reply (next_or_choice b))
next_plain_peer s o call reply true = looks_plain s o
next_plain_peer s o call reply false = chooses_plain s o

-- a job that goes on by its book

calls_plain : (s : Standing) (o : Opening) (kind : Awaited) → IsPlain (call_made s o kind)
calls_plain s o Waits.TicketPut = asks_plain s o Waits.TicketPut
calls_plain s o Waits.Query = asks_plain s o Waits.Query
calls_plain s o Waits.Details = looks_plain s o
calls_plain s o Waits.Put = asks_plain s o Waits.Put
calls_plain s o Waits.Get = asks_plain s o Waits.Get
calls_plain s o Waits.TicketRemove = asks_plain s o Waits.TicketRemove
calls_plain s o Waits.Remove = asks_plain s o Waits.Remove

carries_plain : (s : Standing) (o : Opening) (d : Duty) → IsPlain (carry_on s o d)
carries_plain s o (Duties.Call kind) = calls_plain s o kind
carries_plain s o _ = refl

pub resumes_plain : (s : Standing) (o : Opening) → IsPlain (resuming s o)
resumes_plain s o = go (awaited_of o.job s.values)
  where
    go : (x : Option Outgoing) → IsPlain (resuming_by s o x)
    go None = carries_plain s o (by_book (view_of s o))
    go (Some call) = refl

-- the reply of another supplier

pub plain_by_peer : (s : Standing) (o : Opening) (job flight : ℕ) (manager base : List ℕ) (reply : PeerReply) → peer_fits (Calls.Details job flight manager base) reply ≡ true
    → IsPlain (carry_out_peer s o (Calls.Details job flight manager base) reply (on_heard (view_of s o) Waits.Details (heard_of_peer s o reply)))
plain_by_peer s o job flight manager base (Peers.Served pair) fit = next_plain_peer s o (Calls.Details job flight manager base) (Peers.Served pair) (is_left s.owner s.values.heard (round_of o.job s.values))
plain_by_peer s o job flight manager base Peers.Gone fit = next_plain_peer s o (Calls.Details job flight manager base) Peers.Gone (is_left s.owner s.values.heard (round_of o.job s.values))
plain_by_peer s o job flight manager base Peers.Noted fit = cc
plain_by_peer s o job flight manager base (Peers.Status status) fit = refl

-- the reply of the discovery service

abbrev NamesSo : Standing → Opening → DssCall → DssReply → Awaited → Type 0
NamesSo s o call reply kind = fits call.ask reply ≡ true → IsNaming o (missing_in (OfDss call reply)) (carry_out s o reply (on_heard (view_of s o) kind (heard_of_dss s o reply)))

abbrev the : ℕ → DssAsk → DssCall
the job ask = record { job = job; ask = ask }

by_ticket_put : (s : Standing) (o : Opening) (job ticket : ℕ) (area : Volume4D) (base : List ℕ) (reply : DssReply) → NamesSo s o (the job (Asks.TicketPut ticket area base)) reply Waits.TicketPut
by_ticket_put s o job ticket area base (Replies.TicketMade t) fit = inl refl
by_ticket_put s o job ticket area base (Replies.Refused Refuses.Exists) fit = inl refl
by_ticket_put s o job ticket area base (Replies.Refused refusal) fit = inl refl
by_ticket_put s o job ticket area base reply fit = let f = fit in cc

by_query : (s : Standing) (o : Opening) (job : ℕ) (area : Volume4D) (reply : DssReply) → NamesSo s o (the job (Asks.Query area)) reply Waits.Query
unfolding view_of
by_query s o job area (Replies.Found rs) fit = inl (at_key (keeps_key o.ask.wish))
  where
    count : ℕ
    count = length (others (flight_of s.owner o) rs)

    at_crowd : (x : Bool) → IsPlain (carry_out s o (Replies.Found rs) (cond x Duties.Crowded (next_or_choice (is_left s.owner s.values.heard (round_of o.job s.values)))))
    at_crowd true = refl
    at_crowd false = next_plain s o (Replies.Found rs) (is_left s.owner s.values.heard (round_of o.job s.values))

    at_key : (x : Bool) → IsPlain (carry_out s o (Replies.Found rs) (on_found x count (is_left s.owner s.values.heard (round_of o.job s.values))))
    at_key true = at_crowd (nat_lt 1024 count)
    at_key false = refl
by_query s o job area reply fit = let f = fit in cc

abbrev missing_of : List Reference → List ℕ
missing_of rs = map (λ (r : Reference). r.flight) rs

lacks_so : (s : Standing) (o : Opening) (rs : List Reference) (b : Bool) → IsNaming o (Some (missing_of rs)) (carry_out s o (Replies.Refused (Refuses.MissingKey rs)) (cond b (Duties.Call Waits.Query) Duties.DecideStale))
lacks_so s o rs true = inl (asks_plain s o Waits.Query)
lacks_so s o rs false = inr (missing_of rs, refl, refl)

refused_put : (s : Standing) (o : Opening) (call : DssCall) (refusal : DssRefusal) (keyed : Bool)
    → IsNaming o (missing_in (OfDss call (Replies.Refused refusal))) (carry_out s o (Replies.Refused refusal) (on_put_refused (record (view_of s o) { keyed = keyed }) (refusal_number refusal)))
refused_put s o call (Refuses.MissingKey rs) true = lacks_so s o rs (nat_lt (view_of s o).attempts (view_of s o).rounds)
refused_put s o call (Refuses.MissingKey rs) false = inl refl
refused_put s o call Refuses.Exists keyed = inl (asks_plain s o Waits.Get)
refused_put s o call Refuses.StaleOvn keyed = inl (asks_plain s o Waits.Get)
refused_put s o call refusal keyed = inl refl

by_put : (s : Standing) (o : Opening) (job flight : ℕ) (ovn : Option (List ℕ)) (extents : List Volume4D) (key : List (List ℕ)) (state : State) (base : List ℕ) (ticket : ℕ) (reply : DssReply)
    → NamesSo s o (the job (Asks.Put flight ovn extents key state base ticket)) reply Waits.Put
unfolding view_of
by_put s o job flight ovn extents key state base ticket (Replies.Landed r subscribers) fit = inl (holds_plain s o subscribers r (shown_tag r) r.ovn)
by_put s o job flight ovn extents key state base ticket (Replies.Refused refusal) fit = refused_put s o (the job (Asks.Put flight ovn extents key state base ticket)) refusal (keeps_key o.ask.wish)
by_put s o job flight ovn extents key state base ticket reply fit = let f = fit in cc

by_get : (s : Standing) (o : Opening) (job flight : ℕ) (reply : DssReply) → NamesSo s o (the job (Asks.Get flight)) reply Waits.Get
by_get s o job flight (Replies.Got r) fit = inl (go (owns_tag o.job s.book (shown_tag r)))
  where
    go : (x : Bool) → IsPlain (carry_out s o (Replies.Got r) (on_got x))
    go true = holds_plain s o [] r (shown_tag r) r.ovn
    go false = refl
by_get s o job flight (Replies.Refused refusal) fit = inl refl
by_get s o job flight reply fit = let f = fit in cc

by_ticket_remove : (s : Standing) (o : Opening) (job ticket version : ℕ) (reply : DssReply) → NamesSo s o (the job (Asks.TicketRemove ticket version)) reply Waits.TicketRemove
by_ticket_remove s o job ticket version (Replies.TicketRemoved t) fit = inl (closes_plain s o [] o.ask.wish)
by_ticket_remove s o job ticket version (Replies.Refused Refuses.Retired) fit = inl (closes_plain s o [] o.ask.wish)
by_ticket_remove s o job ticket version (Replies.Refused Refuses.TicketInUse) fit = inl (asks_plain s o Waits.Get)
by_ticket_remove s o job ticket version (Replies.Refused refusal) fit = inl refl
by_ticket_remove s o job ticket version reply fit = let f = fit in cc

by_remove : (s : Standing) (o : Opening) (job flight : ℕ) (ovn : List ℕ) (reply : DssReply) → NamesSo s o (the job (Asks.Remove flight ovn)) reply Waits.Remove
by_remove s o job flight ovn (Replies.Removed r subscribers) fit = inl (closes_plain s o subscribers o.ask.wish)
by_remove s o job flight ovn (Replies.Refused Refuses.Retired) fit = inl (closes_plain s o [] o.ask.wish)
by_remove s o job flight ovn (Replies.Refused refusal) fit = inl refl
by_remove s o job flight ovn reply fit = let f = fit in cc

the_kind : (s : Standing) (o : Opening) (call : DssCall) (reply : DssReply) (kind other : Awaited) → Some other ≡ Some kind → NamesSo s o call reply other → NamesSo s o call reply kind
the_kind s o call reply kind other e a = subst (λ x. NamesSo s o call reply x) (some_same other kind e) a

pub names_by_dss : (s : Standing) (o : Opening) (job : ℕ) (ask : DssAsk) (reply : DssReply) (kind : Awaited) → kind_of_ask ask ≡ Some kind → NamesSo s o (the job ask) reply kind
names_by_dss s o job (Asks.Query area) reply kind e = the_kind s o (the job (Asks.Query area)) reply kind Waits.Query e (by_query s o job area reply)
names_by_dss s o job (Asks.Get flight) reply kind e = the_kind s o (the job (Asks.Get flight)) reply kind Waits.Get e (by_get s o job flight reply)
names_by_dss s o job (Asks.Put flight ovn extents key state base ticket) reply kind e = the_kind s o (the job (Asks.Put flight ovn extents key state base ticket)) reply kind Waits.Put e (by_put s o job flight ovn extents key state base ticket reply)
names_by_dss s o job (Asks.Remove flight ovn) reply kind e = the_kind s o (the job (Asks.Remove flight ovn)) reply kind Waits.Remove e (by_remove s o job flight ovn reply)
names_by_dss s o job (Asks.TicketPut ticket area base) reply kind e = the_kind s o (the job (Asks.TicketPut ticket area base)) reply kind Waits.TicketPut e (by_ticket_put s o job ticket area base reply)
names_by_dss s o job (Asks.TicketGet ticket) reply kind e = cc
names_by_dss s o job (Asks.TicketRemove ticket version) reply kind e = the_kind s o (the job (Asks.TicketRemove ticket version)) reply kind Waits.TicketRemove e (by_ticket_remove s o job ticket version reply)
