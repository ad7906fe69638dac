-- What the step on a reply says: nothing, what the book keeps of the job, or the answer with which the job stops at this reply.
use Rattle.std.proofs.Common.{ℕ, ◌==◌, ◌≡◌, ◌⊎◌, inl, inr, Bool, true, false, cond, nat_lt, List, [], ◌∷◌, ◌++◌, slice_get, length, refl, ap, subst, ◌∙◌, Option, Some, None, unwrap_or}
use Rattle.std.specs.List.{find}
use Rattle.std.proofs.lemmas.List.{append-nil}
use Rattle.uss_vol4.specs.Volume.{Volume4D}
use Rattle.uss_intent.specs.Numbers.{is_one_of}
use Rattle.uss_intent.specs.Refusals.{refusal_number}
use Rattle.uss_intent.specs.declared.records.State.{State}
use Rattle.uss_intent.specs.declared.records.Reference.{Reference}
use Rattle.uss_intent.specs.declared.records.Subscriber.{Subscriber}
use Rattle.uss_intent.specs.declared.calls.DssAsk.{DssAsk}
use Rattle.uss_intent.specs.declared.calls.DssAsk.TheVariants as Asks
use Rattle.uss_intent.specs.declared.calls.DssReply.{DssReply}
use Rattle.uss_intent.specs.declared.calls.DssReply.TheVariants as Replies
use Rattle.uss_intent.specs.declared.calls.DssRefusal.{DssRefusal}
use Rattle.uss_intent.specs.declared.calls.DssRefusal.TheVariants as Refuses
use Rattle.uss_event.specs.Fits.{peer_fits}
use Rattle.uss_event.specs.Pairs.{OperationalIntent}
use Rattle.uss_event.specs.declared.rules.Verdict.{Verdict}
use Rattle.uss_event.specs.declared.asks.Wish.{Wish}
use Rattle.uss_event.specs.declared.asks.Wish.TheVariants.{Put, End}
use Rattle.uss_event.specs.declared.entries.Owner.{Owner}
use Rattle.uss_event.specs.declared.entries.Entry.{Entry}
use Rattle.uss_event.specs.declared.entries.Entry.TheVariants as Enters
use Rattle.uss_event.specs.declared.entries.Ending.{Ending}
use Rattle.uss_event.specs.declared.entries.Ending.TheVariants as Ends
use Rattle.uss_event.specs.declared.calls.PeerCall.{PeerCall}
use Rattle.uss_event.specs.declared.calls.PeerCall.TheVariants as Calls
use Rattle.uss_event.specs.declared.calls.PeerReply.{PeerReply}
use Rattle.uss_event.specs.declared.calls.PeerReply.TheVariants as Peers
use Rattle.uss_event.specs.declared.events.Answer.{Answer}
use Rattle.uss_event.specs.declared.events.Answer.TheVariants as Answers
use Rattle.uss_event.specs.declared.events.Said.TheVariants as Says
use Rattle.uss_plan.specs.declared.choice.Choice.{Choice}
use Rattle.uss_plan.specs.declared.choice.Choice.TheVariants.{Chosen, Blocked}
use Rattle.uss_law_dss.specs.Fits.{fits}
use Rattle.uss_law_dss.proofs.Tests.{some_same}
use Rattle.uss_event.specs.declared.entries.Opening.{Opening}
use Rattle.uss_event.specs.declared.entries.Trial.{Trial}
use Rattle.uss_event.specs.declared.entries.Holding.{Holding}
use Rattle.uss_event.specs.declared.entries.Closing.{Closing}
use Rattle.uss_law_book.specs.Lists.{holdings, endings}
use Rattle.uss_law_book.specs.Contents.{is_closed, trials_of, decision_of, holding_of, ending_of}
use Rattle.uss_law_book.proofs.Entries.{holdings_append, endings_append}
use Rattle.uss_law_duty.specs.Duties.{book_after}
use Rattle.uss_law_duty.specs.Answers.{flight_of, kept_answer}
use Rattle.uss_law_duty.specs.Sayings.{others}
use Rattle.uss_law_duty.specs.Entered.{shown_tag}
use Rattle.uss_law_supplier.specs.declared.duties.Awaited.{Awaited}
use Rattle.uss_law_supplier.specs.declared.duties.Awaited.TheVariants as Waits
use Rattle.uss_law_supplier.specs.declared.duties.Duty.TheVariants as Duties
use Rattle.uss_law_supplier.specs.Values.{round_of}
use Rattle.uss_law_supplier.specs.Table.{next_or_choice, on_found, on_got, on_put_refused, on_heard}
use Rattle.uss_law_supplier.specs.Calls.{call_of, kind_of_ask}
use Rattle.uss_law_supplier.specs.Turns.{Standing, Turn, said_of, entered, entering}
use Rattle.uss_law_supplier.specs.Airspace.{next_unheard, is_left, choice_of, pairs_in, key_of}
use Rattle.uss_law_supplier.specs.Jobs.{keeps_key, view_of, heard_of_dss, heard_of_peer, owns_tag, asking, pending, attempting, holding_as, deciding, giving_up_after, giving_up, ending, ending_as, closing, looking_at, looking, blocked_by, choosing_by, choosing, call_made, carry_out, carry_out_peer}
use Rattle.uss_law_supplier.proofs.Jobs.{made_silently}
use Rattle.uss_law_supplier.proofs.Onward.{IsOpenJob}
use Rattle.uss_law_asking.specs.Exchange.{Exchanged}
use Rattle.uss_law_asking.specs.Exchange.Exchanged.{OfDss, OfPeer}
use Rattle.uss_law_asking.specs.Causes.{settled}
use Rattle.uss_law_asking.proofs.Ends.{none_held, none_done}

-- the answer with which a job stops at a reply, if it does

abbrev pub by_found : Bool → ℕ → Option Answer
by_found true count = cond (nat_lt 1024 count) (Some (Answers.Crowded count)) None
by_found false count = None

abbrev pub by_got : Bool → ℕ → Option Answer
by_got true tag = None
by_got false tag = Some (Answers.Unsettled tag)

abbrev pub by_refusal : Bool → DssAsk → ℕ → Option Answer
by_refusal keyed ask number = cond (is_one_of number (settled keyed ask)) None (Some (Answers.DssRefused number))

abbrev pub stop_by_dss : Owner → Opening → List Entry → DssAsk → DssReply → Option Answer
stop_by_dss owner o book ask (Replies.Found rs) = by_found (keeps_key o.ask.wish) (length (others (flight_of owner o) rs))
stop_by_dss owner o book ask (Replies.Got r) = by_got (owns_tag o.job book (shown_tag r)) (unwrap_or (shown_tag r) 0)
stop_by_dss owner o book ask (Replies.Refused refusal) = by_refusal (keeps_key o.ask.wish) ask (refusal_number refusal)
stop_by_dss owner o book ask _ = None

abbrev pub stop_by_peer : PeerCall → PeerReply → Option Answer
stop_by_peer (Calls.Details job flight manager base) (Peers.Status status) = Some (Answers.PeerRefused manager status)
stop_by_peer _ _ = None

abbrev pub stop_by : Owner → Opening → List Entry → Exchanged → Option Answer
stop_by owner o book (OfDss call reply) = stop_by_dss owner o book call.ask reply
stop_by owner o book (OfPeer call reply) = stop_by_peer call reply

-- what a step says

-- a job is closed once
abbrev pub IsOnce : ℕ → List Entry → Type 0
IsOnce job book = (holding_of job book ≡ None) ⊎ (ending_of job book ≡ None)

-- nothing, or what the book then keeps of the job
abbrev pub IsKeptBy : Owner → List Entry → Opening → Turn → Type 0
IsKeptBy owner book o t = (t.said ≡ Says.Nothing) ⊎ ((t.said ≡ said_of (kept_answer owner o (book_after book t.entry))) × IsOnce o.job (book_after book t.entry))

abbrev pub IsSaidBy : Owner → List Entry → Opening → Option Answer → Turn → Type 0
IsSaidBy owner book o None t = IsKeptBy owner book o t
IsSaidBy owner book o (Some a) t = (t.said ≡ Says.Answer a) × (t.entry ≡ None)

abbrev pub IsKeeping : Standing → Opening → Turn → Type 0
IsKeeping s o t = IsKeptBy s.owner s.book o t

abbrev pub IsSaying : Standing → Opening → Option Answer → Turn → Type 0
IsSaying s o stop t = IsSaidBy s.owner s.book o stop t

-- the parts

asked_silently : (s : Standing) (o : Opening) (kind : Awaited) → (asking s o kind).said ≡ Says.Nothing
asked_silently s o kind = made_silently s o.job (call_of s.owner s.book o kind)

pub asks_silently : (s : Standing) (o : Opening) (kind : Awaited) → IsKeeping s o (asking s o kind)
asks_silently s o kind = inl (asked_silently s o kind)

pub asks_silently_after : (s : Standing) (o : Opening) (e : Entry) (kind : Awaited) → IsKeeping s o (entering s e (λ after. asking after o kind))
asks_silently_after s o e kind = inl (asked_silently (entered s e) o kind)

pub attempts_silently : (s : Standing) (o : Opening) (alternative : ℕ) (key : List (List ℕ)) → IsKeeping s o (attempting s o alternative key)
attempts_silently s o alternative key = asks_silently_after s o (pending s o alternative key) Waits.Put

pub decides_silently : (s : Standing) (o : Opening) (end : Ending) → IsKeeping s o (deciding s o end)
decides_silently s o end = asks_silently_after s o (Enters.Deciding (record { job = o.job; end = end })) Waits.TicketRemove

pub none_held_then : (job : ℕ) (book : List Entry) (end : Ending) → is_closed job book ≡ false → holding_of job (book ++ Enters.Done (record { job = job; end = end }) ∷ []) ≡ None
unfolding holding_of
none_held_then job book end u =
    ap (find (λ (h : Holding). h.job == job)) (holdings_append book (Enters.Done (record { job = job; end = end }) ∷ []) ∙ append-nil (holdings book)) ∙ none_held job book u

none_done_then : (job : ℕ) (book : List Entry) (tag : ℕ) (ovn : List ℕ) (version : ℕ) (owed : List Subscriber) → is_closed job book ≡ false → ending_of job (book ++ Enters.Held (record { job = job; tag = tag; ovn = ovn; version = version; owed = owed }) ∷ []) ≡ None
unfolding ending_of
none_done_then job book tag ovn version owed u =
    ap (find (λ (d : Closing). d.job == job)) (endings_append book (Enters.Held (record { job = job; tag = tag; ovn = ovn; version = version; owed = owed }) ∷ []) ∙ append-nil (endings book)) ∙ none_done job book u

ends_so : (s : Standing) (o : Opening) (end : Ending) → IsOpenJob s.book o → IsKeeping s o (ending s o end)
ends_so s o end u = inr (refl, inl (none_held_then o.job s.book end u.unclosed))

pub gives_up_so : (s : Standing) (o : Opening) (end : Ending) → IsOpenJob s.book o → IsKeeping s o (giving_up s o end)
gives_up_so s o end u = go (trials_of o.job s.book)
  where
    go : (ts : List Trial) → IsKeeping s o (giving_up_after s o end ts)
    go [] = ends_so s o end u
    go (t ∷ ts) = decides_silently s o end

chooses_so : (s : Standing) (o : Opening) → IsOpenJob s.book o → IsKeeping s o (choosing s o)
chooses_so s o u = at (pairs_in s (round_of o.job s.values)) (choice_of s o (pairs_in s (round_of o.job s.values)))
  where
    by : (rule : Verdict) (x : Option OperationalIntent) → IsKeeping s o (blocked_by s o rule x)
    by rule None = inl refl
    by rule (Some p) = gives_up_so s o (Ends.Conflict p.reference.flight p.reference.manager rule) u

    at : (pairs : List OperationalIntent) (c : Choice) → IsKeeping s o (choosing_by s o pairs c)
    at pairs (Chosen alternative) = attempts_silently s o alternative (key_of pairs)
    at pairs (Blocked place rule) = by rule (slice_get pairs place)

looks_silently : (s : Standing) (o : Opening) → IsKeeping s o (looking s o)
looks_silently s o = go (next_unheard s.owner s.values.heard (round_of o.job s.values))
  where
    go : (x : Option Reference) → IsKeeping s o (looking_at s o x)
    go None = inl refl
    go (Some r) = inl refl

holds_so : (s : Standing) (o : Opening) (owed : List Subscriber) (r : Reference) (tag : Option ℕ) (ovn : Option (List ℕ)) → IsOpenJob s.book o → IsKeeping s o (holding_as s o owed r tag ovn)
holds_so s o owed r (Some tag) (Some ovn) u = inr (refl, inr (none_done_then o.job s.book tag ovn r.version owed u.unclosed))
holds_so s o owed r None ovn u = inl refl
holds_so s o owed r (Some tag) None u = inl refl

closes_so : (s : Standing) (o : Opening) (owed : List Subscriber) (wish : Wish) → IsOpenJob s.book o → IsKeeping s o (closing s o owed wish)
closes_so s o owed (Put to priority rounds proposals) u = go (decision_of o.job s.book)
  where
    go : (x : Option Closing) → IsKeeping s o (ending_as s o x)
    go None = inl refl
    go (Some d) = ends_so s o d.end u
closes_so s o owed End u = ends_so s o (Ends.Ended owed) u

next_so : (s : Standing) (o : Opening) (reply : DssReply) (b : Bool) → IsOpenJob s.book o → IsKeeping s o (carry_out s o reply (next_or_choice b))
next_so s o reply true u = looks_silently s o
next_so s o reply false u = chooses_so s o u

next_by_peer : (s : Standing) (o : Opening) (call : PeerCall) (reply : PeerReply) (b : Bool) → IsOpenJob s.book o → IsKeeping s o (carry_out_peer s o call reply (next_or_choice b))
next_by_peer s o call reply true u = looks_silently s o
next_by_peer s o call reply false u = chooses_so s o u

-- the reply of another supplier

pub says_by_peer : (s : Standing) (o : Opening) (job flight : ℕ) (manager base : List ℕ) (reply : PeerReply) → IsOpenJob s.book o → peer_fits (Calls.Details job flight manager base) reply ≡ true
    → IsSaying s o (stop_by_peer (Calls.Details job flight manager base) reply) (carry_out_peer s o (Calls.Details job flight manager base) reply (on_heard (view_of s o) Waits.Details (heard_of_peer s o reply)))
says_by_peer s o job flight manager base (Peers.Served pair) u fit = next_by_peer s o (Calls.Details job flight manager base) (Peers.Served pair) (is_left s.owner s.values.heard (round_of o.job s.values)) u
says_by_peer s o job flight manager base Peers.Gone u fit = next_by_peer s o (Calls.Details job flight manager base) Peers.Gone (is_left s.owner s.values.heard (round_of o.job s.values)) u
says_by_peer s o job flight manager base Peers.Noted u fit = cc
says_by_peer s o job flight manager base (Peers.Status status) u fit = (refl, refl)

-- the reply of the discovery service

abbrev SaysSo : Standing → Opening → DssAsk → DssReply → Awaited → Type 0
SaysSo s o ask reply kind = IsOpenJob s.book o → fits ask reply ≡ true → IsSaying s o (stop_by_dss s.owner o s.book ask reply) (carry_out s o reply (on_heard (view_of s o) kind (heard_of_dss s o reply)))

opens_silently : (s : Standing) (o : Opening) (reply : DssReply) → IsKeeping s o (carry_out s o reply Duties.OpenTicket)
opens_silently s o reply = asks_silently_after s o (Enters.TicketOpen o.job) Waits.Query

by_ticket_put : (s : Standing) (o : Opening) (ticket : ℕ) (area : Volume4D) (base : List ℕ) (reply : DssReply) → SaysSo s o (Asks.TicketPut ticket area base) reply Waits.TicketPut
by_ticket_put s o ticket area base (Replies.TicketMade t) u fit = opens_silently s o (Replies.TicketMade t)
by_ticket_put s o ticket area base (Replies.Refused Refuses.Exists) u fit = opens_silently s o (Replies.Refused Refuses.Exists)
by_ticket_put s o ticket area base (Replies.Refused refusal) u fit = (refl, refl)
by_ticket_put s o ticket area base reply u fit = let f = fit in cc

by_query : (s : Standing) (o : Opening) (area : Volume4D) (reply : DssReply) → SaysSo s o (Asks.Query area) reply Waits.Query
unfolding view_of
by_query s o area (Replies.Found rs) u fit = at_key (keeps_key o.ask.wish)
  where
    count : ℕ
    count = length (others (flight_of s.owner o) rs)

    at_crowd : (x : Bool) → IsSaying s o (cond x (Some (Answers.Crowded count)) None) (carry_out s o (Replies.Found rs) (cond x Duties.Crowded (next_or_choice (is_left s.owner s.values.heard (round_of o.job s.values)))))
    at_crowd true = (refl, refl)
    at_crowd false = next_so s o (Replies.Found rs) (is_left s.owner s.values.heard (round_of o.job s.values)) u

    at_key : (x : Bool) → IsSaying s o (by_found x count) (carry_out s o (Replies.Found rs) (on_found x count (is_left s.owner s.values.heard (round_of o.job s.values))))
    at_key true = at_crowd (nat_lt 1024 count)
    at_key false = attempts_silently s o 0 []
by_query s o area reply u fit = let f = fit in cc

-- where a Put was refused, whether the job has a key decides

lacks_so : (s : Standing) (o : Opening) (rs : List Reference) (b : Bool) → IsKeeping s o (carry_out s o (Replies.Refused (Refuses.MissingKey rs)) (cond b (Duties.Call Waits.Query) Duties.DecideStale))
lacks_so s o rs true = asks_silently s o Waits.Query
lacks_so s o rs false = decides_silently s o _

refused_put : (s : Standing) (o : Opening) (flight : ℕ) (ovn : Option (List ℕ)) (extents : List Volume4D) (key : List (List ℕ)) (state : State) (base : List ℕ) (ticket : ℕ) (refusal : DssRefusal) (keyed : Bool)
    → IsSaying s o (by_refusal keyed (Asks.Put flight ovn extents key state base ticket) (refusal_number refusal)) (carry_out s o (Replies.Refused refusal) (on_put_refused (record (view_of s o) { keyed = keyed }) (refusal_number refusal)))
refused_put s o flight ovn extents key state base ticket (Refuses.MissingKey rs) true = lacks_so s o rs (nat_lt (view_of s o).attempts (view_of s o).rounds)
refused_put s o flight ovn extents key state base ticket Refuses.Exists true = asks_silently s o Waits.Get
refused_put s o flight ovn extents key state base ticket Refuses.StaleOvn true = asks_silently s o Waits.Get
refused_put s o flight ovn extents key state base ticket refusal true = (refl, refl)
refused_put s o flight ovn extents key state base ticket Refuses.Exists false = asks_silently s o Waits.Get
refused_put s o flight ovn extents key state base ticket Refuses.StaleOvn false = asks_silently s o Waits.Get
refused_put s o flight ovn extents key state base ticket refusal false = (refl, refl)

by_put : (s : Standing) (o : Opening) (flight : ℕ) (ovn : Option (List ℕ)) (extents : List Volume4D) (key : List (List ℕ)) (state : State) (base : List ℕ) (ticket : ℕ) (reply : DssReply)
    → SaysSo s o (Asks.Put flight ovn extents key state base ticket) reply Waits.Put
unfolding view_of
by_put s o flight ovn extents key state base ticket (Replies.Landed r subscribers) u fit = holds_so s o subscribers r (shown_tag r) r.ovn u
by_put s o flight ovn extents key state base ticket (Replies.Refused refusal) u fit = refused_put s o flight ovn extents key state base ticket refusal (keeps_key o.ask.wish)
by_put s o flight ovn extents key state base ticket reply u fit = let f = fit in cc

by_get : (s : Standing) (o : Opening) (flight : ℕ) (reply : DssReply) → SaysSo s o (Asks.Get flight) reply Waits.Get
by_get s o flight (Replies.Got r) u fit = go (owns_tag o.job s.book (shown_tag r))
  where
    go : (x : Bool) → IsSaying s o (by_got x (unwrap_or (shown_tag r) 0)) (carry_out s o (Replies.Got r) (on_got x))
    go true = holds_so s o [] r (shown_tag r) r.ovn u
    go false = (refl, refl)
by_get s o flight (Replies.Refused refusal) u fit = (refl, refl)
by_get s o flight reply u fit = let f = fit in cc

by_ticket_remove : (s : Standing) (o : Opening) (ticket version : ℕ) (reply : DssReply) → SaysSo s o (Asks.TicketRemove ticket version) reply Waits.TicketRemove
by_ticket_remove s o ticket version (Replies.TicketRemoved t) u fit = closes_so s o [] o.ask.wish u
by_ticket_remove s o ticket version (Replies.Refused Refuses.Retired) u fit = closes_so s o [] o.ask.wish u
by_ticket_remove s o ticket version (Replies.Refused Refuses.TicketInUse) u fit = asks_silently s o Waits.Get
by_ticket_remove s o ticket version (Replies.Refused refusal) u fit = (refl, refl)
by_ticket_remove s o ticket version reply u fit = let f = fit in cc

by_remove : (s : Standing) (o : Opening) (flight : ℕ) (ovn : List ℕ) (reply : DssReply) → SaysSo s o (Asks.Remove flight ovn) reply Waits.Remove
by_remove s o flight ovn (Replies.Removed r subscribers) u fit = closes_so s o subscribers o.ask.wish u
by_remove s o flight ovn (Replies.Refused Refuses.Retired) u fit = closes_so s o [] o.ask.wish u
by_remove s o flight ovn (Replies.Refused refusal) u fit = (refl, refl)
by_remove s o flight ovn reply u fit = let f = fit in cc

the_kind : (s : Standing) (o : Opening) (ask : DssAsk) (reply : DssReply) (kind other : Awaited) → Some other ≡ Some kind → SaysSo s o ask reply other → SaysSo s o ask reply kind
the_kind s o ask reply kind other e a = subst (λ x. SaysSo s o ask reply x) (some_same other kind e) a

pub says_by_dss : (s : Standing) (o : Opening) (ask : DssAsk) (reply : DssReply) (kind : Awaited) → kind_of_ask ask ≡ Some kind → SaysSo s o ask reply kind
says_by_dss s o (Asks.Query area) reply kind e = the_kind s o (Asks.Query area) reply kind Waits.Query e (by_query s o area reply)
says_by_dss s o (Asks.Get flight) reply kind e = the_kind s o (Asks.Get flight) reply kind Waits.Get e (by_get s o flight reply)
says_by_dss s o (Asks.Put flight ovn extents key state base ticket) reply kind e = the_kind s o (Asks.Put flight ovn extents key state base ticket) reply kind Waits.Put e (by_put s o flight ovn extents key state base ticket reply)
says_by_dss s o (Asks.Remove flight ovn) reply kind e = the_kind s o (Asks.Remove flight ovn) reply kind Waits.Remove e (by_remove s o flight ovn reply)
says_by_dss s o (Asks.TicketPut ticket area base) reply kind e = the_kind s o (Asks.TicketPut ticket area base) reply kind Waits.TicketPut e (by_ticket_put s o ticket area base reply)
says_by_dss s o (Asks.TicketGet ticket) reply kind e = cc
says_by_dss s o (Asks.TicketRemove ticket version) reply kind e = the_kind s o (Asks.TicketRemove ticket version) reply kind Waits.TicketRemove e (by_ticket_remove s o ticket version reply)

-- a job that goes on says nothing

pub goes_on_silently : (s : Standing) (o : Opening) (kind : Awaited) → IsKeeping s o (call_made s o kind)
goes_on_silently s o Waits.TicketPut = asks_silently s o Waits.TicketPut
goes_on_silently s o Waits.Query = asks_silently s o Waits.Query
goes_on_silently s o Waits.Details = looks_silently s o
goes_on_silently s o Waits.Put = asks_silently s o Waits.Put
goes_on_silently s o Waits.Get = asks_silently s o Waits.Get
goes_on_silently s o Waits.TicketRemove = asks_silently s o Waits.TicketRemove
goes_on_silently s o Waits.Remove = asks_silently s o Waits.Remove
