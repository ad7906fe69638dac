-- That the end of a flight comes to Ended, where nobody disturbs it.
use Rattle.std.proofs.Common.{ℕ, ℤ, ◌==◌, ◌≡◌, Bool, true, false, cond, not, ◌&&◌, is_none, List, [], ◌∷◌, ◌++◌, refl, ap, sym, subst, ◌∙◌, Option, Some, None, IfSome}
use Rattle.std.specs.List.{find, list_any}
use Rattle.std.specs.Option.{option_map, option_or}
use Rattle.std.proofs.lemmas.List.{append-nil}
use Rattle.std.proofs.lemmas.List.Folds.{find-append}
use Rattle.uss_intent.specs.Same.{same_text}
use Rattle.uss_intent.specs.declared.records.Recorded.{Recorded}
use Rattle.uss_intent.specs.declared.records.Subscriber.{Subscriber}
use Rattle.uss_intent.specs.declared.calls.DssAsk.TheVariants as Asks
use Rattle.uss_intent.specs.declared.calls.DssReply.TheVariants as Replies
use Rattle.uss_intent.specs.Numbers.{is_one_of}
use Rattle.uss_intent.specs.Identifiers.{flight_number}
use Rattle.uss_law_duty.specs.Duties.{clamped}
use Rattle.uss_event.specs.Pairs.{OperationalIntent}
use Rattle.uss_event.specs.declared.asks.Wish.{Wish}
use Rattle.uss_event.specs.declared.asks.Wish.TheVariants.{End}
use Rattle.uss_event.specs.declared.asks.FlightAsk.{FlightAsk}
use Rattle.uss_event.specs.declared.asks.AskRefusal.TheVariants as Refuses
use Rattle.uss_event.specs.declared.entries.Entry.{Entry}
use Rattle.uss_event.specs.declared.entries.Entry.TheVariants as Enters
use Rattle.uss_event.specs.declared.entries.Ending.{Ending}
use Rattle.uss_event.specs.declared.entries.Ending.TheVariants as Ends
use Rattle.uss_event.specs.declared.entries.Owner.{Owner}
use Rattle.uss_event.specs.declared.calls.DssCall.{DssCall}
use Rattle.uss_event.specs.declared.events.Answer.TheVariants as Answers
use Rattle.uss_event.specs.declared.events.Said.{Said}
use Rattle.uss_event.specs.declared.events.Said.TheVariants as Says
use Rattle.uss_event.specs.declared.events.Event.TheVariants as Comes
use Rattle.uss_law_dss.specs.Fits.{fits}
use Rattle.uss_law_dss.specs.Orderly as Dss
use Rattle.uss_law_dss.specs.Service.{Service, has_ovn, recorded_of}
use Rattle.uss_law_dss.specs.Step.{service_step, after_remove, subscribers}
use Rattle.uss_law_dss.proofs.EachFits.{step_fits}
use Rattle.uss_law_dss.proofs.Tests.{equal_number, equal_bytes, neither}
use Rattle.uss_event.specs.declared.entries.Opening.{Opening}
use Rattle.uss_event.specs.declared.entries.Holding.{Holding}
use Rattle.uss_event.specs.declared.entries.Closing.{Closing}
use Rattle.uss_law_book.specs.Lists.{holdings, endings}
use Rattle.uss_law_book.specs.Contents.{is_held, is_done, is_closed, last_of, current_ovn_of, holding, holding_of, ending_of}
use Rattle.uss_law_book.specs.Attempts.{held, held_by}
use Rattle.uss_law_book.specs.Legal.{IsAfter}
use Rattle.uss_law_book.proofs.Entries.{holdings_append, endings_append}
use Rattle.uss_law_book.proofs.EachOrderly.{legal_is_orderly}
use Rattle.uss_law_duty.specs.Answers.{flight_of, by_end, kept_answer}
use Rattle.uss_law_supplier.specs.declared.duties.Awaited.TheVariants as Waits
use Rattle.uss_law_supplier.specs.Values.{awaited_of}
use Rattle.uss_law_supplier.specs.Turns.{Standing, Turn, said_of, dss_call, calling, entered, with_entry}
use Rattle.uss_law_supplier.specs.Jobs.{is_end, making, asking, closing, ending}
use Rattle.uss_law_supplier.specs.Asks.{plan_refusal, begins_flight, busy, ended, unknown, new_refusal, opening_entry, opening_for}
use Rattle.uss_law_supplier.specs.Laws.{IsSound}
use Rattle.uss_law_book.proofs.Known.{legal_known, same_holding}
use Rattle.uss_law_supplier.proofs.Waits.{awaiting_own}
use Rattle.uss_law_supplier.proofs.Onward.{IsOpenJob}
use Rattle.uss_law_supplier.proofs.Asking.{first_kind, parts_none}
use Rattle.uss_law_asking.specs.Exchange.{turn_of, stands_then}
use Rattle.uss_law_asking.specs.Complete.{IsOutcome}
use Rattle.uss_law_asking.proofs.Calm.{accepted_of}
use Rattle.uss_law_asking.proofs.Asked.{new_unfinished}
use Rattle.uss_law_asking.proofs.Walk.{ComesOutAs, Settles, goes_on_by, stops_by, acts_so, opens_so}
use Rattle.uss_law_asking.proofs.Recorded.{IsRecorded, held_recorded}

-- what a closed job keeps

pub find_not : {X : Type 0} (p : X → Bool) (xs : List X) → list_any p xs ≡ false → find p xs ≡ None
find_not p [] h = refl
find_not p (x ∷ xs) h = go (p x) refl (neither (p x) (list_any p xs) h) (find_not p xs (neither (p x) (list_any p xs) h).1)
  where
    go : (b : Bool) → p x ≡ b → (p x ≡ false) × (list_any p xs ≡ false) → find p xs ≡ None → cond b (Some x) (find p xs) ≡ None
    go true e n r = let q : true ≡ false = sym e ∙ n.0 in cc (q)
    go false e n r = r

pub none_held : (job : ℕ) (book : List Entry) → is_closed job book ≡ false → holding_of job book ≡ None
unfolding holding_of is_held
none_held job book u = find_not (λ (h : Holding). h.job == job) (holdings book) (neither (is_held job book) (is_done job book) u).0

pub none_done : (job : ℕ) (book : List Entry) → is_closed job book ≡ false → ending_of job book ≡ None
unfolding ending_of is_done
none_done job book u = find_not (λ (d : Closing). d.job == job) (endings book) (neither (is_held job book) (is_done job book) u).1

pub kept_end : (owner : Owner) (o : Opening) (book : List Entry) (end : Ending) → is_closed o.job book ≡ false → kept_answer owner o (book ++ Enters.Done (record { job = o.job; end = end }) ∷ []) ≡ Some (by_end (flight_of owner o) end)
unfolding kept_answer holding_of ending_of
kept_end owner o book end u =
    let e = Enters.Done (record { job = o.job; end = end }) in
    let h : holding_of o.job (book ++ e ∷ []) ≡ None =
    ap (find (λ (h : Holding). h.job == o.job)) (holdings_append book (e ∷ []) ∙ append-nil (holdings book)) ∙ none_held o.job book u in
    let d : ending_of o.job (book ++ e ∷ []) ≡ Some (record { job = o.job; end = end }) =
    ap (find (λ (d : Closing). d.job == o.job)) (endings_append book (e ∷ []))
    ∙ find-append (λ (d : Closing). d.job == o.job) (endings book) (record { job = o.job; end = end } ∷ [])
    ∙ ap (λ x. option_or x (find (λ (d : Closing). d.job == o.job) (record { job = o.job; end = end } ∷ []))) (none_done o.job book u)
    ∙ rw (equal_number o.job o.job refl) refl in
    rw (h, d) refl

-- the discovery service removes what is held

removes : (service : Service) (client : List ℕ) (flight : ℕ) (ovn : List ℕ) (r : Recorded) → recorded_of flight service ≡ Some r → r.reference.manager ≡ client → r.reference.ovn ≡ Some ovn → is_one_of flight service.retired_flights ≡ false
    → service_step service client (Asks.Remove flight ovn) ≡ after_remove service client r
removes service client flight ovn r f m v alive =
    let a : same_text r.reference.manager client ≡ true = equal_bytes r.reference.manager client m in
    let b : has_ovn r.reference.ovn ovn ≡ true = ap (λ x. has_ovn x ovn) v ∙ equal_bytes ovn ovn refl in
    rw (f, a, alive, b) refl

-- what is to end is held
pub held_there : (s : Standing) (at : ℤ) (ask : FlightAsk) → begins_flight ask.wish ≡ false → new_refusal s.book at ask ≡ None → (h : Holding) × (holding ask.flight s.book ≡ Some h)
unfolding new_refusal held
held_there s at ask w n =
    let n1 = parts_none (busy s.book ask) _ n in
    let n2 = parts_none (ended s.book ask) _ n1.1 in
    let n3 = parts_none (unknown s.book ask) _ n2.1 in
    go (holding ask.flight s.book) refl n3.0
  where
    go : (x : Option Holding) → holding ask.flight s.book ≡ x → cond (is_none (option_map (λ (p : OperationalIntent). p.reference.state) (held_by s.book x)) && not (begins_flight ask.wish)) (Some Refuses.NoSuchFlight) None ≡ None
        → (h : Holding) × (holding ask.flight s.book ≡ Some h)
    go (Some h) e k = (h, e)
    go None e k = absurd (refused (begins_flight ask.wish) w k)
      where
        refused : (b : Bool) → b ≡ false → cond (not b) (Some Refuses.NoSuchFlight) None ≡ None → ⊥
        refused true q k = cc
        refused false q k = cc

-- the base of the flight stays at the opening
pub base_then : (s : Standing) (at : ℤ) (ask : FlightAsk) → IsSound s.owner s.book s.values → current_ovn_of ask.flight (s.book ++ opening_entry s.book at ask ∷ []) ≡ current_ovn_of ask.flight s.book
base_then s at ask sound = ap (option_map (λ (h : Holding). h.ovn)) (same_holding s.book (opening_for s at ask).job at ask ask.flight (legal_is_orderly s.book sound.legal))

-- the walk

abbrev IsEnd : Standing → ℤ → FlightAsk → Said → Type 0
IsEnd s moment ask said = said ≡ Says.Answer (Answers.Ended (flight_of s.owner (opening_for s (clamped moment) ask)))

removed : (s : Standing) (moment : ℤ) (ask : FlightAsk) (o : Opening) (service : Service) (served : List OperationalIntent) (flight : ℕ) (ovn : List ℕ) (r : Recorded) (subscribers : List Subscriber) → o.ask.wish ≡ End
    → IsOpenJob s.book o → awaited_of o.job s.values ≡ Some (dss_call o.job (Asks.Remove flight ovn)) → fits (Asks.Remove flight ovn) (Replies.Removed r.reference subscribers) ≡ true
    → ComesOutAs (λ said. said ≡ Says.Answer (Answers.Ended (flight_of s.owner o))) s.owner.name served s moment (Comes.Dss (record { job = o.job; ask = Asks.Remove flight ovn }) (Replies.Removed r.reference subscribers)) service
removed s moment ask o service served flight ovn r subscribers w u waits fit =
    let event = Comes.Dss (record { job = o.job; ask = Asks.Remove flight ovn }) (Replies.Removed r.reference subscribers) in
    let acts : turn_of s moment event ≡ closing s o subscribers o.ask.wish = acts_so s moment o (Asks.Remove flight ovn) (Replies.Removed r.reference subscribers) Waits.Remove u waits refl fit in
    let ends : turn_of s moment event ≡ ending s o (Ends.Ended subscribers) = acts ∙ ap (closing s o subscribers) w in
    let said = ap (λ (t : Turn). t.said) ends ∙ ap said_of (kept_end s.owner o s.book (Ends.Ended subscribers) u.unclosed) in
    stops_by (λ said. said ≡ Says.Answer (Answers.Ended (flight_of s.owner o))) s.owner.name served s moment event service (Says.Answer (Answers.Ended (flight_of s.owner o))) said refl refl

-- the Remove is carried out, and said
pub removes_so : (s : Standing) (moment : ℤ) (ask : FlightAsk) (o : Opening) (service : Service) (served : List OperationalIntent) (ovn : List ℕ) → o.ask.wish ≡ End → IsOpenJob s.book o
    → awaited_of o.job s.values ≡ Some (dss_call o.job (Asks.Remove (flight_of s.owner o) ovn)) → Dss.IsOrderly service → (first : Standing) → IsRecorded first ask service ovn → first.owner ≡ s.owner → ask.flight ≡ o.ask.flight
    → ComesOutAs (λ said. said ≡ Says.Answer (Answers.Ended (flight_of s.owner o))) s.owner.name served s moment
    (Comes.Dss (record { job = o.job; ask = Asks.Remove (flight_of s.owner o) ovn }) (service_step service s.owner.name (Asks.Remove (flight_of s.owner o) ovn)).0) (service_step service s.owner.name (Asks.Remove (flight_of s.owner o) ovn)).1
removes_so s moment ask o service served ovn w u waits order first held owner same =
    let flight = flight_of s.owner o in
    let put = Asks.Remove flight ovn in
    let is : flight_number first.owner.number ask.flight ≡ flight_of s.owner o = ap (λ (x : Owner). flight_number x.number ask.flight) owner ∙ ap (flight_number s.owner.number) same in
    let found = ap (λ f. recorded_of f service) (sym is) ∙ held.found in
    let alive = ap (λ f. is_one_of f service.retired_flights) (sym is) ∙ held.alive in
    let step = removes service s.owner.name flight ovn held.it found (held.manager ∙ ap (λ (x : Owner). x.name) owner) held.ovn_is alive in
    let fit : fits put (after_remove service s.owner.name held.it).0 ≡ true = subst (λ x. fits put x.0 ≡ true) step (step_fits service s.owner.name put order) in
    subst (λ x. ComesOutAs (λ said. said ≡ Says.Answer (Answers.Ended (flight_of s.owner o))) s.owner.name served s moment (Comes.Dss (record { job = o.job; ask = put }) x.0) x.1) (sym step)
    (removed s moment ask o _ served flight ovn held.it _ w u waits fit)

pub ends_so : (s : Standing) (moment : ℤ) (ask : FlightAsk) (service : Service) (served : List OperationalIntent) (ovn : List ℕ) → ask.wish ≡ End → IsSound s.owner s.book s.values → IfSome (last_of ask.flight s.book) (IsAfter ask)
    → new_refusal s.book (clamped moment) ask ≡ None → Dss.IsOrderly service → IsRecorded s ask service ovn → ComesOutAs (IsEnd s moment ask) s.owner.name served s moment (Comes.Ask ask) service
ends_so s moment ask service served ovn w sound new accepted order held =
    let at = clamped moment in
    let orderly = legal_is_orderly s.book sound.legal in
    let o = opening_for s at ask in
    let e = opening_entry s.book at ask in
    let flight = flight_of s.owner o in
    let call : DssCall = record { job = o.job; ask = Asks.Remove flight ovn } in
    let t = with_entry e (calling o.job (dss_call o.job (Asks.Remove flight ovn)) s.values) in
    let base : current_ovn_of ask.flight (s.book ++ e ∷ []) ≡ Some ovn = base_then s at ask sound ∙ held.base in
    let opens : turn_of s moment (Comes.Ask ask) ≡ t =
    opens_so s moment ask orderly (legal_known s.book sound.legal) (ap plan_refusal w) new accepted
    ∙ ap (λ (x : Wish). with_entry e (asking (entered s e) o (first_kind (is_end x)))) w
    ∙ ap (λ (x : Option (List ℕ)). with_entry e (making (entered s e) o.job (option_map (λ ovn. Asks.Remove flight ovn) x))) base in
    goes_on_by (IsEnd s moment ask) s.owner.name served s moment (Comes.Ask ask) service call t opens refl refl
    (removes_so (stands_then s t) moment ask o service served ovn w (new_unfinished s at ask orderly) (awaiting_own o.job (dss_call o.job (Asks.Remove flight ovn)) s.values) order s held refl refl)

pub ends_come_out : (ask : FlightAsk) → ask.wish ≡ End → Settles ask
ends_come_out ask w s moment service served sound calm =
    let accepted = accepted_of s moment ask service served calm in
    let h = held_there s (clamped moment) ask (ap begins_flight w) accepted in
    let held = held_recorded s ask service h.0 sound calm.orderly calm.recorded h.1 in
    subst (λ (x : Wish). ComesOutAs (IsOutcome s moment ask service served x) s.owner.name served s moment (Comes.Ask ask) service) (sym w) (ends_so s moment ask service served h.0.ovn w sound calm.new accepted calm.orderly held)
