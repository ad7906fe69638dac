-- That a plan comes to the best choice against what is around it, once it has heard of that, where nobody disturbs it.
use Rattle.std.proofs.Common.{ℕ, ℤ, ◌≤◌, ◌==◌, ◌≡◌, inl, inr, Bool, true, false, not, ◌&&◌, List, [], ◌∷◌, ◌++◌, length, refl, ap, sym, subst, ◌∙◌, arith, Option, Some, None}
use Rattle.std.specs.List.{find, list_any, filter_map, cons_option}
use Rattle.std.specs.Option.{option_and_then}
use Rattle.std.proofs.lemmas.List.{append-nil}
use Rattle.uss_vol4.specs.Volume.{Volume4D}
use Rattle.uss_vol4.specs.Sharing.{shares, any_shares}
use Rattle.uss_intent.specs.declared.records.Recorded.{Recorded}
use Rattle.uss_intent.specs.declared.records.Reference.{Reference}
use Rattle.uss_intent.specs.declared.records.State.{State}
use Rattle.uss_intent.specs.States.{is_strategic}
use Rattle.uss_law_duty.specs.Duties.{clamped}
use Rattle.uss_event.specs.Pairs.{OperationalIntent}
use Rattle.uss_event.specs.declared.details.Proposal.{Proposal}
use Rattle.uss_event.specs.declared.asks.Wish.{Wish}
use Rattle.uss_event.specs.declared.asks.Wish.TheVariants.{Put, End}
use Rattle.uss_event.specs.declared.asks.FlightAsk.{FlightAsk}
use Rattle.uss_event.specs.declared.entries.Entry.TheVariants as Enters
use Rattle.uss_event.specs.declared.entries.Ending.TheVariants as Ends
use Rattle.uss_event.specs.declared.events.Answer.TheVariants as Answers
use Rattle.uss_event.specs.declared.events.Said.TheVariants as Says
use Rattle.uss_event.specs.declared.events.Event.{Event}
use Rattle.uss_plan.specs.declared.choice.Choice.{Choice}
use Rattle.uss_plan.specs.declared.choice.Choice.TheVariants.{Chosen, Blocked}
use Rattle.uss_plan.specs.Choice.{wanted, choice}
use Rattle.uss_law_dss.specs.Lists.{Has}
use Rattle.uss_law_dss.specs.Service.{Service, relevant, lacking, in_key, has_ovn, reach}
use Rattle.uss_law_dss.specs.Step.{found_in}
use Rattle.uss_law_dss.proofs.Lists.{has_filter, has_passed, has_filtered, list_any_has, any_true}
use Rattle.uss_law_dss.proofs.Tests.{equal_bytes, both}
use Rattle.uss_event.specs.declared.entries.Opening.{Opening}
use Rattle.uss_event.specs.declared.entries.Holding.{Holding}
use Rattle.uss_law_book.specs.Lists.{openings}
use Rattle.uss_law_book.specs.Contents.{holding, trials_of}
use Rattle.uss_law_book.specs.Attempts.{held, held_by}
use Rattle.uss_law_book.specs.Legal.{ArePlans}
use Rattle.uss_law_book.proofs.Attempts.{attempt_kept}
use Rattle.uss_law_book.proofs.Entries.{openings_append}
use Rattle.uss_law_book.proofs.Finds.{find_kept, first_false, none_filtered}
use Rattle.uss_law_book.proofs.Held.{held_of}
use Rattle.uss_law_book.proofs.EachOrderly.{legal_is_orderly}
use Rattle.uss_law_duty.specs.Answers.{flight_of}
use Rattle.uss_law_duty.specs.Sends.{all_extents}
use Rattle.uss_law_supplier.specs.Values.{Values, round_of}
use Rattle.uss_law_supplier.specs.Calls.{area_of, proposals_of}
use Rattle.uss_law_supplier.specs.Turns.{Standing, Turn, said_of}
use Rattle.uss_law_supplier.specs.Airspace.{is_own, flight_found, held_as, ovn_of, key_of, pairs_in, choice_by, choice_of}
use Rattle.uss_law_supplier.specs.Jobs.{with_values, ending, giving_up_after, blocked_by, choosing_by, choosing}
use Rattle.uss_law_supplier.specs.Asks.{plan_refusal, opening_entry, opening_for}
use Rattle.uss_law_supplier.specs.Laws.{IsSound}
use Rattle.uss_law_book.proofs.Known.{same_holding}
use Rattle.uss_law_supplier.proofs.Asking.{are_plans}
use Rattle.uss_law_supplier.proofs.Choosing.{chosen_is_free, blocked_is_by, key_is_short}
use Rattle.uss_law_asking.specs.Exchange.{turn_of}
use Rattle.uss_law_asking.specs.Complete.{IsUndisturbed, is_new, its_flight, IsRecordedBy, IsOfChoice, intent_of, around, intents_around}
use Rattle.uss_law_asking.proofs.Calm.{plan_of}
use Rattle.uss_law_asking.proofs.Walk.{ComesOutAs, stops_by}
use Rattle.uss_law_asking.proofs.Covers.{in_all}
use Rattle.uss_law_asking.proofs.Area.{AreaCovers}
use Rattle.uss_law_asking.proofs.Ends.{kept_end}
use Rattle.uss_law_asking.proofs.Tries.{IsFirst, tries}
use Rattle.uss_law_asking.proofs.Opens.{opened_book, looking_book, looks_from, ticketed, ticketed_orderly, looking_unfinished, first_at, is_acceptable, holding_stays, has_slice, looking_untried, base_new}

-- what is held stays so at the opening

pub held_stays : (s : Standing) (moment : ℤ) (ask : FlightAsk) (flight : ℕ) → IsSound s.owner s.book s.values → held flight (looking_book s moment ask) ≡ held flight s.book
unfolding held
held_stays s moment ask flight sound = go (holding flight s.book) refl
  where
    same : holding flight (looking_book s moment ask) ≡ holding flight s.book
    same =
        holding_stays flight (opening_for s (clamped moment) ask).job (opened_book s moment ask)
        ∙ same_holding s.book (opening_for s (clamped moment) ask).job (clamped moment) ask flight (legal_is_orderly s.book sound.legal)

    go : (x : Option Holding) → holding flight s.book ≡ x → held_by (looking_book s moment ask) (holding flight (looking_book s moment ask)) ≡ held_by s.book (holding flight s.book)
    go None e = rw (same ∙ e, e) refl
    go (Some h) e =
        let k = held_of s.book flight h (legal_is_orderly s.book sound.legal) e in
        let one = attempt_kept s.book (opening_entry s.book (clamped moment) ask ∷ []) h.tag k.attempt k.found in
        let two = attempt_kept (opened_book s moment ask) (Enters.TicketOpen (opening_for s (clamped moment) ask).job ∷ []) h.tag k.attempt one in
        rw (same ∙ e, e, two, k.found) refl

looking_openings : (s : Standing) (moment : ℤ) (ask : FlightAsk) → openings (looking_book s moment ask) ≡ openings s.book ++ opening_for s (clamped moment) ask ∷ []
looking_openings s moment ask =
    openings_append (opened_book s moment ask) (Enters.TicketOpen (opening_for s (clamped moment) ask).job ∷ []) ∙ append-nil (openings (opened_book s moment ask)) ∙ openings_append s.book (opening_entry s.book (clamped moment) ask ∷ [])

pub held_as_stays : (s : Standing) (moment : ℤ) (ask : FlightAsk) (id : ℕ) (p : OperationalIntent) → IsSound s.owner s.book s.values → held_as s.owner id s.book ≡ Some p → held_as s.owner id (looking_book s moment ask) ≡ Some p
unfolding held_as
held_as_stays s moment ask id p sound h = go (flight_found s.owner id s.book) refl h
  where
    go : (x : Option Opening) → flight_found s.owner id s.book ≡ x → option_and_then (λ (o : Opening). held o.ask.flight s.book) x ≡ Some p
        → option_and_then (λ (o : Opening). held o.ask.flight (looking_book s moment ask)) (flight_found s.owner id (looking_book s moment ask)) ≡ Some p
    go None e k = cc
    go (Some o) e k =
        let t : Opening → Bool = λ o. flight_of s.owner o == id in
        let f : flight_found s.owner id (looking_book s moment ask) ≡ Some o = ap (find t) (looking_openings s moment ask) ∙ find_kept t (openings s.book) (opening_for s (clamped moment) ask ∷ []) o e in
        ap (option_and_then (λ (o : Opening). held o.ask.flight (looking_book s moment ask))) f ∙ held_stays s moment ask o.ask.flight sound ∙ k

-- the key has what it has to

pub has_picks : {X Y : Type 0} (f : X → Option Y) (xs : List X) (x : X) (y : Y) → Has xs x → f x ≡ Some y → Has (filter_map f xs) y
has_picks f [] x y h e = absurd h
has_picks f (z ∷ zs) x y (inl q) e = let g : f z ≡ Some y = ap f q ∙ e in rw g (inl refl)
has_picks {X} {Y} f (z ∷ zs) x y (inr h) e = go (f z) (has_picks f zs x y h e)
  where
    go : (o : Option Y) → Has (filter_map f zs) y → Has (cons_option o (filter_map f zs)) y
    go None k = k
    go (Some w) k = inr k

more_share : (a b c : List Volume4D) → ((v : Volume4D) → Has b v → Has c v) → any_shares a b ≡ true → any_shares a c ≡ true
unfolding any_shares
more_share a b c among h =
    let x = list_any_has (λ v. list_any (shares v) b) a h in
    let y = list_any_has (shares x.0) b x.2 in
    any_true (λ v. list_any (shares v) c) a x.0 x.1 (any_true (shares x.0) c y.0 (among y.0 y.1) y.2)

pub record IsIntent (s : Standing) (served : List OperationalIntent) (r : Recorded) : Type 0 where
  pub pair : OperationalIntent
  pub is : intent_of s served r ≡ Some pair
  pub ovn : pair.reference.ovn ≡ r.reference.ovn

pub intent_is : (s : Standing) (moment : ℤ) (ask : FlightAsk) (service : Service) (served : List OperationalIntent) (r : Recorded) → IsUndisturbed s moment ask service served → Has service.references r → IsIntent s served r
intent_is s moment ask service served r calm h = go (is_own s.owner r.reference) refl
  where
    go : (b : Bool) → is_own s.owner r.reference ≡ b → IsIntent s served r
    go true e = let k = calm.held_own r h e in record { pair = k.0; is = rw e k.1; ovn = ap (λ (x : Reference). x.ovn) k.2 }
    go false e = let k = calm.served_others r h e in record { pair = k.0; is = rw e k.1; ovn = k.2.ovn }

key_has : (s : Standing) (moment : ℤ) (ask : FlightAsk) (service : Service) (served : List OperationalIntent) (r : Recorded) → IsUndisturbed s moment ask service served → Has service.references r → Has (around s ask service) r
    → in_key (key_of (intents_around s ask service served)) r.reference ≡ true
unfolding key_of
key_has s moment ask service served r calm h a =
    let i = intent_is s moment ask service served r calm h in
    let l = calm.orderly.landed r h in
    let o : r.reference.ovn ≡ Some l.0.ovn = l.2.ovn in
    let p = has_picks (intent_of s served) (around s ask service) r i.pair a i.is in
    let k = has_picks ovn_of (intents_around s ask service served) i.pair l.0.ovn p (i.ovn ∙ o) in
    any_true (λ x. has_ovn r.reference.ovn x) (filter_map ovn_of (intents_around s ask service served)) l.0.ovn k (ap (λ x. has_ovn x l.0.ovn) o ∙ equal_bytes l.0.ovn l.0.ovn refl)

none_lacks : (s : Standing) (moment : ℤ) (ask : FlightAsk) (service : Service) (served : List OperationalIntent) (extents : List Volume4D) → IsUndisturbed s moment ask service served → AreaCovers ask service
    → ((v : Volume4D) → Has extents v → Has (all_extents (proposals_of ask.wish)) v)
    → lacking (key_of (intents_around s ask service served)) (relevant (flight_of s.owner (opening_for s (clamped moment) ask)) extents service) ≡ []
none_lacks s moment ask service served extents calm covers among =
    none_filtered (λ (r : Recorded). not (in_key key r.reference)) (relevant flight extents service) (λ r h. ap not (here r h))
  where
    flight : ℕ
    flight = flight_of s.owner (opening_for s (clamped moment) ask)

    key : List (List ℕ)
    key = key_of (intents_around s ask service served)

    here : (r : Recorded) → Has (relevant flight extents service) r → in_key key r.reference ≡ true
    here r h =
        let t : Recorded → Bool = λ r. not (r.reference.flight == flight) && any_shares r.extents extents in
        let has = has_filter t service.references r h in
        let p = both (not (r.reference.flight == flight)) (any_shares r.extents extents) (has_passed t service.references r h) in
        let near = covers r has (more_share r.extents extents (all_extents (proposals_of ask.wish)) among p.1) in
        let found = has_filtered (λ (x : Recorded). reach x.extents (area_of ask.wish)) service.references r has near in
        key_has s moment ask service served r calm has (has_filtered (λ (x : Recorded). not (x.reference.flight == flight)) (found_in (area_of ask.wish) service.references) r found p.0)

-- the choice

first_with : (s : Standing) (v : Values) (o : Opening) (alternative : ℕ) (to : State) (priority rounds : ℕ) (proposals : List Proposal) (proposal : Proposal) → IsFirst s o alternative to priority rounds proposals proposal
    → IsFirst (with_values s v) o alternative to priority rounds proposals proposal
first_with s v o alternative to priority rounds proposals proposal f =
    record { unfinished = f.unfinished; owned = f.owned; wish = f.wish; at = f.at; untried = f.untried; tags = f.tags; fits = f.fits }

pub chooses_out : (s : Standing) (moment : ℤ) (ask : FlightAsk) (service : Service) (served : List OperationalIntent) (u v : Values) (event : Event) (to : State) (priority rounds : ℕ) (proposals : List Proposal)
    → ask.wish ≡ Put to priority rounds proposals → IsSound s.owner s.book s.values → IsUndisturbed s moment ask service served → AreaCovers ask service
    → turn_of (with_values (looks_from s moment ask) u) moment event ≡ choosing (with_values (looks_from s moment ask) v) (opening_for s (clamped moment) ask)
    → pairs_in (with_values (looks_from s moment ask) v) (round_of (opening_for s (clamped moment) ask).job v) ≡ intents_around s ask service served
    → length (round_of (opening_for s (clamped moment) ask).job v).found ≤ 1024
    → ComesOutAs (IsOfChoice (is_new s ask) (its_flight s ask) (intents_around s ask service served) (choice_of s (opening_for s (clamped moment) ask) (intents_around s ask service served))) s.owner.name served (with_values (looks_from s moment ask) u) moment event
    (ticketed s moment ask service)
chooses_out s moment ask service served u v event to priority rounds proposals w sound calm covers turn pairs few =
    go (choice_of s o intents) refl (turn ∙ ap (λ (x : List OperationalIntent). choosing_by t o x (choice_of t o x)) pairs ∙ ap (choosing_by t o intents) chosen)
  where
    o : Opening
    o = opening_for s (clamped moment) ask

    t : Standing
    t = with_values (looks_from s moment ask) v

    now : Standing
    now = with_values (looks_from s moment ask) u

    intents : List OperationalIntent
    intents = intents_around s ask service served

    -- the choice is by what is held, which stays
    by_wish : (x : Wish) → choice_by t o intents x ≡ choice_by s o intents x
    by_wish (Put to priority rounds proposals) = ap (λ h. choice (wanted s.owner.table (flight_of s.owner o) to priority h) proposals intents) (held_stays s moment ask ask.flight sound)
    by_wish End = refl

    chosen : choice_of t o intents ≡ choice_of s o intents
    chosen = by_wish ask.wish

    is_choice : choice_of s o intents ≡ choice (wanted s.owner.table (flight_of s.owner o) to priority (held ask.flight s.book)) proposals intents
    is_choice = ap (choice_by s o intents) w

    plans : ArePlans to priority rounds proposals
    plans = are_plans to priority rounds proposals (ap plan_refusal (sym w) ∙ (plan_of s moment ask service served calm))

    none_tried : trials_of o.job (looking_book s moment ask) ≡ []
    none_tried = looking_untried s moment ask sound

    go : (c : Choice) → choice_of s o intents ≡ c → turn_of now moment event ≡ choosing_by t o intents c → ComesOutAs (IsOfChoice (is_new s ask) (its_flight s ask) intents (choice_of s o intents)) s.owner.name served now moment event (ticketed s moment ask service)
    go (Chosen alternative) e q =
        let f = chosen_is_free _ proposals intents alternative (sym is_choice ∙ e) in
        let short : length (key_of intents) ≤ 1024 = (let l = key_is_short t (round_of o.job v) in let m = subst (λ x. length (key_of x) ≤ length (round_of o.job v).found) pairs l in omega (arith, m, few)) in
        let lacks = none_lacks s moment ask service served (f.proposal.volumes ++ f.proposal.off_nominal) calm covers
        (λ x h. subst (λ (y : Wish). Has (all_extents (proposals_of y)) x) (sym w) (in_all proposals f.proposal x (has_slice proposals alternative f.proposal f.at) h)) in
        subst (λ c. ComesOutAs (IsOfChoice (is_new s ask) (its_flight s ask) intents c) s.owner.name served now moment event (ticketed s moment ask service)) (sym e)
        (subst (λ b. ComesOutAs (IsRecordedBy b (its_flight s ask) alternative) s.owner.name served now moment event (ticketed s moment ask service)) (base_new s moment ask sound) (tries now v moment event served (ticketed s moment ask service) o alternative (key_of intents) to priority rounds proposals f.proposal q
        (first_with (looks_from s moment ask) u o alternative to priority rounds proposals f.proposal (first_at s moment ask alternative to priority rounds proposals f.proposal sound w f.at))
        (ticketed_orderly s moment ask service served calm)
        (is_acceptable s moment ask service served alternative (key_of intents) to priority rounds proposals f.proposal sound calm w f.at short (first_false (is_strategic to) _ (rw lacks refl)))))
    go (Blocked place rule) e q =
        let some = plans.some_proposals in
        let b = blocked_is_by _ proposals intents place rule (omega (arith, some)) (sym is_choice ∙ e) in
        let p = b.pair in
        let end = Ends.Conflict p.reference.flight p.reference.manager rule in
        let ends : turn_of now moment event ≡ ending t o end = q ∙ ap (blocked_by t o rule) b.at ∙ ap (giving_up_after t o end) none_tried in
        let said = ap (λ (x : Turn). x.said) ends ∙ ap said_of (kept_end s.owner o (looking_book s moment ask) end (looking_unfinished s moment ask sound).unclosed) in
        subst (λ c. ComesOutAs (IsOfChoice (is_new s ask) (its_flight s ask) intents c) s.owner.name served now moment event (ticketed s moment ask service)) (sym e)
        (stops_by (IsOfChoice (is_new s ask) (its_flight s ask) intents (Blocked place rule)) s.owner.name served now moment event (ticketed s moment ask service) (Says.Answer (Answers.Conflict p.reference.flight p.reference.manager rule)) said refl
        (rw b.at refl))
