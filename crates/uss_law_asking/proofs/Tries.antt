-- That an attempt which the discovery service accepts comes to Planned or Changed, where nobody disturbs it.
use Rattle.std.proofs.Common.{ℕ, ℤ, ◌+◌, ◌<◌, ◌≤◌, ◌^◌, ◌==◌, ◌≡◌, inl, inr, Bool, true, false, cond, not, ◌&&◌, nat_le, is_none, is_some, List, [], ◌∷◌, ◌++◌, slice_get, length, refl, ap, sym, subst, ◌∙◌, arith, Option, Some, None}
use Rattle.std.specs.List.{find, last_or}
use Rattle.std.specs.Option.{option_map, option_or, option_and_then}
use Rattle.std.proofs.lemmas.List.Folds.{find-append}
use Rattle.uss_vol4.specs.Volume.{Volume4D}
use Rattle.uss_intent.specs.Identifiers.{ticket_number}
use Rattle.uss_intent.specs.Texts.{tagged_base}
use Rattle.uss_intent.proofs.TagLemmas.{tagged_is_read}
use Rattle.uss_intent.specs.declared.records.State.{State}
use Rattle.uss_intent.specs.declared.records.Reference.{Reference}
use Rattle.uss_intent.specs.declared.records.Subscriber.{Subscriber}
use Rattle.uss_intent.specs.declared.calls.DssAsk.TheVariants as Asks
use Rattle.uss_intent.specs.declared.calls.DssReply.TheVariants as Replies
use Rattle.uss_intent.specs.States.{is_strategic}
use Rattle.uss_intent.specs.Numbers.{is_one_of}
use Rattle.uss_event.specs.Pairs.{OperationalIntent}
use Rattle.uss_event.specs.declared.details.Proposal.{Proposal}
use Rattle.uss_event.specs.declared.asks.Wish.TheVariants.{Put}
use Rattle.uss_event.specs.declared.entries.Owner.{Owner}
use Rattle.uss_event.specs.declared.entries.Entry.{Entry}
use Rattle.uss_event.specs.declared.entries.Entry.TheVariants as Enters
use Rattle.uss_event.specs.declared.calls.DssCall.{DssCall}
use Rattle.uss_event.specs.declared.events.Answer.TheVariants as Answers
use Rattle.uss_event.specs.declared.events.Event.{Event}
use Rattle.uss_event.specs.declared.events.Event.TheVariants as Comes
use Rattle.uss_law_dss.specs.Lists.{Has}
use Rattle.uss_law_dss.specs.Fits.{fits}
use Rattle.uss_law_dss.specs.Orderly as Dss
use Rattle.uss_law_dss.specs.Service.{Service, recorded_of, ticket_of, relevant, lacking}
use Rattle.uss_law_dss.specs.Refusals.{is_bad_put, is_others, is_stale_change, is_no_ticket_of, is_uncovered, is_at_last_version}
use Rattle.uss_law_dss.specs.Step.{service_step, after_put}
use Rattle.uss_law_dss.proofs.EachFits.{step_fits}
use Rattle.uss_law_dss.proofs.Tests.{equal_number, unequal_number}
use Rattle.uss_event.specs.declared.entries.Opening.{Opening}
use Rattle.uss_event.specs.declared.entries.Trial.{Trial}
use Rattle.uss_event.specs.declared.entries.Holding.{Holding}
use Rattle.uss_law_book.specs.Lists.{owner_of, trials, holdings}
use Rattle.uss_law_book.specs.Contents.{is_closed, trials_of, trial_of, current_ovn_of, holding_of}
use Rattle.uss_law_book.specs.Attempts.{Attempted, attempted, attempt_of, put_of}
use Rattle.uss_law_book.proofs.Attempts.{owner_kept, from_parts, trial_kept}
use Rattle.uss_law_book.proofs.Entries.{trials_append, holdings_append, opening_kept}
use Rattle.uss_law_duty.specs.Duties.{says_something}
use Rattle.uss_law_duty.specs.Answers.{flight_of, kept_answer}
use Rattle.uss_law_duty.specs.Entered.{shown_tag}
use Rattle.uss_law_supplier.specs.declared.duties.Awaited.TheVariants as Waits
use Rattle.uss_law_supplier.specs.Values.{Values, awaited_of}
use Rattle.uss_law_supplier.specs.Calls.{last_trial, last_attempt}
use Rattle.uss_law_supplier.specs.Turns.{Standing, Turn, said_of, dss_call, calling, with_entry}
use Rattle.uss_law_supplier.specs.Jobs.{with_values, making, pending, attempting, holding_as, recording}
use Rattle.uss_law_book.proofs.Others.{trials_either}
use Rattle.uss_law_supplier.proofs.Waits.{awaiting_own}
use Rattle.uss_law_supplier.proofs.Onward.{IsOpenJob}
use Rattle.uss_law_asking.specs.Exchange.{turn_of, stands_then}
use Rattle.uss_law_asking.specs.Complete.{IsRecordedBy}
use Rattle.uss_law_asking.proofs.Acts.{still, pending_leaves_open}
use Rattle.uss_law_asking.proofs.Walk.{ComesOutAs, goes_on_by, stops_by, acts_so}
use Rattle.uss_law_asking.proofs.Ends.{none_held}

-- the discovery service accepts a Put where no test holds

pub record IsAcceptable (service : Service) (client : List ℕ) (flight : ℕ) (ovn : Option (List ℕ)) (extents : List Volume4D) (key : List (List ℕ)) (state : State) (ticket : ℕ) : Type 0 where
  pub good : is_bad_put extents key ≡ false
  pub yours : is_others client (recorded_of flight service) ≡ false
  pub absent : (is_none ovn && is_some (recorded_of flight service)) ≡ false
  pub alive : is_one_of flight service.retired_flights ≡ false
  pub there : (is_some ovn && is_none (recorded_of flight service)) ≡ false
  pub latest : is_stale_change (recorded_of flight service) ovn ≡ false
  pub ticketed : is_no_ticket_of client (ticket_of ticket service) ≡ false
  pub covered : is_uncovered (ticket_of ticket service) extents ≡ false
  pub keyed : (is_strategic state && not (length (lacking key (relevant flight extents service)) == 0)) ≡ false
  pub room : (is_none ovn && nat_le 4096 (length service.references)) ≡ false
  pub version : is_at_last_version (recorded_of flight service) ≡ false
  pub landings : nat_le 9999999999999999 (length service.landings) ≡ false

accepts : (service : Service) (client : List ℕ) (flight : ℕ) (ovn : Option (List ℕ)) (extents : List Volume4D) (key : List (List ℕ)) (state : State) (base : List ℕ) (ticket : ℕ) → IsAcceptable service client flight ovn extents key state ticket
    → service_step service client (Asks.Put flight ovn extents key state base ticket) ≡ after_put service client flight ovn extents state base ticket
accepts service client flight ovn extents key state base ticket a =
    rw (a.good, a.yours, a.absent, a.alive, a.there, a.latest, a.ticketed, a.covered, a.keyed, a.room, a.version, a.landings) refl

-- the job's first attempt

abbrev trial : Standing → Opening → ℕ → List (List ℕ) → Trial
trial s o alternative key = record { job = o.job; tag = length (trials s.book) + 1; alternative = alternative; previous = current_ovn_of o.ask.flight s.book; key = key }

pub record IsFirst (s : Standing) (o : Opening) (alternative : ℕ) (to : State) (priority rounds : ℕ) (proposals : List Proposal) (proposal : Proposal) : Type 0 where
  pub unfinished : IsOpenJob s.book o
  pub owned : owner_of s.book ≡ Some s.owner
  pub wish : o.ask.wish ≡ Put to priority rounds proposals
  pub at : slice_get proposals alternative ≡ Some proposal
  pub untried : trials_of o.job s.book ≡ []
  pub tags : (t : Trial) → Has (trials s.book) t → t.tag ≤ length (trials s.book)
  pub fits : length (trials s.book) + 1 < 2 ^ 64

trial_is : (s : Standing) (o : Opening) (alternative : ℕ) (key : List (List ℕ)) → ((t : Trial) → Has (trials s.book) t → t.tag ≤ length (trials s.book))
    → trial_of (length (trials s.book) + 1) (s.book ++ pending s o alternative key ∷ []) ≡ Some (trial s o alternative key)
unfolding trial_of
trial_is s o alternative key few =
    let n = length (trials s.book) + 1 in
    let p : Trial → Bool = λ t. t.tag == n in
    let old : find p (trials s.book) ≡ None = find_none_of p (trials s.book) (λ t h. let l = few t h in unequal_number t.tag n (λ q. omega (arith, l, q))) in
    ap (find p) (trials_append s.book (pending s o alternative key ∷ [])) ∙ find-append p (trials s.book) (trial s o alternative key ∷ []) ∙ ap (λ x. option_or x (find p (trial s o alternative key ∷ []))) old
    ∙ rw (equal_number n n refl) refl
  where
    find_none_of : (p : Trial → Bool) (xs : List Trial) → ((t : Trial) → Has xs t → p t ≡ false) → find p xs ≡ None
    find_none_of p [] h = refl
    find_none_of p (x ∷ xs) h = rw (h x (inl refl)) (find_none_of p xs (λ t k. h t (inr k)))

attempt_is : (s : Standing) (o : Opening) (alternative : ℕ) (key : List (List ℕ)) (to : State) (priority rounds : ℕ) (proposals : List Proposal) (proposal : Proposal) → IsFirst s o alternative to priority rounds proposals proposal
    → last_attempt o.job (s.book ++ pending s o alternative key ∷ []) ≡ Some (attempted s.owner o (trial s o alternative key) to priority proposal)
unfolding last_trial trials_of
attempt_is s o alternative key to priority rounds proposals proposal f =
    let e = pending s o alternative key in
    let t = trial s o alternative key in
    let a = attempted s.owner o t to priority proposal in
    let one : trials_of o.job (e ∷ []) ≡ t ∷ [] = rw (equal_number o.job o.job refl) refl in
    let all : trials_of o.job (s.book ++ e ∷ []) ≡ t ∷ [] = trials_either o.job s.book (e ∷ []) ∙ ap (λ (l : List Trial). l ++ trials_of o.job (e ∷ [])) f.untried ∙ one in
    let last : last_trial o.job (s.book ++ e ∷ []) ≡ Some t = ap (last_or None) all in
    let found : attempt_of t.tag (s.book ++ e ∷ []) ≡ Some a =
    from_parts t.tag (s.book ++ e ∷ []) a (record {
      owner = s.owner;
      trial = t;
      opening = o;
      has_owner = owner_kept s.book (e ∷ []) s.owner f.owned;
      has_trial = trial_is s o alternative key f.tags;
      has_opening = opening_kept s.book (e ∷ []) o.job o f.unfinished.opened;
      is = rw (f.wish, f.at) refl;
    }) in
    ap (option_and_then (λ (t : Trial). attempt_of t.tag (s.book ++ e ∷ []))) last ∙ found

-- what landed is entered, and said

recorded_so : (flight tag alternative : ℕ) (ovn : List ℕ) (version : ℕ) (previous : Option (List ℕ))
    → IsRecordedBy (is_none previous) flight alternative (said_of (cond (is_none previous) (Some (Answers.Planned flight tag alternative ovn version)) (Some (Answers.Changed flight tag alternative ovn version))))
recorded_so flight tag alternative ovn version None = (refl, refl)
recorded_so flight tag alternative ovn version (Some p) = (refl, refl)

says_so : (flight tag alternative : ℕ) (ovn : List ℕ) (version : ℕ) (previous : Option (List ℕ))
    → says_something (said_of (cond (is_none previous) (Some (Answers.Planned flight tag alternative ovn version)) (Some (Answers.Changed flight tag alternative ovn version)))) ≡ true
says_so flight tag alternative ovn version None = refl
says_so flight tag alternative ovn version (Some p) = refl

kept_record : (owner : Owner) (o : Opening) (book : List Entry) (t : Trial) (ovn : List ℕ) (version : ℕ) (owed : List Subscriber) → is_closed o.job book ≡ false → trial_of t.tag book ≡ Some t
    → kept_answer owner o (book ++ Enters.Held (record { job = o.job; tag = t.tag; ovn = ovn; version = version; owed = owed }) ∷ [])
    ≡ cond (is_none t.previous) (Some (Answers.Planned (flight_of owner o) t.tag t.alternative ovn version)) (Some (Answers.Changed (flight_of owner o) t.tag t.alternative ovn version))
unfolding kept_answer holding_of
kept_record owner o book t ovn version owed u f =
    let e = Enters.Held (record { job = o.job; tag = t.tag; ovn = ovn; version = version; owed = owed }) in
    let h : Holding = record { job = o.job; tag = t.tag; ovn = ovn; version = version; owed = owed } in
    let held : holding_of o.job (book ++ e ∷ []) ≡ Some h =
    ap (find (λ (h : Holding). h.job == o.job)) (holdings_append book (e ∷ []))
    ∙ find-append (λ (h : Holding). h.job == o.job) (holdings book) (h ∷ [])
    ∙ ap (λ x. option_or x (find (λ (h : Holding). h.job == o.job) (h ∷ []))) (none_held o.job book u)
    ∙ rw (equal_number o.job o.job refl) refl in
    rw (held, trial_kept book (e ∷ []) t.tag t f) refl

lands : (s : Standing) (moment : ℤ) (o : Opening) (served : List OperationalIntent) (service : Service) (t : Trial) (flight : ℕ) (previous : Option (List ℕ)) (extents : List Volume4D) (key : List (List ℕ)) (state : State) (ticket : ℕ)
    (r : Reference) (ovn : List ℕ) (owed : List Subscriber) → IsOpenJob s.book o → trial_of t.tag s.book ≡ Some t → 1 ≤ t.tag → t.tag < 2 ^ 64
    → awaited_of o.job s.values ≡ Some (dss_call o.job (Asks.Put flight previous extents key state (tagged_base s.owner.base t.tag) ticket))
    → fits (Asks.Put flight previous extents key state (tagged_base s.owner.base t.tag) ticket) (Replies.Landed r owed) ≡ true → r.base ≡ tagged_base s.owner.base t.tag → r.ovn ≡ Some ovn
    → ComesOutAs (IsRecordedBy (is_none t.previous) (flight_of s.owner o) t.alternative) s.owner.name served s moment (Comes.Dss (record { job = o.job; ask = Asks.Put flight previous extents key state (tagged_base s.owner.base t.tag) ticket }) (Replies.Landed r owed)) service
lands s moment o served service t flight previous extents key state ticket r ovn owed u found low high waits fit base shown =
    let ask = Asks.Put flight previous extents key state (tagged_base s.owner.base t.tag) ticket in
    let event = Comes.Dss (record { job = o.job; ask = ask }) (Replies.Landed r owed) in
    let tag : shown_tag r ≡ Some t.tag = rw (shown, base) (tagged_is_read s.owner.base t.tag low high) in
    let acts : turn_of s moment event ≡ recording s o owed (Some r) = acts_so s moment o ask (Replies.Landed r owed) Waits.Put u waits refl fit in
    let turn : turn_of s moment event ≡ holding_as s o owed r (Some t.tag) (Some ovn) = acts ∙ ap (λ x. holding_as s o owed r x r.ovn) tag ∙ ap (λ x. holding_as s o owed r (Some t.tag) x) shown in
    let said = ap (λ (x : Turn). x.said) turn ∙ ap said_of (kept_record s.owner o s.book t ovn r.version owed u.unclosed found) in
    stops_by (IsRecordedBy (is_none t.previous) (flight_of s.owner o) t.alternative) s.owner.name served s moment event service _ said (says_so (flight_of s.owner o) t.tag t.alternative ovn r.version t.previous) (recorded_so (flight_of s.owner o) t.tag t.alternative ovn r.version t.previous)

pub tries : (s : Standing) (v : Values) (moment : ℤ) (event : Event) (served : List OperationalIntent) (service : Service) (o : Opening) (alternative : ℕ) (key : List (List ℕ)) (to : State) (priority rounds : ℕ) (proposals : List Proposal) (proposal : Proposal)
    → turn_of s moment event ≡ attempting (with_values s v) o alternative key → IsFirst s o alternative to priority rounds proposals proposal → Dss.IsOrderly service
    → IsAcceptable service s.owner.name (flight_of s.owner o) (current_ovn_of o.ask.flight s.book) (proposal.volumes ++ proposal.off_nominal) key to (ticket_number s.owner.number o.job)
    → ComesOutAs (IsRecordedBy (is_none (current_ovn_of o.ask.flight s.book)) (flight_of s.owner o) alternative) s.owner.name served s moment event service
tries s v moment event served service o alternative key to priority rounds proposals proposal turn f orderly a =
    let w = with_values s v in
    let e = pending s o alternative key in
    let t = trial s o alternative key in
    let put = put_of (attempted s.owner o t to priority proposal) in
    let call : DssCall = record { job = o.job; ask = put } in
    let then = with_entry e (calling o.job (dss_call o.job put) v) in
    let made : turn_of s moment event ≡ then =
    turn ∙ ap (λ (x : Option Attempted). with_entry e (making (record { owner = s.owner; book = s.book ++ e ∷ []; values = v }) o.job (option_map put_of x))) (attempt_is s o alternative key to priority rounds proposals proposal f) in
    let step = accepts service s.owner.name (flight_of s.owner o) (current_ovn_of o.ask.flight s.book) (proposal.volumes ++ proposal.off_nominal) key to (tagged_base s.owner.base t.tag) (ticket_number s.owner.number o.job) a in
    let fit = subst (λ x. fits put x.0 ≡ true) step (step_fits service s.owner.name put orderly) in
    let n = f.fits in
    goes_on_by (IsRecordedBy (is_none (current_ovn_of o.ask.flight s.book)) (flight_of s.owner o) alternative) s.owner.name served s moment event service call then made refl refl
    (subst (λ x. ComesOutAs (IsRecordedBy (is_none (current_ovn_of o.ask.flight s.book)) (flight_of s.owner o) alternative) s.owner.name served (stands_then s then) moment (Comes.Dss call x.0) x.1) (sym step)
    (lands (stands_then s then) moment o served _ t (flight_of s.owner o) (current_ovn_of o.ask.flight s.book) (proposal.volumes ++ proposal.off_nominal) key to (ticket_number s.owner.number o.job) _ _ _
    (still s o e f.unfinished (pending_leaves_open s o alternative key)) (trial_is s o alternative key f.tags) (omega arith) n (awaiting_own o.job (dss_call o.job put) v) fit refl refl))
